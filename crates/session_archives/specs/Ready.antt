-- WHAT DUMPS ASK OF A WORLD beside the archive that its plant holds, and what a saved database asks that is read back.
use Rattle.std.specs.Prelude.{◌≡◌, ℕ, ◌≤◌, Bool, true, false, List, [], ◌∷◌, ◌++◌, map, min, max, Option, Some, None, All}
use Rattle.media_core.specs.Later.{later}
use Rattle.bk_text.specs.Alphabets.{IsHost}
use Rattle.byte_formats.specs.Forms.{IsFour, IsMaybe}
use Rattle.cell_core.specs.declared.stored.Stored.{Stored}
use Rattle.cell_core.specs.Fairness.{Fair, NoneIsMadeAfter, NoSourceHasBackupName}
use Rattle.cell_forms.specs.Forms.{IsCellForm}
use Rattle.tape_config.specs.declared.port.PortFields.{PortFields}
use Rattle.tape_config.specs.Configs.{port_in, name_or_nothing}
use Rattle.plant_core.specs.Effects.{commits, come}
use Rattle.budb_changes.specs.declared.change.Change.{Change}
use Rattle.budb_changes.specs.declared.records.DumpRecordFields.{DumpRecordFields}
use Rattle.budb_changes.specs.Bytes.{encoded}
use Rattle.budb_fold.specs.Database.{after}
use Rattle.archive_model.specs.Archives.{Archive, listed_of, AreDumps}
use Rattle.archive_model.specs.Sources.{dumped_by}
use Rattle.archive_model.specs.Settled.{HoldsSettled}
use Rattle.dump_commands.specs.Forms.{AreVolumes}
use Rattle.dump_laws.specs.Beginning.{HeadsAreBelow}
use Rattle.group_laws.specs.Forms.{ArePortsApart}
use Rattle.volume_sets.specs.declared.sets.SetEntry.{SetEntry}
use Rattle.volume_sets.specs.Sets.{entries_of}
use Rattle.restore_target.specs.Targets.{target_text}
use Rattle.restore_commands.specs.Choices.{disk_choices, set_choices}
use Rattle.backup_words.specs.declared.command.Command.{Command}
use Rattle.backup_words.specs.declared.command.RestoredVolumes.{RestoredVolumes}
use Rattle.backup_words.specs.declared.command.RestoredVolumes.TheVariants.{One, OfDisk, OfSet}
use Rattle.backup_words.specs.declared.command.Wanted.{Wanted}
use Rattle.command_forms.specs.NewNames.{IsApart}
use Rattle.backup_session.specs.Asks.{Asks, AsksNothing, AsksArchive, AsksFitness, AsksSaved, asks, asks_dump}
use Rattle.backup_session.specs.Worlds.{World, archive_of, at_moment}
use Rattle.backup_session.specs.Saves.{time_back, changes_back}
use Rattle.backup_script.specs.declared.item.Item.{Item}
use Rattle.backup_script.specs.declared.item.Item.TheVariants.{Silent, Quit, Runs, Refused}
use Rattle.backup_script.specs.Items.{item_of}
use Rattle.backup_script.specs.Scripts.{first_of, one_line}
use Rattle.backup_script.specs.Held.{IfItGoes}
use Rattle.script_journals.specs.Dumping.{dumps_among, reads_back_among}

-- A cell is fit for dumps at a time, beside an archive: it is fair to what the archive's dumps have, and no read/write volume has the name of
-- a backup volume; each id on a tape is at most the greatest id that was begun or recorded, or before the time; and what dumps have of volumes
-- are volumes of the types.
pub record IsFit (cell : List Stored) (time : ℕ) (a : Archive) : Type 0 where
  pub fair : (records : List DumpRecordFields) → AreDumps (listed_of a) a.slots records → Fair cell (dumped_by a.contents records) time
  pub named : NoSourceHasBackupName cell
  pub heads : HeadsAreBelow a.slots time (after a.log).greatest
  pub volumes : AreVolumes a.contents

-- It is in order where moreover its list has its form, the time has four bytes, and no volume is made later.
pub record IsInOrder (cell : List Stored) (time : ℕ) (a : Archive) : Type 0 where
  pub form : IsCellForm cell
  pub four : IsFour time
  pub made : NoneIsMadeAfter time cell
  pub fit : IsFit cell time a

-- a world whose cell is fit for dumps beside its archive
abbrev pub IsFitWorld : World → Type 0
IsFitWorld w = IsFit w.cell w.time (archive_of w)

-- A world is ready for dumps: its cell is in order beside its archive, the cell's name is one of a host or left out, tapes of a port take at most
-- 4,000,000,000 bytes, and two ports have no slot in common.
pub record IsReady (w : World) : Type 0 where
  pub order : IsInOrder w.cell w.time (archive_of w)
  pub name : IsMaybe IsHost (name_or_nothing w.setting.config.cell)
  pub ports : (offset : ℕ) (port : PortFields) → port_in offset w.setting.config.entries ≡ Some port → port.capacity ≤ 4000000000
  pub apart : ArePortsApart w.setting.config.entries

-- ---- what commands are not to do

-- the names under which the chosen volumes are restored
abbrev pub targets_of : Option (List ℕ) → List Wanted → List (List ℕ)
targets_of extension choices = map (λ c. target_text c.name extension) choices

-- the names under which the volumes of a set are restored; none where there is no such set
abbrev pub set_targets : List DumpRecordFields → Option (List ℕ) → Option (List SetEntry) → List (List ℕ)
set_targets listed extension None = []
set_targets listed extension (Some entries) = targets_of extension (set_choices listed entries)

-- a trial restores nothing
abbrev pub unless_trial : Bool → List (List ℕ) → List (List ℕ)
unless_trial true names = []
unless_trial false names = names

-- the names under which volumes are restored
abbrev pub volume_targets : World → Option (List ℕ) → RestoredVolumes → List (List ℕ)
volume_targets w extension (One wanted) = target_text wanted.name extension ∷ []
volume_targets w extension (OfDisk disk) = targets_of extension (disk_choices (listed_of (archive_of w)) disk)
volume_targets w extension (OfSet name) = set_targets (listed_of (archive_of w)) extension (entries_of name (after w.log).sets)

-- those under which one puts volumes that asks this of a world
abbrev pub names_put : World → Asks → List (List ℕ)
names_put w AsksNothing = []
names_put w (AsksArchive command) = unless_trial command.trial (volume_targets w command.extension command.volumes)
names_put w AsksFitness = []
names_put w (AsksSaved offset) = []

-- the names under which a command restores volumes of a world
abbrev pub restored_names : World → Command → List (List ℕ)
restored_names w command = names_put w (asks command)

-- No volume is restored under a name that ends in `.backup`: there a read/write volume would stand in the place of a backup volume.
abbrev pub RestoresApart : World → Command → Type 0
RestoresApart w command = All IsApart (restored_names w command)

-- So it is on a line, and on each line of a script that is run.
abbrev pub RestoresApartOn : World → Item → Type 0
RestoresApartOn w Silent = Unit {0}
RestoresApartOn w Quit = Unit {0}
RestoresApartOn w (Refused text) = Unit {0}
RestoresApartOn w (Runs command) = RestoresApart w command

-- so it is on each line of a script that is run
unfoldable pub RestoresApartThroughout : World → List ℕ → List (List ℕ) → Type 0
RestoresApartThroughout w ms [] = Unit {0}
RestoresApartThroughout w ms (line ∷ lines) =
    let s = one_line w ms (item_of line) in
    RestoresApartOn w (item_of line) × IfItGoes s.goes (RestoresApartThroughout s.world s.moments lines)

-- ---- what is asked of a world

-- A saved database that is read back fits the media: with its changes behind the journal the plant holds the archive of its tapes, and the cell is
-- fair to what the dumps have that are listed then.
pub record FitsBack (w : World) (changes : List Change) : Type 0 where
  pub records : List DumpRecordFields
  pub holds : HoldsSettled (come (commits (encoded changes) ∷ []) w.state) (record (archive_of w) { log = w.log ++ changes }) records
  pub fair : (dumps : List DumpRecordFields) → AreDumps (after (w.log ++ changes)).listed (archive_of w).slots dumps → Fair w.cell (dumped_by w.contents dumps) (time_back w changes)

-- so it is where a command reads one back
abbrev pub FitsBackWhere : World → Asks → Type 0
FitsBackWhere w AsksNothing = Unit {0}
FitsBackWhere w (AsksArchive command) = Unit {0}
FitsBackWhere w AsksFitness = Unit {0}
FitsBackWhere w (AsksSaved offset) = (changes : List Change) → changes_back w offset ≡ Some changes → FitsBack w changes

-- so it is for this command: only one that reads a saved database back asks anything
abbrev pub FitsBackFor : World → Command → Type 0
FitsBackFor w command = FitsBackWhere w (asks command)

-- so it is on a line, and on each line of a script that is run
abbrev pub FitsBackOn : World → Item → Type 0
FitsBackOn w Silent = Unit {0}
FitsBackOn w Quit = Unit {0}
FitsBackOn w (Refused text) = Unit {0}
FitsBackOn w (Runs command) = FitsBackFor w command

unfoldable pub FitsBackThroughout : World → List ℕ → List (List ℕ) → Type 0
FitsBackThroughout w ms [] = Unit {0}
FitsBackThroughout w ms (line ∷ lines) =
    let s = one_line w ms (item_of line) in
    FitsBackOn (at_moment w (first_of ms)) (item_of line) × IfItGoes s.goes (FitsBackThroughout s.world s.moments lines)

-- A dump finds a world that is ready, and a saved database that is read back fits the media.
pub record IsReadyForCommand (w : World) (command : Command) : Type 0 where
  pub ready : asks_dump command ≡ true → IsReady w
  pub back : FitsBackFor w command

-- the moments that are left behind a line
abbrev pub left_behind : List ℕ → Item → List ℕ
left_behind ms Silent = ms
left_behind ms Quit = ms
left_behind ms (Refused text) = later ms
left_behind ms (Runs command) = later ms

-- the time at a line where it is a command, or the end; else that of those after it
abbrev pub time_by : ℕ → List ℕ → Item → ℕ → ℕ
time_by time ms Silent further = further
time_by time ms Quit further = time
time_by time ms (Refused text) further = further
time_by time ms (Runs command) further = max time (min (first_of ms) 4294967295)

-- The session's time at the first command of a script: the greatest of its time before and of that command's moment. A line that is refused for
-- its words uses a moment, and leaves the time.
unfoldable pub time_at_first : ℕ → List ℕ → List (List ℕ) → ℕ
time_at_first time ms [] = time
time_at_first time ms (line ∷ lines) = time_by time ms (item_of line) (time_at_first time (left_behind ms (item_of line)) lines)

-- a world at the first command of a script
abbrev pub at_first : World → List ℕ → List (List ℕ) → World
at_first w ms lines = record w { time = time_at_first w.time ms lines }

-- Of a script that dumps on a line that is run: at its first command the world is ready, and no line that is run restores a volume under a name
-- that ends in `.backup`. Of one that reads a saved database back: it fits the media. Of other scripts nothing is asked.
pub record IsReadyFor (w : World) (ms : List ℕ) (lines : List (List ℕ)) : Type 0 where
  pub dumps : dumps_among lines ≡ true → IsReady (at_first w ms lines) × RestoresApartThroughout w ms lines
  pub back : reads_back_among lines ≡ true → FitsBackThroughout w ms lines

-- The same of a world that is fit: what such a script asks beside the forms of the world, which no script asks for.
pub record IsFitFor (w : World) (ms : List ℕ) (lines : List (List ℕ)) : Type 0 where
  pub dumps : dumps_among lines ≡ true → IsFitWorld (at_first w ms lines) × RestoresApartThroughout w ms lines
  pub back : reads_back_among lines ≡ true → FitsBackThroughout w ms lines

-- Where one of the lines that are run dumps, what dumps have of volumes are volumes of the types.
abbrev pub AreVolumesFor : World → List (List ℕ) → Type 0
AreVolumesFor w lines = dumps_among lines ≡ true → AreVolumes w.contents
