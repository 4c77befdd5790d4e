-- WHAT A RESTORE ANSWERS, and how it leaves the cell: one look-up in the archive for each volume.
use Rattle.std.specs.Prelude.{ℕ, List, [], ◌∷◌, ◌++◌, length, Bool, if◌then◌else◌, Option, Some, None, Result, Ok, Err}
use Rattle.std.specs.List.{flat_map}
use Rattle.vnode_model.specs.declared.volumes.VolumeFields.{VolumeFields}
use Rattle.volume_sets.specs.declared.sets.SetEntry.{SetEntry}
use Rattle.volume_sets.specs.declared.sets.VolumeSet.{VolumeSet}
use Rattle.volume_sets.specs.Sets.{entries_of}
use Rattle.budb_changes.specs.declared.records.DumpRecordFields.{DumpRecordFields}
use Rattle.budb_fold.specs.Lookups.{VolumeDump, latest}
use Rattle.tape_frames.specs.TapeNames.{numbered}
use Rattle.cell_core.specs.declared.fault.CellFault.{CellFault}
use Rattle.cell_core.specs.declared.fault.CellFault.TheVariants as fault
use Rattle.cell_core.specs.declared.stored.Stored.{Stored}
use Rattle.archive_model.specs.Plays.{BadOnTape, Lacks, Large}
use Rattle.archive_model.specs.Archives.{Archive, Refusal, NoDump, MissingDump, MissingTape, Fault, Need, listed_of, needs}
use Rattle.restore_chain.specs.Answers.{chain_in, looked_up}
use Rattle.restore_target.specs.Targets.{target_text, after_restore}
use Rattle.backup_words.specs.declared.command.Disk.{Disk}
use Rattle.backup_words.specs.declared.command.Wanted.{Wanted}
use Rattle.backup_replies.specs.declared.refusals.Refusal.TheVariants as refusals
use Rattle.backup_replies.specs.Texts.{refused_word, refused_number, refused_at, ok_line}
use Rattle.backup_replies.specs.Restores.{restored_line, would_restore_line, need_line}
use Rattle.restore_commands.specs.declared.told.Told.{Told}
use Rattle.restore_commands.specs.declared.told.Told.TheVariants.{Restored, Refused}
use Rattle.restore_commands.specs.Choices.{disk_choices, set_choices}

-- How a command restores its volumes: what is put behind their base names, the time as which they are made, and whether it is only
-- told what would be restored.
pub record Manner : Type 0 where
  pub extension : Option (List ℕ)
  pub time : ℕ
  pub is_trial : Bool

-- what is told of a volume, and the lists that the cell has on the way
pub record VolumeAnswer : Type 0 where
  pub told : Told
  pub cells : List (List Stored)

-- the reply to a command, and the lists that the cell has on the way
pub record RestoreAnswer : Type 0 where
  pub reply : List ℕ
  pub cells : List (List Stored)

-- ---- refusals

-- The refusal of a look-up. The volume that is told is the one that is asked for; one that would be too large is told by the name that it
-- would get.
abbrev pub look_up_refusal : List ℕ → List ℕ → Refusal → List ℕ
look_up_refusal name target NoDump = refused_word refusals.NoDump name
look_up_refusal name target (MissingDump id) = refused_number refusals.MissingDump id
look_up_refusal name target (MissingTape tape initial) = refused_at refusals.MissingTape tape initial
look_up_refusal name target (Fault (Lacks number uniq)) = refused_at refusals.BaseLacks name number
look_up_refusal name target (Fault (BadOnTape tape place)) = refused_at refusals.BadOnTape tape place
look_up_refusal name target (Fault Large) = refused_word refusals.TooLarge target

-- the refusal of the name that a volume would get; there are no others
abbrev pub target_refusal : List ℕ → CellFault → List ℕ
target_refusal target fault.TooLarge = refused_word refusals.TooLarge target
target_refusal target (fault.BadImage at) = refused_at refusals.BadImage target at
target_refusal target fault.NoVolume = []
target_refusal target fault.VolumeExists = []
target_refusal target fault.NoVnode = []
target_refusal target fault.Failed = []
target_refusal target fault.Memory = []

-- ---- one volume

-- the tapes that are needed, in playing order
abbrev pub need_lines : List Need → List ℕ
need_lines tapes = flat_map (λ n. need_line (numbered n.dump.base n.tape) n.dump.initial) tapes

-- What is told of a volume that is restored from a dump along its chain. Of one that would be, its tapes are told too.
abbrev pub lines_along : Bool → List ℕ → List DumpRecordFields → VolumeDump → List ℕ → List ℕ
lines_along is_trial target listed one ids =
    if is_trial then would_restore_line target one.dump.id (length ids) ++ need_lines (needs listed ids one.volume.name)
    else restored_line target one.dump.id (length ids)

-- what is told of a restored volume, by the chain of its dump; nothing where a dump of it is missing
abbrev pub lines_by : Bool → List ℕ → List DumpRecordFields → VolumeDump → Result (List ℕ) ℕ → List ℕ
lines_by is_trial target listed one (Ok ids) = lines_along is_trial target listed one ids
lines_by is_trial target listed one (Err missing) = []

-- the same by the latest dump; of none there is nothing to tell
abbrev pub lines_of : Bool → List ℕ → List DumpRecordFields → Option VolumeDump → List ℕ
lines_of is_trial target listed None = []
lines_of is_trial target listed (Some one) = lines_by is_trial target listed one (chain_in listed one.dump.id one.volume.name)

-- a volume is refused by this line, and the cell stays as it is
abbrev pub refused_as : List ℕ → VolumeAnswer
refused_as text = record { told = Refused text; cells = [] }

-- the cell has the list that is due, unless it is only told what would be restored; or the name is refused
abbrev pub put_answer : Bool → List ℕ → List ℕ → Result (List Stored) CellFault → VolumeAnswer
put_answer is_trial target lines (Ok cell) = record { told = Restored lines; cells = if is_trial then [] else cell ∷ [] }
put_answer is_trial target lines (Err fault) = refused_as (target_refusal target fault)

-- what is looked up is put, where it is a volume
abbrev pub found_answer : List Stored → Wanted → Manner → List ℕ → Result VolumeFields Refusal → VolumeAnswer
found_answer cell wanted manner lines (Ok volume) =
    put_answer manner.is_trial (target_text wanted.name manner.extension) lines (after_restore cell wanted.server wanted.partition (target_text wanted.name manner.extension) manner.time volume)
found_answer cell wanted manner lines (Err refusal) = refused_as (look_up_refusal wanted.name (target_text wanted.name manner.extension) refusal)

-- A volume is looked up in the archive and put into the cell under its base name with the extension.
abbrev pub volume_answer : Archive → List Stored → Manner → Wanted → VolumeAnswer
volume_answer a cell manner wanted =
    found_answer cell wanted manner (lines_of manner.is_trial (target_text wanted.name manner.extension) (listed_of a) (latest (listed_of a) wanted.name wanted.before)) (looked_up a wanted.name wanted.before)

-- ---- the commands

-- a reply that is a refusal is that one line
abbrev pub reply_alone : Told → List ℕ
reply_alone (Restored lines) = lines ++ ok_line
reply_alone (Refused line) = line

-- `volrestore`
abbrev pub one_answer : Archive → List Stored → Manner → Wanted → RestoreAnswer
one_answer a cell manner wanted = let answer = volume_answer a cell manner wanted in record { reply = reply_alone answer.told; cells = answer.cells }

-- the last of these lists; this one where there is none
abbrev pub last_cell : List Stored → List (List Stored) → List Stored
last_cell cell [] = cell
last_cell cell (c ∷ cs) = last_cell c cs

-- among others a refused volume has its line, and those behind it are restored
abbrev pub told_lines : Told → List ℕ
told_lines (Restored lines) = lines
told_lines (Refused line) = line

-- one volume's answer, in front of those of the volumes after it
abbrev pub behind : VolumeAnswer → RestoreAnswer → RestoreAnswer
behind first rest = record { reply = told_lines first.told ++ rest.reply; cells = first.cells ++ rest.cells }

-- One volume after the other, into the cell that those before have left.
abbrev pub all_answer : Archive → List Stored → Manner → List Wanted → RestoreAnswer
all_answer a cell manner [] = record { reply = ok_line; cells = [] }
all_answer a cell manner (choice ∷ choices) =
    let first = volume_answer a cell manner choice in behind first (all_answer a (last_cell cell first.cells) manner choices)

-- `diskrestore`
abbrev pub disk_answer : Archive → List Stored → Manner → Disk → RestoreAnswer
disk_answer a cell manner disk = all_answer a cell manner (disk_choices (listed_of a) disk)

-- `volsetrestore`
abbrev pub entries_answer : Archive → List Stored → Manner → List ℕ → Option (List SetEntry) → RestoreAnswer
entries_answer a cell manner name None = record { reply = refused_word refusals.NoSuchSet name; cells = [] }
entries_answer a cell manner name (Some entries) = all_answer a cell manner (set_choices (listed_of a) entries)

-- the answer of `volsetrestore`, over the volume set of this name
abbrev pub set_answer : Archive → List VolumeSet → List Stored → Manner → List ℕ → RestoreAnswer
set_answer a sets cell manner name = entries_answer a cell manner name (entries_of name sets)
