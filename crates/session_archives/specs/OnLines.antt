-- COMMANDS ON THE LINES OF A SCRIPT: what restores and scans are there.
use Rattle.std.specs.Prelude.{◌≡◌, ℕ, true, List, [], ◌∷◌, ◌++◌, Option, None, Ok, Result, Contains}
use Rattle.vnode_model.specs.declared.volumes.VolumeFields.{VolumeFields}
use Rattle.plant_core.specs.Stock.{Stock}
use Rattle.tape_config.specs.declared.port.PortFields.{PortFields}
use Rattle.budb_changes.specs.declared.records.DumpRecordFields.{DumpRecordFields}
use Rattle.budb_fold.specs.Database.{after}
use Rattle.archive_model.specs.Archives.{Archive, Refusal, listed_of, Holds, LooksUp}
use Rattle.restore_chain.specs.Answers.{looked_up}
use Rattle.backup_words.specs.declared.command.Command.{Command}
use Rattle.backup_words.specs.declared.command.Command.TheVariants.{Tape, Restore}
use Rattle.backup_words.specs.declared.command.TapeCommand.TheVariants.{Scantape}
use Rattle.backup_words.specs.declared.command.RestoreCommand.{RestoreCommand}
use Rattle.backup_session.specs.Worlds.{World, archive_of, at_moment}
use Rattle.backup_session.specs.Restores.{archive_turn}
use Rattle.backup_session.specs.Scanning.{port_of, slots_here}
use Rattle.backup_session.specs.Listing.{ListsWhole}
use Rattle.backup_session.specs.Again.{HasTheseTapes, IsHeldOn, IsListedBehind}
use Rattle.backup_session.specs.Machine.{turn}
use Rattle.backup_script.specs.declared.item.Item.TheVariants.{Runs}
use Rattle.backup_script.specs.Items.{item_of}
use Rattle.backup_script.specs.Scripts.{first_of, script}

-- A command stands on a line of a script that is run, outside of a group: the script goes on behind the lines before it, and no group is open
-- there. In a group such a line is refused.
pub record IsOnLine (w : World) (moments : List ℕ) (lines before : List (List ℕ)) (command : Command) : Type 0 where
  pub line : List ℕ
  pub more : List (List ℕ)
  pub are : lines ≡ before ++ line ∷ more
  pub goes : (script w moments before).goes ≡ true
  pub is : item_of line ≡ Runs command
  pub alone : (script w moments before).world.groups.open ≡ None

-- the world behind these lines, and the moment that the next command uses
abbrev pub world_behind : World → List ℕ → List (List ℕ) → World
world_behind w moments before = (script w moments before).world

-- the moment that the next command uses after these lines
abbrev pub moment_behind : World → List ℕ → List (List ℕ) → ℕ
moment_behind w moments before = first_of (script w moments before).moments

-- ---- restores

-- A restore answers each volume that it asks for by what is computed of the archive that it finds; and what is computed is the look-up of the
-- definitions, and no other one: the contents of the latest dump before the date along its chain, or the dump or the tape that is missing.
pub record IsLookedUp (w : World) (now : ℕ) (command : RestoreCommand) : Type 0 where
  pub answered : turn w now (Restore command) ≡ archive_turn (at_moment w now) command
  pub looks_up : (name : List ℕ) (before : Option ℕ) → LooksUp (archive_of w) name before (looked_up (archive_of w) name before)
  pub only : (name : List ℕ) (before : Option ℕ) (outcome : Result VolumeFields Refusal) → LooksUp (archive_of w) name before outcome → outcome ≡ looked_up (archive_of w) name before

-- so it is on each line of a script that restores
abbrev pub RestoresLookUp : World → List ℕ → List (List ℕ) → Type 0
RestoresLookUp w moments lines = (before : List (List ℕ)) (command : RestoreCommand) → IsOnLine w moments lines before (Restore command) → IsLookedUp (world_behind w moments before) (moment_behind w moments before) command

-- ---- scans

-- A scan that adds dumps lists just what is whole on the coordinator's tapes that are here. Each dump that any archive with these tapes has
-- listed, and whose tapes are all held there, is among what is whole, with an equal record; and over a database without listed dumps it is
-- listed again, unless the log has no room for the record of one that is found.
pub record IsScanned (w : World) (now offset : ℕ) (port : PortFields) : Type 0 where
  pub lists : ListsWhole w (slots_here w.setting.present port) (turn w now (Tape (Scantape true offset)))
  pub among : (stock : Stock) (a : Archive) (records : List DumpRecordFields) → Holds stock a records → HasTheseTapes w stock a
      → (d : DumpRecordFields) → Contains (listed_of a) d → IsHeldOn d (slots_here w.setting.present port) a.slots → Contains lists.whole d
  pub again : (after w.log).listed ≡ [] → (stock : Stock) (a : Archive) (records : List DumpRecordFields) → Holds stock a records → HasTheseTapes w stock a
      → (d : DumpRecordFields) → Contains (listed_of a) d → IsHeldOn d (slots_here w.setting.present port) a.slots → IsListedBehind w (slots_here w.setting.present port) (turn w now (Tape (Scantape true offset))) d

-- so it is on each line of a script that scans and adds, on a port that has a tape host and a line in the configuration
abbrev pub ScansListWhole : World → List ℕ → List (List ℕ) → Type 0
ScansListWhole w moments lines =
    (before : List (List ℕ)) (offset : ℕ) (port : PortFields) → IsOnLine w moments lines before (Tape (Scantape true offset)) → let v = world_behind w moments before in
    port_of v.setting.config (after v.log).hosts offset ≡ Ok port → IsScanned v (moment_behind w moments before) offset port
