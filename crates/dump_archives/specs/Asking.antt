-- WHAT A DUMP ASKS of what it finds, beside what it is told: an archive that the plant holds, a cell that is fair to it, and ids on tapes below
-- the next one.
use Rattle.std.specs.Prelude.{ℕ, ◌≤◌, List, length}
use Rattle.plant_core.specs.Records.{Record}
use Rattle.plant_core.specs.Crashes.{IsSettled}
use Rattle.tape_answers.specs.Slots.{slots_of}
use Rattle.budb_changes.specs.declared.change.Change.{Change}
use Rattle.budb_changes.specs.declared.records.DumpRecordFields.{DumpRecordFields}
use Rattle.cell_core.specs.Cells.{IsCell}
use Rattle.cell_core.specs.Fairness.{Fair, NoneIsMadeAfter, NoSourceHasBackupName}
use Rattle.archive_model.specs.Archives.{Archive}
use Rattle.archive_model.specs.Settled.{HoldsSettled}
use Rattle.archive_model.specs.Sources.{dumped_by}
use Rattle.dump_laws.specs.Beginning.{HeadsAreBelow}
use Rattle.dump_courses.specs.Scenes.{Scene, database_in, slots_in}
use Rattle.dump_commands.specs.Forms.{IsSceneForm}
use Rattle.dump_commands.specs.Answers.{Contents}

-- The archive of changes and of tapes in a scene's slots, with these contents.
abbrev pub archive_with : Scene → Contents → List Change → (ℕ → List Record) → Archive
archive_with s contents log tape = record { log = log; slots = slots_of s.slots s.present tape; contents = contents }

-- that of the scene itself
abbrev pub archive_in : Scene → Contents → Archive
archive_in s contents = archive_with s contents s.log s.state.tape

-- The plant holds the archive of the scene with these contents, whose dumps these records are; all is settled, and no tape has more records than
-- a number of four bytes counts. The cell is a list of volumes in order of their
-- names, fair to these dumps, none of them made in the future, and no read/write volume's name ends in `.backup`. Every dump id on a tape is at
-- most the greatest one that was begun or recorded, or below the time.
pub record AsksOfScene (s : Scene) (contents : Contents) (records : List DumpRecordFields) : Type 0 where
  pub form : IsSceneForm s
  pub holds : HoldsSettled s.state (archive_in s contents) records
  pub settled : IsSettled s.state
  pub short : (k : ℕ) → length (s.state.tape k) ≤ 4294967295
  pub cell : IsCell s.cell
  pub fair : Fair s.cell (dumped_by contents records) s.time
  pub made : NoneIsMadeAfter s.time s.cell
  pub named : NoSourceHasBackupName s.cell
  pub heads : HeadsAreBelow (slots_in s) s.time (database_in s).greatest
