-- WHAT IS LEFT of turns: by a crash on the way, and behind the last one.
use Rattle.std.specs.Prelude.{◌≡◌, ◌≤◌, ℕ, None, Some, List, length, map, take, slice_get}
use Rattle.cell_core.specs.Fairness.{Fair}
use Rattle.budb_changes.specs.declared.records.DumpRecordFields.{DumpRecordFields}
use Rattle.budb_changes.specs.declared.change.Change.{Change}
use Rattle.plant_core.specs.Crashes.{State, IsSettled}
use Rattle.plant_core.specs.Effects.{Effect, come}
use Rattle.plant_core.specs.Stock.{Stock}
use Rattle.tape_scan.specs.Slots.{Slot}
use Rattle.tape_answers.specs.Slots.{slots_of}
use Rattle.archive_model.specs.Archives.{listed_of, Holds}
use Rattle.archive_model.specs.Settled.{HoldsSettled}
use Rattle.archive_model.specs.Sources.{dumped_by}
use Rattle.archive_model.specs.Turns.{is_here, StillHeld, remaining}
use Rattle.dump_forms.specs.Journals.{IsJournalAfter}
use Rattle.dump_courses.specs.Scenes.{Scene}
use Rattle.dump_commands.specs.Answers.{Contents}
use Rattle.dump_archives.specs.Keeping.{HeadsUpTo}
use Rattle.dump_archives.proofs.Keeping.{archive_at}
use Rattle.job_pool.specs.declared.jobs.PoolJob.{PoolJob}
use Rattle.job_pool.specs.Pools.{PoolPoint}

-- An image that is left behind the first of these effects holds the archive of their changes and of the tapes that are left, with these contents; each
-- listed dump is held where it was.
pub record ImageHolds (s : Scene) (grown : Contents) (log : List Change) (t : State) (effects : List Effect) (count : ℕ) (c : Stock) : Type 0 where
  pub changes : List Change
  pub journal : IsJournalAfter log (take count effects) changes
  pub records : List DumpRecordFields
  pub slots : List Slot
  pub here : map is_here slots ≡ map is_here (archive_at s.slots s.present grown changes (come (take count effects) t).tape).slots
  pub still : StillHeld (listed_of (archive_at s.slots s.present grown changes (come (take count effects) t).tape)) (archive_at s.slots s.present grown changes (come (take count effects) t).tape).slots slots
  pub holds : Holds c (record (archive_at s.slots s.present grown changes (come (take count effects) t).tape) { slots = slots }) (remaining (listed_of (archive_at s.slots s.present grown changes (come (take count effects) t).tape)) slots records)

-- Behind the last turn all is settled, and the plant holds the archive with the contents of all of them, to whose dumps the cell is fair.
pub record LeftBehind (s : Scene) (time top : ℕ) (grown : Contents) (p : PoolPoint) : Type 0 where
  pub settled : IsSettled p.state
  pub records : List DumpRecordFields
  pub holds : HoldsSettled p.state (archive_at s.slots s.present grown p.log p.state.tape) records
  pub fair : Fair s.cell (dumped_by grown records) time
  pub heads : HeadsUpTo top (slots_of s.slots s.present p.state.tape)
  pub short : (k : ℕ) → length (p.state.tape k) ≤ 4294967295
