-- SEVERAL DUMPS UNDERWAY: what is so of dumps that take turns, between two of them.
use Rattle.std.specs.Prelude.{◌≡◌, ◌≤◌, ℕ, Option, Some, None, List, ◌++◌, length, slice_get, Contains}
use Rattle.cell_core.specs.declared.stored.Taken.{Taken}
use Rattle.cell_core.specs.Fairness.{Fair}
use Rattle.budb_changes.specs.declared.records.DumpRecordFields.{DumpRecordFields}
use Rattle.budb_changes.specs.declared.change.Change.{Change}
use Rattle.plant_core.specs.Crashes.{State}
use Rattle.plant_core.specs.Effects.{Effect, come}
use Rattle.tape_answers.specs.Slots.{slots_of}
use Rattle.archive_model.specs.Archives.{Archive}
use Rattle.archive_model.specs.Settled.{HoldsSettled}
use Rattle.archive_model.specs.Sources.{dumped_by}
use Rattle.dump_job.specs.declared.fields.JobFields.{JobFields}
use Rattle.dump_forms.specs.Forms.{HasForms}
use Rattle.dump_laws.specs.Made.{Made}
use Rattle.dump_laws.specs.Growing.{with_dump}
use Rattle.dump_laws.specs.Running.{basis_of, RunsIn}
use Rattle.dump_courses.specs.Scenes.{Scene}
use Rattle.dump_commands.specs.Answers.{Contents}
use Rattle.dump_archives.specs.Keeping.{HeadsUpTo}
use Rattle.dump_archives.proofs.Clones.{HasGoodPlaces, AreFirstClones}
use Rattle.dump_archives.proofs.Fields.{IsRunning}
use Rattle.dump_archives.proofs.Heads.{StaysUpTo}
use Rattle.dump_archives.proofs.Keeping.{Keeps}
use Rattle.dump_job.specs.Elsewhere.{IsOnPort}
use Rattle.pool_laws.specs.Beside.{IsBeside}
use Rattle.job_pool.specs.declared.jobs.PoolJob.{PoolJob}
use Rattle.job_pool.specs.Pools.{PoolPoint, PoolEvent, PoolCourse, behind}
use Rattle.group_commands.specs.Settled.{IsRest}

-- ---- one of the dumps

-- The contents have the clones of all these places already, as a dump of them has them.
abbrev pub IsGrown : Scene → ℕ → Contents → JobFields → Type 0
IsGrown s time grown j = (clones : List Taken) → AreFirstClones s.cell time j.places clones → length clones ≡ length j.places → with_dump grown (basis_of j) clones ≡ grown

-- It runs, on tapes of its port. Its parent is one of the dumps that are known, be it a dump no more; and none of these has its id.
pub record IsUnderway (s : Scene) (time top : ℕ) (grown : Contents) (t : State) (a : Archive) (records known : List DumpRecordFields) (j : JobFields) (m : Made) : Type 0 where
  pub runs : RunsIn t a records j m
  pub running : IsRunning j.phase
  pub on : IsOnPort j
  pub forms : HasForms j
  pub good : HasGoodPlaces s.cell j.places
  pub time_is : j.time ≡ time
  pub clones : AreFirstClones s.cell time j.places m.clones
  pub is_grown : IsGrown s time grown j
  pub parent_known : (d : DumpRecordFields) → j.parent ≡ Some d → Contains known d
  pub new : (d : DumpRecordFields) → Contains known d → d.id ≡ j.head.id → ⊥
  pub low : j.head.id ≤ top

-- ---- what the plant holds

-- The archive of these changes and of the plant's tapes, with the contents that all dumps have in the end. The cell is fair to all dumps that
-- there were on the way, some of which may be dumps no more; none of their ids, and no head, is above this one.
pub record StandsAt (s : Scene) (time top : ℕ) (grown : Contents) (log : List Change) (t : State) (a : Archive) (records known : List DumpRecordFields) : Type 0 where
  pub log_is : a.log ≡ log
  pub slots : a.slots ≡ slots_of s.slots s.present t.tape
  pub contents_are : a.contents ≡ grown
  pub held : HoldsSettled t a records
  pub all_known : (d : DumpRecordFields) → Contains records d → Contains known d
  pub low : (d : DumpRecordFields) → Contains known d → d.id ≤ top
  pub fair : Fair s.cell (dumped_by grown known) time
  pub heads : HeadsUpTo top (slots_of s.slots s.present t.tape)
  pub short : (k : ℕ) → length (t.tape k) ≤ 4294967295

-- ---- all of them

-- Each that runs is underway, and beside each other one. `put` tells what each has put, by its number.
pub record AllUnderway (s : Scene) (time top : ℕ) (grown : Contents) (p : PoolPoint) : Type 0 where
  pub archive : Archive
  pub records : List DumpRecordFields
  pub known : List DumpRecordFields
  pub put : ℕ → Made
  pub stands : StandsAt s time top grown p.log p.state archive records known
  pub each : (n : ℕ) (q : PoolJob) → slice_get p.jobs n ≡ Some q → q.end ≡ None → IsUnderway s time top grown p.state archive records known q.job (put n)
  pub apart : (n k : ℕ) (q r : PoolJob) → slice_get p.jobs n ≡ Some q → slice_get p.jobs k ≡ Some r → q.end ≡ None → r.end ≡ None → (n ≡ k → ⊥) → IsBeside q.job r.job
  pub rest : IsRest p.jobs p.state

-- Effects keep the archive from one log to another, one after the other, and no head is above the greatest id.
pub record KeepsAll (s : Scene) (top : ℕ) (grown : Contents) (log : List Change) (t : State) (effects : List Effect) (new : List Change) : Type 0 where
  pub way : Keeps s.slots s.present grown (λ d. d.id ≤ top) log t effects new
  pub up : StaysUpTo top s.slots s.present t effects

-- ONE TURN has kept it, and all are underway behind it.
abbrev pub TurnKept : Scene → ℕ → ℕ → Contents → PoolPoint → PoolEvent → Type 0
TurnKept s time top grown p e = KeepsAll s top grown p.log p.state e.effects (p.log ++ e.changes) × AllUnderway s time top grown (behind p e)

-- A LIST OF TURNS has.
abbrev pub CourseKept : Scene → ℕ → ℕ → Contents → PoolPoint → PoolCourse → Type 0
CourseKept s time top grown p c = KeepsAll s top grown p.log p.state c.effects c.log × AllUnderway s time top grown (record { log = c.log; state = come c.effects p.state; jobs = c.jobs })
