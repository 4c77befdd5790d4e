-- WHAT IS SO OF A POOL ON A PLANT: at a point of dumps that take turns, and behind a turn.
use Rattle.std.specs.Prelude.{◌≡◌, ◌≢◌, ℕ, ◌+◌, Some, None, List, [], ◌∷◌, ◌++◌, slice_get}
use Rattle.plant_core.specs.declared.plant.Plant.{Ghosts as Plant}
use Rattle.plant_core.specs.Effects.{Effect, come}
use Rattle.plant_effects.specs.Runs.{state_of, Leaves}
use Rattle.cell_core.specs.declared.cell.Cell.{Ghosts as Cell}
use Rattle.tape_config.specs.Ports.{IsAmong, AreApart}
use Rattle.budb.specs.Views.{BudbView}
use Rattle.budb.specs.Kept.{Keeps}
use Rattle.dump_job.specs.declared.fields.JobFields.{JobFields}
use Rattle.dump_job.specs.declared.fields.Phase.TheVariants as phase
use Rattle.dump_job.specs.Elsewhere.{IsOnPort, LeavesOthers}
use Rattle.dump_job.specs.Jobs.{FitsJob, HasPlaces}
use Rattle.dump_job.specs.Left.{left_of}
use Rattle.dump_courses.specs.Scenes.{Scene}
use Rattle.dump_courses.specs.Ahead.{IsAhead, DoneAhead}
use Rattle.job_pool.specs.declared.jobs.PoolJob.{PoolJob}
use Rattle.job_pool.specs.declared.turn.Kill.{Kill}
use Rattle.job_pool.specs.Pools.{PoolPoint, PoolEvent, PoolCourse, with_job, behind}
use Rattle.job_pool.specs.PoolCourses.{turns_for, pool_course}

-- ---- what a pool asks of a plant and of a cell

-- A dump that runs fits the plant, and its tapes are those of its port.
pub record FitsOne {D : Type 0} (P : Plant D) (q : PoolJob) (plant : D) : Type 0 where
  pub going : q.job.phase ≢ phase.Over
  pub fit : FitsJob P q.job plant
  pub on : P.tells → IsOnPort q.job

-- A pool fits a plant: each dump that runs does, and no two that run have a slot in common.
pub record FitsPool {D : Type 0} (P : Plant D) (jobs : List PoolJob) (plant : D) : Type 0 where
  pub sound : P.sound plant
  pub each : (n : ℕ) (q : PoolJob) → slice_get jobs n ≡ Some q → q.end ≡ None → FitsOne P q plant
  pub apart : P.tells → (n k : ℕ) (q r : PoolJob) → slice_get jobs n ≡ Some q → slice_get jobs k ≡ Some r → q.end ≡ None → r.end ≡ None → n ≢ k → AreApart q.job.port r.job.port

-- each volume of a dump that runs is the place of an entry of the cell that isn't bad
abbrev pub HasAllPlaces : {E : Type 0} → Cell E → List PoolJob → E → Type 0
HasAllPlaces C jobs cell = (n : ℕ) (q : PoolJob) → slice_get jobs n ≡ Some q → q.end ≡ None → HasPlaces C q.job.places cell

-- a slot is of the port of no dump that runs
abbrev pub IsOfNone : List PoolJob → ℕ → Type 0
IsOfNone jobs k = (n : ℕ) (q : PoolJob) → slice_get jobs n ≡ Some q → q.end ≡ None → IsAmong q.job.port k → ⊥

-- where contents are told, two dumps are on ports that have no slot in common
abbrev pub AreApartWhereTold : {D : Type 0} → Plant D → JobFields → JobFields → Type 0
AreApartWhereTold P i j = P.tells → IsOnPort i × IsOnPort j × AreApart i.port j.port

-- ---- what stands there

-- What stands there is this point, of which the cell's list is the scene's; more may be settled.
pub record StandsThere {D E : Type 0} (P : Plant D) (C : Cell E) (s : Scene) (p : PoolPoint) (budb : BudbView) (plant : D) (site : E) : Type 0 where
  pub keeps : Keeps p.log p.state.log budb
  pub state : IsAhead p.state (state_of P plant)
  pub slots : (P.view plant).slots ≡ s.slots
  pub present : (k : ℕ) → (P.view plant).present k ≡ s.present k
  pub cell : C.list site ≡ s.cell

-- the same, and the dumps are those of the point
pub record IsAtPool {D E : Type 0} (P : Plant D) (C : Cell E) (s : Scene) (p : PoolPoint) (budb : BudbView) (plant : D) (site : E) (has : List PoolJob) : Type 0 where
  pub stands : StandsThere P C s p budb plant site
  pub jobs : has ≡ p.jobs

-- ---- a turn of one dump

-- this dump is the one of this number, and runs
pub record IsTurnOf {D E : Type 0} (P : Plant D) (C : Cell E) (s : Scene) (p : PoolPoint) (n : ℕ) (q : PoolJob) (budb : BudbView) (plant : D) (site : E) (job : JobFields) : Type 0 where
  pub at : slice_get p.jobs n ≡ Some q
  pub runs : q.end ≡ None
  pub is : job ≡ q.job
  pub stands : StandsThere P C s p budb plant site

-- The turn's point stands there, in which this is the dump of this number, and the others are as before.
pub record IsTurned {D E : Type 0} (P : Plant D) (C : Cell E) (s : Scene) (p : PoolPoint) (e : PoolEvent) (n : ℕ) (r : PoolJob) (budb : BudbView) (plant : D) (site : E) : Type 0 where
  pub stands : StandsThere P C s (behind p e) budb plant site
  pub jobs : e.jobs ≡ with_job n r p.jobs

-- What a turn of one dump is to the plant and to the others: it fits the plant again, where it runs; the tapes of other slots are as they were,
-- and it stays on its port; dumps on other ports fit as before. Nothing is done where it has ended.
pub record HasTurned {D : Type 0} (P : Plant D) (old new : D) (q r : PoolJob) : Type 0 where
  pub sound : P.sound new
  pub fit : r.end ≡ None → FitsOne P r new
  pub elsewhere : P.tells → q.end ≡ None → LeavesOthers P old new q.job r.job
  pub others : q.end ≡ None → (other : JobFields) → FitsJob P other old → AreApartWhereTold P q.job other → FitsJob P other new
  pub same : q.end ≢ None → (new ≡ old) × (r ≡ q)

-- what is left of dumps that run, and one more for each
abbrev pub work_left : List PoolJob → ℕ
work_left [] = 0
work_left (q ∷ jobs) = turns_for q.end (left_of q.job) + work_left jobs

-- ---- turns by a schedule

-- the point behind a course of turns
abbrev pub point_behind : PoolPoint → PoolCourse → PoolPoint
point_behind p c = record { log = c.log; state = come c.effects p.state; jobs = c.jobs }

-- effects in front of a course
abbrev pub behind_effects : List Effect → PoolCourse → PoolCourse
behind_effects es c = record { effects = es ++ c.effects; log = c.log; jobs = c.jobs }

-- Some turns of a schedule were taken, and from this point and this number on the rest of the course is left.
pub record IsOnCourse {D E : Type 0} (P : Plant D) (C : Cell E) (s : Scene) (kills : List Kill) (first : ℕ) (p : PoolPoint) (old : D) (x : ℕ) (budb : BudbView) (plant : D) (site : E) (jobs : List PoolJob) : Type 0 where
  pub effects : List Effect
  pub now : PoolPoint
  pub at : IsAtPool P C s now budb plant site jobs
  pub state : now.state ≡ come effects p.state
  pub done : DoneAhead P effects old plant
  pub leaves : Leaves P effects old plant
  pub rest : pool_course s kills first p ≡ behind_effects effects (pool_course s kills x now)
