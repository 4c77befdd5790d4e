use Rattle.std.proofs.Common.{◌≡◌, ◌≢◌, ℕ, length}
use Rattle.std.specs.Prelude.{None, Some, slice_get}
use Rattle.plant_effects.specs.Runs.{state_of, StaysQuiet}
use Rattle.dump_courses.specs.Scenes.{Scene}
use Rattle.job_pool.specs.declared.jobs.PoolJob.{PoolJob}
use Rattle.job_pool.specs.Pools.{PoolPoint}
use Rattle.job_pool.specs.Pooled.{FitsPool, HasAllPlaces, IsOfNone, IsAtPool, IsOnCourse, work_left}
use Rattle.job_pool.proofs.running.run_turns.Given as goal

abbrev pub invariant-turns : goal.invariant-turns
invariant-turns g l =
    let P = g.P.Plant in
    let C = g.C.Cell in
    record {
      fit : FitsPool P l.jobs l.plant;
      nothing : l.budb.prepared ≡ None;
      places : HasAllPlaces C l.jobs l.cell;
      way : P.tells → C.tells → (s : Scene) (p : PoolPoint) → IsAtPool P C s p l.fn.budb l.fn.plant l.fn.cell l.fn.jobs → IsOnCourse P C s l.kills l.fn.schedule p l.fn.plant l.x l.budb l.plant l.cell l.jobs;
      elsewhere : P.tells → (k : ℕ) → IsOfNone l.fn.jobs k → (state_of P l.plant).tape k ≡ (state_of P l.fn.plant).tape k;
      none : P.tells → (k : ℕ) → IsOfNone l.fn.jobs k → IsOfNone l.jobs k;
      others : (k : ℕ) (q : PoolJob) → slice_get l.fn.jobs k ≡ Some q → q.end ≢ None → slice_get l.jobs k ≡ Some q;
      count : length l.jobs ≡ length l.fn.jobs;
      list : C.tells → C.list l.cell ≡ C.list l.fn.cell;
      size : C.size l.cell ≡ C.size l.fn.cell;
      stays : StaysQuiet P l.fn.plant l.plant;
      faults : (P.view l.plant).faults ≡ (P.view l.fn.plant).faults;
      cell_faults : C.faults l.cell ≡ C.faults l.fn.cell;
    }

abbrev pub decreases-turns : goal.decreases-turns
decreases-turns g l = work_left l.jobs
