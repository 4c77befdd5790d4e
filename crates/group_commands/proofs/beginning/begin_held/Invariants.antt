use Rattle.std.proofs.Common.{◌≡◌, ℕ, ◌≤◌, length}
use Rattle.std.specs.Prelude.{None, Some, slice_get}
use Rattle.plant_effects.specs.Runs.{StaysQuiet}
use Rattle.dump_courses.specs.Scenes.{Scene, Finds}
use Rattle.job_pool.specs.declared.jobs.PoolJob.{PoolJob}
use Rattle.job_pool.specs.Pooled.{FitsPool, HasAllPlaces}
use Rattle.group_commands.specs.Lines.{AreOfPool}
use Rattle.group_commands.specs.Begun.{IsOnBegins, IsOfHeld}
use Rattle.group_commands.proofs.beginning.begin_held.Given as goal

abbrev pub invariant-loop-i : goal.invariant-loop-i
invariant-loop-i g l =
    let P = g.P.Plant in
    let C = g.C.Cell in
    record {
      fit : FitsPool P l.begun.pool.jobs l.plant;
      places : HasAllPlaces C l.begun.pool.jobs l.cell;
      nothing : l.budb.prepared ≡ None;
      room : l.begun.pool.room ≡ 16;
      count : length l.begun.pool.jobs ≤ l.i;
      each : length l.begun.began ≡ l.i;
      within : AreOfPool l.begun.began l.begun.pool.jobs;
      ports : (n : ℕ) (q : PoolJob) → slice_get l.begun.pool.jobs n ≡ Some q → IsOfHeld l.config l.held l.i q.job.port;
      way : P.tells → C.tells → (s : Scene) → Finds P C s l.config l.fn.budb l.fn.plant l.cell l.now → IsOnBegins P C s l.held l.i l.fn.plant l.begun.began l.begun.time l.budb l.plant l.cell l.begun.pool.jobs;
      stays : StaysQuiet P l.fn.plant l.plant;
      faults : (P.view l.plant).faults ≡ (P.view l.fn.plant).faults;
    }
