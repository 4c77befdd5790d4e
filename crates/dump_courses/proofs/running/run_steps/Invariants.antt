use Rattle.std.proofs.Common.{◌≡◌, ◌≢◌}
use Rattle.std.specs.Prelude.{None}
use Rattle.plant_effects.specs.Runs.{StaysQuiet}
use Rattle.dump_job.specs.declared.fields.Phase.TheVariants as phase
use Rattle.dump_job.specs.Left.{left_of}
use Rattle.dump_job.specs.Jobs.{FitsJob}
use Rattle.dump_courses.specs.Scenes.{Scene}
use Rattle.dump_courses.specs.Courses.{Point}
use Rattle.dump_courses.specs.Running.{IsAtPoint, IsOnWay}
use Rattle.dump_courses.proofs.running.run_steps.Given as goal

abbrev pub invariant-steps : goal.invariant-steps
invariant-steps g l =
    let P = g.P.Plant in
    let C = g.C.Cell in
    record {
      going : l.job.phase ≢ phase.Over;
      fit : FitsJob P l.job l.plant;
      nothing : l.budb.prepared ≡ None;
      places : l.job.places ≡ l.fn.job.places;
      way : P.tells → C.tells → (s : Scene) (p : Point) → IsAtPoint P C s p l.fn.budb l.fn.plant l.fn.cell l.fn.job → IsOnWay P C s p l.fn.plant l.budb l.plant l.cell l.job;
      list : C.tells → C.list l.cell ≡ C.list l.fn.cell;
      size : C.size l.cell ≡ C.size l.fn.cell;
      stays : StaysQuiet P l.fn.plant l.plant;
      faults : (P.view l.plant).faults ≡ (P.view l.fn.plant).faults;
      cell_faults : C.faults l.cell ≡ C.faults l.fn.cell;
    }

abbrev pub decreases-steps : goal.decreases-steps
decreases-steps g l = left_of l.job
