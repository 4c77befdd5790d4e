use Rattle.std.specs.Prelude.{All}
use Rattle.mount_plan.specs.Courses.{AreOutcomes}
use Rattle.mount_plan.specs.Outcomes.{IsPlayed}
use Rattle.mount_plan.proofs.outcomes.answers_of.Given as goal

abbrev pub invariant-loop-course : goal.invariant-loop-course
invariant-loop-course l = record {
  are : AreOutcomes l.yielded l.all;
  only : All IsPlayed l.all;
}
