use Rattle.std.proofs.Common.{◌≡◌, drop}
use Rattle.mount_plan.specs.Courses.{first_missing}
use Rattle.mount_plan.proofs.next.first_missing.Given as goal

abbrev pub invariant-loop-kept : goal.invariant-loop-kept
invariant-loop-kept l = first_missing l.all ≡ first_missing (drop l.kept-index l.all)
