use Rattle.std.proofs.Common.{◌≡◌, drop}
use Rattle.std.specs.Prelude.{slice_get}
use Rattle.job_pool.specs.Schedules.{running_from}
use Rattle.job_pool.proofs.schedules.running_at.Given as goal

abbrev pub invariant-loop-i : goal.invariant-loop-i
invariant-loop-i l = slice_get (running_from l.i (drop l.i l.jobs)) l.left ≡ slice_get (running_from 0 l.jobs) l.place
