use Rattle.std.proofs.Common.{◌≡◌, ◌≤◌, ◌+◌, length, drop}
use Rattle.job_pool.specs.Schedules.{running_from}
use Rattle.job_pool.proofs.schedules.count_running.Given as goal

abbrev pub invariant-loop-i : goal.invariant-loop-i
invariant-loop-i l = record { counted : l.count + length (running_from l.i (drop l.i l.jobs)) ≡ length (running_from 0 l.jobs); few : l.count ≤ l.i }
