use Rattle.std.proofs.Common.{◌≡◌, ◌+◌, ◌++◌, drop}
use Rattle.group_commands.specs.Lines.{told_jobs}
use Rattle.group_commands.proofs.telling.told_jobs.Given as goal

abbrev pub invariant-loop-i : goal.invariant-loop-i
invariant-loop-i l = l.told ++ told_jobs (l.i + 1) (drop l.i l.began) l.pool.jobs ≡ told_jobs 1 l.began l.pool.jobs
