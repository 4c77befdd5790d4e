use Rattle.std.proofs.Common.{ap, ◌+◌, ◌*◌, ◌%◌, ℕ}
use Rattle.job_pool.specs.Schedules.{next_number}
use Rattle.job_pool.proofs.schedules.next_number.Goals as goal

pub returns : goal.returns
unfolding next_number
returns c = ap (λ (x : ℕ). (x * 1103515245 + 12345) % 2147483648) c.from.ensures
