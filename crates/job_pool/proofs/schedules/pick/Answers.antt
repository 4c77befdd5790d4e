use Rattle.std.proofs.Common.{◌≡◌, ℕ, sym, ap, ◌∙◌, arith}
use Rattle.job_pool.specs.Schedules.{running_from}
use Rattle.job_pool.proofs.NextTurns.{picks_none, picks_at}
use Rattle.job_pool.proofs.schedules.pick.Goals as goal

pub returns-then-count-eq0 : goal.returns-then-count-eq0
returns-then-count-eq0 c = sym (picks_none c.args.x (running_from 0 c.args.jobs.now) (omega (arith, c.count_running-count.ensures, c.if-count-eq0.true)))

pub returns : goal.returns
returns c = c.running_at.ensures ∙ sym (picks_at c.args.x (running_from 0 c.args.jobs.now) c.count_running-count.result c.count_running-count.ensures (omega (arith, c.if-count-eq0.false)))
