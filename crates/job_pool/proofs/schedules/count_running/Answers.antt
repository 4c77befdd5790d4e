use Rattle.std.proofs.Common.{◌≡◌, ℕ, ◌+◌, ◌∷◌, length, List, drop, refl, ap, ◌∙◌, arith}
use Rattle.std.specs.Prelude.{Option, is_some, not}
use Rattle.job_pool.specs.declared.jobs.PoolJob.{PoolJob}
use Rattle.job_pool.specs.Schedules.{running_from}
use Rattle.job_pool.proofs.NextTurns.{running_more, running_same, running_none}
use Rattle.job_pool.proofs.schedules.count_running.Goals.{then-is_none, else-is_none}
use Rattle.job_pool.proofs.schedules.count_running.Goals as goal

pub loop-i-preserved : goal.loop-i-preserved
loop-i-preserved c =
    let said : is_some c.index-jobs-i.result.end ≡ not c.is_none.result = ap (λ (x : PoolJob). is_some x.end) c.index-jobs-i.is ∙ c.is_none.ensures in
    elim c.if-is_none.branch [
      | then-is_none w ↦
          (let more = running_more c.args.jobs.now c.loop-i.i c.index-jobs-i.result c.loop-i-test.true c.index-jobs-i.is (said ∙ ap not w.if-is_none.true) in
          record { counted = omega (arith, c.loop-i.invariant.counted, ap length more, w.count-is); few = omega (arith, c.loop-i.invariant.few, w.count-is) })
      | else-is_none w ↦
          (let same = running_same c.args.jobs.now c.loop-i.i c.index-jobs-i.result c.loop-i-test.true c.index-jobs-i.is (said ∙ ap not w.if-is_none.false) in
          record { counted = omega (arith, c.loop-i.invariant.counted, ap length same, w.count-is); few = omega (arith, c.loop-i.invariant.few, w.count-is) })
    ]

pub returns : goal.returns
returns c =
    let none = running_none c.args.jobs.now c.loop-i.i c.loop-i-test.false in
    omega (arith, c.loop-i.invariant.counted, ap length none)
