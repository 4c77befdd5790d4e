use Rattle.std.proofs.Common.{◌≡◌, ℕ, ◌+◌, List, drop, suc, sym, ap, ◌∙◌, arith}
use Rattle.std.specs.Prelude.{is_some, not, slice_get}
use Rattle.job_pool.specs.declared.jobs.PoolJob.{PoolJob}
use Rattle.job_pool.specs.Schedules.{running_from}
use Rattle.job_pool.proofs.NextTurns.{running_more, running_same, running_none, get_behind, get_first}
use Rattle.job_pool.proofs.schedules.running_at.Goals.{then-is_none+else-left-eq0, else-is_none}
use Rattle.job_pool.proofs.schedules.running_at.Goals as goal

pub loop-i-preserved : goal.loop-i-preserved
loop-i-preserved c =
    let said : is_some c.index-jobs-i.result.end ≡ not c.is_none.result = ap (λ (x : PoolJob). is_some x.end) c.index-jobs-i.is ∙ c.is_none.ensures in
    elim c.if-is_none.branch [
      | then-is_none+else-left-eq0 w ↦
          (let more = running_more c.args.jobs.now c.loop-i.i c.index-jobs-i.result c.loop-i-test.true c.index-jobs-i.is (said ∙ ap not w.if-is_none.true) in
          let behind : c.loop-i.left ≡ suc c.if-is_none.left = omega (arith, w.left-is, w.if-left-eq0.false) in
          sym (ap (λ (l : List ℕ). slice_get l c.loop-i.left) more ∙ get_behind _ _ c.loop-i.left c.if-is_none.left behind) ∙ c.loop-i.invariant)
      | else-is_none w ↦
          (let same = running_same c.args.jobs.now c.loop-i.i c.index-jobs-i.result c.loop-i-test.true c.index-jobs-i.is (said ∙ ap not w.if-is_none.false) in
          ap (λ (k : ℕ). slice_get (running_from (c.loop-i.i + 1) (drop (c.loop-i.i + 1) c.args.jobs.now)) k) w.left-is ∙ sym (ap (λ (l : List ℕ). slice_get l c.loop-i.left) same) ∙ c.loop-i.invariant)
    ]

pub returns-then-left-eq0 : goal.returns-then-left-eq0
returns-then-left-eq0 c =
    let said : is_some c.index-jobs-i.result.end ≡ not c.is_none.result = ap (λ (x : PoolJob). is_some x.end) c.index-jobs-i.is ∙ c.is_none.ensures in
    let more = running_more c.args.jobs.now c.loop-i.i c.index-jobs-i.result c.loop-i-test.true c.index-jobs-i.is (said ∙ ap not c.if-is_none.true) in
    sym (ap (λ (l : List ℕ). slice_get l c.loop-i.left) more ∙ get_first _ _ c.loop-i.left c.if-left-eq0.true) ∙ c.loop-i.invariant

pub returns : goal.returns
returns c =
    let none = running_none c.args.jobs.now c.loop-i.i c.loop-i-test.false in
    ap (λ (l : List ℕ). slice_get l c.loop-i.left) (sym none) ∙ c.loop-i.invariant
