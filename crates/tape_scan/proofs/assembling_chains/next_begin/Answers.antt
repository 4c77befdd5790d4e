use Rattle.std.proofs.Common.{◌≡◌, ◌+◌, ℕ, Option, Some, sym, ap, subst, ◌∙◌, arith}
use Rattle.tape_frames.specs.declared.dump_head.DumpHeadFields.{DumpHeadFields}
use Rattle.tape_scan.specs.AssembledSteps.{seen}
use Rattle.tape_scan.specs.AssembledPaths.{IsNextBegin}
use Rattle.tape_scan.proofs.AssemblingSteps.{stands_there, head_read}
use Rattle.tape_scan.proofs.AssemblingPaths.{IsBest, begin_taken, begin_kept}
use Rattle.tape_scan.proofs.assembling_chains.next_begin.Goals as goal
use Rattle.tape_scan.proofs.assembling_chains.next_begin.Goals.{then-good-i+then-head-eq1+then-least-id+then-id-below, else-good-i, else-good-i-via-then-good-i+then-head-eq1+then-least-id+else-id-below, else-good-i-via-then-good-i+then-head-eq1+else-least-id, else-good-i-via-then-good-i+else-head-eq1, else-good-i-via-else-good-i}

pub loop-i-preserved : goal.loop-i-preserved
loop-i-preserved c =
    let all = seen c.args.parts.now in
    let good = c.args.good.now in
    let least = c.args.least in
    let i = c.loop-i.i in
    let there = stands_there c.args.parts.now i c.index-parts-i.result c.loop-i-test.true c.index-parts-i.is in
    let head = head_read c.args.parts.now i c.index-parts-i.result c.fields-head.result.now c.index-parts-i.is c.fields-head.ensures.value in
    let id : c.from-id.result ≡ c.index-parts-i.result.now.head.id = c.from-id.ensures ∙ ap (λ (h : DumpHeadFields). h.id) head in
    let part = ap (λ (h : DumpHeadFields). h.part) head in
    elim c.if-good-i.branch [
      | then-good-i+then-head-eq1+then-least-id+then-id-below w ↦
          subst (λ (b : Option ℕ). IsNextBegin all good least (i + 1) b × IsBest all (i + 1) b c.if-good-i.below) (sym w.best-is)
          (subst (λ (n : ℕ). IsNextBegin all good least (i + 1) (Some i) × IsBest all (i + 1) (Some i) n) (sym w.below-is)
          (begin_taken all good least i c.loop-i.best c.loop-i.below c.index-parts-i.result.now c.from-id.result c.loop-i.invariant.0 c.loop-i.invariant.1 there w.if-good-i.true (sym part ∙ w.if-head-eq1.true) id w.if-least-id.true w.if-id-below.true))
      | else-good-i w ↦
          subst (λ (b : Option ℕ). IsNextBegin all good least (i + 1) b × IsBest all (i + 1) b c.if-good-i.below) (sym w.best-is)
          (subst (λ (n : ℕ). IsNextBegin all good least (i + 1) c.loop-i.best × IsBest all (i + 1) c.loop-i.best n) (sym w.below-is)
          (begin_kept all good least i c.loop-i.best c.loop-i.below c.index-parts-i.result.now c.loop-i.invariant.0 c.loop-i.invariant.1 there (let fits = c.fields-head.ensures.fits.id in let ids = ap (λ (h : DumpHeadFields). h.id) head in omega (arith, fits, ids))
          (λ flagged first low less. elim w.else-good-i.branch [
            | else-good-i-via-then-good-i+then-head-eq1+then-least-id+else-id-below v ↦ absurd (let not = v.if-id-below.false in omega (arith, not, less, id))
            | else-good-i-via-then-good-i+then-head-eq1+else-least-id v ↦ absurd (let not = v.if-least-id.false in omega (arith, not, low, id))
            | else-good-i-via-then-good-i+else-head-eq1 v ↦ absurd (v.if-head-eq1.false (part ∙ first))
            | else-good-i-via-else-good-i v ↦ absurd (let not = v.if-good-i.false in cc (not, flagged))
          ])))
    ]
