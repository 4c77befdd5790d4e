use Rattle.std.proofs.Common.{◌+◌, ◌++◌, ◌∷◌, [], sym, ap, subst, ◌∙◌}
use Rattle.tape_frames.specs.declared.dump_head.DumpHeadFields.{DumpHeadFields}
use Rattle.tape_scan.specs.AssembledSteps.{seen}
use Rattle.tape_scan.specs.AssembledRecords.{AreLeft}
use Rattle.tape_scan.proofs.AssemblingSteps.{stands_there, head_read}
use Rattle.tape_scan.proofs.AssemblingRecords.{none_left, left_taken, left_passed}
use Rattle.tape_scan.proofs.assembling.left_over.Goals as goal
use Rattle.tape_scan.proofs.assembling.left_over.Goals.{then-not-is_on_way+in_ok-push, else-not-is_on_way}

pub loop-i-init : goal.loop-i-init
loop-i-init c = none_left (seen c.args.parts.now) c.args.chains.now c.new-ids.result c.new-ids.ensures

pub loop-i-preserved : goal.loop-i-preserved
loop-i-preserved c =
    let all = seen c.args.parts.now in
    let chains = c.args.chains.now in
    let i = c.loop-i.i in
    elim c.if-not-is_on_way.branch [
      | then-not-is_on_way+in_ok-push w ↦
          (let there = stands_there c.args.parts.now i w.index-parts-i.result c.loop-i-test.true w.index-parts-i.is in
          let head = head_read c.args.parts.now i w.index-parts-i.result w.fields-head.result.now w.index-parts-i.is w.fields-head.ensures.value in
          left_taken all chains i c.loop-i.ids c.if-not-is_on_way.ids w.index-parts-i.result.now c.loop-i.invariant there
          (λ on. absurd (let yes = c.is_on_way.ensures.1 on in cc (yes, w.if-not-is_on_way.true)))
          (w.ids-is ∙ w.in_ok-push.ensures.ok ∙ ap (λ (h : DumpHeadFields). c.loop-i.ids ++ record { id = h.id; tape = h.tape } ∷ []) head))
      | else-not-is_on_way w ↦ subst (AreLeft all chains (i + 1)) (sym w.ids-is) (left_passed all chains i c.loop-i.ids c.loop-i.invariant (c.is_on_way.ensures.0 w.if-not-is_on_way.false))
    ]
