use Rattle.std.proofs.Common.{◌+◌, sym, ap, subst}
use Rattle.tape_frames.specs.declared.dump_head.DumpHeadFields.{DumpHeadFields}
use Rattle.tape_scan.specs.AssembledSteps.{IsGreatestBelow, seen}
use Rattle.tape_scan.proofs.AssemblingSteps.{stands_there, head_read, number_kept, number_taken}
use Rattle.tape_scan.proofs.assembling_flags.greatest_below.Goals as goal
use Rattle.tape_scan.proofs.assembling_flags.greatest_below.Goals.{then-is_below+then-is_above, else-is_below, else-is_below-via-then-is_below+else-is_above, else-is_below-via-else-is_below}

pub loop-i-preserved : goal.loop-i-preserved
loop-i-preserved c =
    let all = seen c.args.parts.now in
    let there = stands_there c.args.parts.now c.loop-i.i c.index-parts-i.result c.loop-i-test.true c.index-parts-i.is in
    let number = ap (λ (h : DumpHeadFields). h.part) (head_read c.args.parts.now c.loop-i.i c.index-parts-i.result c.fields.result.now c.index-parts-i.is c.fields.ensures.value) in
    elim c.if-is_below.branch [
      | then-is_below+then-is_above w ↦
          subst (IsGreatestBelow all c.args.bound (c.loop-i.i + 1)) (sym w.greatest-is)
          (number_taken all c.args.bound c.loop-i.i c.loop-i.greatest c.index-parts-i.result.now c.fields.result.now.part number c.loop-i.invariant there (c.is_below.ensures.0 w.if-is_below.true) (w.is_above.ensures.0 w.if-is_above.true))
      | else-is_below w ↦
          subst (IsGreatestBelow all c.args.bound (c.loop-i.i + 1)) (sym w.greatest-is)
          (number_kept all c.args.bound c.loop-i.i c.loop-i.greatest c.index-parts-i.result.now c.fields.result.now.part number c.loop-i.invariant there
          (λ low above. elim w.else-is_below.branch [
            | else-is_below-via-then-is_below+else-is_above v ↦ absurd (let yes = v.is_above.ensures.1 above in cc (yes, v.if-is_above.false))
            | else-is_below-via-else-is_below v ↦ absurd (let yes = c.is_below.ensures.1 low in cc (yes, v.if-is_below.false))
          ]))
    ]
