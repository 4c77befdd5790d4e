use Rattle.std.proofs.Common.{◌+◌, Bool, List, sym, ap, subst, ◌∙◌, arith}
use Rattle.tape_frames.specs.declared.dump_head.DumpHeadFields.{DumpHeadFields}
use Rattle.tape_scan.specs.AssembledSteps.{AreKnownFrom, seen}
use Rattle.tape_scan.proofs.AssemblingSteps.{stands_there, flags_taken, flags_kept, AreKnownBefore}
use Rattle.tape_scan.proofs.assembling_flags.flag_number.Goals as goal
use Rattle.tape_scan.proofs.assembling_flags.flag_number.Goals.{then-fields-number, else-fields-number}

pub loop-i-preserved : goal.loop-i-preserved
loop-i-preserved c =
    let all = seen c.args.parts.now in
    let i = c.loop-i.i in
    let number = c.args.number in
    let there = stands_there c.args.parts.now i c.index-parts-i.result c.loop-i-test.true c.index-parts-i.is in
    elim c.if-fields-number.branch [
      | then-fields-number w ↦
          subst (λ (g : List Bool). AreKnownFrom all g (number + 1) × AreKnownBefore all g number (i + 1)) (sym w.good-is)
          (flags_taken all c.loop-i.good number i c.index-parts-i.result.now w.leads_on-leads.result (omega (arith, c.loop-i-test.true, c.requires.long, c.loop-i.auto.good)) there w.leads_on-leads.ensures c.loop-i.invariant.0 c.loop-i.invariant.1)
      | else-fields-number w ↦
          subst (λ (g : List Bool). AreKnownFrom all g (number + 1) × AreKnownBefore all g number (i + 1)) (sym w.good-is)
          (flags_kept all c.loop-i.good number i c.index-parts-i.result.now there (λ same. w.if-fields-number.false (ap (λ (h : DumpHeadFields). h.part) c.fields.ensures.value ∙ same)) c.loop-i.invariant.0 c.loop-i.invariant.1)
    ]
