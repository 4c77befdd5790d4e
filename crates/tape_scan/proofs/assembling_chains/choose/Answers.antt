use Rattle.std.proofs.Common.{◌≡◌, ◌+◌, ℕ, ap, ◌∙◌}
use Rattle.tape_frames.specs.declared.dump_head.DumpHeadFields.{DumpHeadFields}
use Rattle.tape_scan.specs.declared.sections.PartFound.{PartFound}
use Rattle.tape_scan.specs.AssembledSteps.{seen}
use Rattle.tape_scan.proofs.AssemblingSteps.{stands_there, head_read, one_stands, stands_long}
use Rattle.tape_scan.proofs.AssemblingPaths.{chains_more}
use Rattle.tape_scan.proofs.assembling_chains.choose.Goals as goal

pub dumps-preserved : goal.dumps-preserved
dumps-preserved c =
    let all = seen c.args.parts.now in
    let next = c.in-Some.ensures in
    let begin = c.in-Some.begin in
    let there = stands_there c.args.parts.now begin c.index-parts-begin.result (stands_long c.args.parts.now begin next.0 next.1.stands) c.index-parts-begin.is in
    let head = head_read c.args.parts.now begin c.index-parts-begin.result c.fields.result.now c.index-parts-begin.is c.fields.ensures.value in
    let id : c.fields.result.now.id ≡ next.0.head.id = ap (λ (h : DumpHeadFields). h.id) head ∙ ap (λ (x : PartFound). x.head.id) (one_stands all begin c.index-parts-begin.result.now next.0 there next.1.stands) in
    chains_more all c.args.good.now c.dumps.least c.dumps.chains begin next.0 (record { id = c.fields.result.now.id; places = c.in_ok-places.places }) c.push.new.self (c.from-least.result + 1) c.dumps.invariant next.1 next.2
    (λ k q begins le. next.3 k q (stands_long c.args.parts.now k q begins.stands) begins le) c.in_ok-places.ensures id c.in_ok-push.ensures.ok (ap (λ (n : ℕ). n + 1) (c.from-least.ensures ∙ id))
