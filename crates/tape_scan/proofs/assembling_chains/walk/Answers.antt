use Rattle.std.proofs.Common.{ℕ, List, [], ◌∷◌, ◌++◌, sym, ap, ◌∙◌}
use Rattle.tape_frames.specs.declared.dump_head.DumpHeadFields.{DumpHeadFields}
use Rattle.tape_scan.specs.declared.sections.PartFound.{PartFound}
use Rattle.tape_scan.specs.AssembledSteps.{seen}
use Rattle.tape_scan.proofs.AssemblingSteps.{stands_there, head_read, one_stands, stands_long}
use Rattle.tape_scan.proofs.AssemblingPaths.{walk_begun, walk_further, walk_ended}
use Rattle.tape_scan.proofs.assembling_chains.walk.Goals as goal

pub steps-init : goal.steps-init
steps-init c =
    let there = stands_there c.args.parts.now c.args.begin c.index-parts-begin.result c.requires.within c.index-parts-begin.is in (
      walk_begun (seen c.args.parts.now) c.args.good.now c.args.begin c.index-parts-begin.result.now c.push.new.self there (c.in_ok-push.ensures.ok ∙ ap (λ (l : List ℕ). l ++ c.args.begin ∷ []) c.new-places.ensures),
      c.requires.within,
      (λ p stands. ap (λ (x : PartFound). x.head.part) (one_stands (seen c.args.parts.now) c.args.begin p c.index-parts-begin.result.now stands there) ∙ ap (λ (h : DumpHeadFields). h.part) (sym (head_read c.args.parts.now c.args.begin c.index-parts-begin.result c.fields.result.now c.index-parts-begin.is c.fields.ensures.value))),
    )

pub steps-preserved : goal.steps-preserved
steps-preserved c =
    let there = stands_there c.args.parts.now c.steps.at c.index-parts-at.result c.steps.invariant.1 c.index-parts-at.is in
    let next = c.in-Some.ensures.next in
    let within = stands_long c.args.parts.now c.in-Some.next next.0 next.1.stands in
    let ahead = stands_there c.args.parts.now c.in-Some.next c.index-parts-next.result within c.index-parts-next.is in (
      walk_further (seen c.args.parts.now) c.args.good.now c.args.begin c.steps.places c.steps.at c.index-parts-at.result.now c.in-Some.next next.0 c.push-in-Some.new.self c.steps.invariant.0 there next.1 c.in_ok-push-2.ensures.ok,
      within,
      (λ p stands. ap (λ (x : PartFound). x.head.part) (one_stands (seen c.args.parts.now) c.in-Some.next p c.index-parts-next.result.now stands ahead) ∙ ap (λ (h : DumpHeadFields). h.part) (sym (head_read c.args.parts.now c.in-Some.next c.index-parts-next.result c.fields-in-Some.result.now c.index-parts-next.is c.fields-in-Some.ensures.value))),
    )

pub returns : goal.returns
returns c =
    let there = stands_there c.args.parts.now c.steps.at c.index-parts-at.result c.steps.invariant.1 c.index-parts-at.is in
    walk_ended (seen c.args.parts.now) c.args.good.now c.args.begin c.steps.places c.steps.at c.index-parts-at.result.now c.steps.invariant.0 there c.in_default.ensures.next
