use Rattle.std.proofs.Common.{◌++◌, ◌∷◌, [], ℕ, List, get_or, take, sym, ap, subst, ◌∙◌}
use Rattle.std.specs.Borrow.{Bor}
use Rattle.std.proofs.lemmas.List.{take_more, map_push}
use Rattle.tape_scan.specs.declared.sections.PartFound.{PartFound}
use Rattle.tape_scan.specs.AssembledSteps.{seen}
use Rattle.tape_scan.specs.AssembledRecords.{ArePlaced}
use Rattle.tape_scan.proofs.AssemblingSteps.{stands_there}
use Rattle.tape_scan.proofs.AssemblingRecords.{placed_push}
use Rattle.tape_scan.proofs.assembling_records.parts_at.Goals as goal

pub loop-place-preserved : goal.loop-place-preserved
loop-place-preserved c =
    let all = seen c.args.parts.now in
    let i = c.loop-place.place-index in
    let k = get_or c.args.places.now i 0 in
    let there = stands_there c.args.parts.now k c.index-parts-place.result (c.requires i 0 c.loop-place-test.true) c.index-parts-place.is in
    let parts = ap (λ (l : List (Bor PartFound)). seen l) c.in_ok-push.ensures.items ∙ map_push (λ (r : Bor PartFound). r.now) c.loop-place.chosen.items c.index-parts-place.result in
    subst (λ (ks : List ℕ). ArePlaced all ks (seen c.push.new.self.items)) (sym (take_more c.args.places.now i 0 c.loop-place-test.true))
    (subst (ArePlaced all (take i c.args.places.now ++ k ∷ [])) (sym parts) (placed_push all (take i c.args.places.now) (seen c.loop-place.chosen.items) k c.index-parts-place.result.now c.loop-place.invariant there))
