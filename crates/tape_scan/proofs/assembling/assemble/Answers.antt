use Rattle.std.proofs.Common.{◌≡◌, ℕ, ◌<◌, List, length, sym, ap, subst, ◌∙◌}
use Rattle.std.specs.Prelude.{All}
use Rattle.std.specs.Borrow.{Bor}
use Rattle.std.specs.List.{flat_map}
use Rattle.std.proofs.lemmas.List.Elements.{All-weaker}
use Rattle.tape_scan.specs.declared.sections.PartFound.{PartFound}
use Rattle.tape_scan.specs.declared.sections.Sections.{Sections}
use Rattle.tape_scan.specs.declared.assembling_chains.Chain.{Chain}
use Rattle.tape_scan.specs.AssembledSteps.{AreKnown, seen}
use Rattle.tape_scan.specs.AssembledPaths.{IsChain}
use Rattle.tape_scan.specs.AssembledRecords.{AreRecords, AreLeft}
use Rattle.tape_scan.proofs.AssemblingRecords.{chain_within, seen_long}
use Rattle.tape_scan.proofs.AssemblingWhole.{assembled}
use Rattle.tape_scan.proofs.assembling.assemble.Goals as goal

pub records-requires : goal.records-requires
records-requires c =
    let parts = c.as_slice-lent.result.now in
    let good = c.as_slice.result.now in
    let within : All (λ (x : Chain). (0 < length x.places) × All (λ k. k < length parts) x.places) c.in_ok-chains.chains =
    All-weaker (IsChain (seen parts) good) (λ (x : Chain). (0 < length x.places) × All (λ k. k < length parts) x.places)
    (λ x chain. subst (λ (n : ℕ). (0 < length x.places) × All (λ k. k < n) x.places) (seen_long parts) (chain_within (seen parts) good x chain)) c.in_ok-chains.chains c.in_ok-chains.ensures.each in
    subst (All (λ (x : Chain). (0 < length x.places) × All (λ k. k < length parts) x.places)) (sym c.as_slice-2.ensures) within

pub returns : goal.returns
returns c = λ slots scans.
    let parts = c.as_slice-lent.result.now in
    let gathered : seen parts ≡ flat_map (λ (t : Sections). t.parts) c.args.tapes.now = ap (λ (l : List (Bor PartFound)). seen l) c.as_slice-lent.ensures.value ∙ c.in_ok-parts.ensures in
    let known : AreKnown (seen parts) c.as_slice.result.now = subst (AreKnown (seen parts)) (sym c.as_slice.ensures.value) c.in_ok-good.ensures.known in
    let records = subst (λ (cs : List Chain). AreRecords (seen parts) cs c.in_ok-whole.whole) c.as_slice-2.ensures c.in_ok-whole.ensures in
    let left =
    subst (λ (n : ℕ). AreLeft (seen parts) c.in_ok-chains.chains n c.in_ok-parts-2.parts) (sym (seen_long parts))
    (subst (λ (cs : List Chain). AreLeft (seen parts) cs (length parts) c.in_ok-parts-2.parts) c.as_slice-3.ensures c.in_ok-parts-2.ensures) in
    assembled slots c.args.tapes.now (seen parts) c.as_slice.result.now c.in_ok-chains.chains c.in_ok-whole.whole c.in_ok-parts-2.parts scans gathered known c.in_ok-chains.ensures records left
