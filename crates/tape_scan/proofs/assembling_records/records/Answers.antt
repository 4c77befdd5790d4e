use Rattle.std.proofs.Common.{◌≡◌, ◌+◌, ◌++◌, ◌∷◌, [], ℕ, List, take, sym, ap, subst, ◌∙◌}
use Rattle.std.proofs.lemmas.List.{take_more}
use Rattle.tape_scan.specs.declared.assembling_chains.Chain.{Chain}
use Rattle.tape_scan.specs.AssembledSteps.{seen}
use Rattle.tape_scan.specs.AssembledRecords.{IsRecordAt, AreRecords}
use Rattle.tape_scan.proofs.AssemblingRecords.{records_push}
use Rattle.tape_scan.proofs.assembling_records.records.Goals as goal

pub loop-i-preserved : goal.loop-i-preserved
loop-i-preserved c =
    let all = seen c.args.parts.now in
    let i = c.loop-i.i in
    let chains = c.args.chains.now in
    let chain = c.index-chains-i.result in
    let front : take (i + 1) chains ≡ take i chains ++ chain ∷ [] = take_more chains i chain c.loop-i-test.true ∙ ap (λ (x : Chain). take i chains ++ x ∷ []) (sym c.index-chains-i.is) in
    let is : IsRecordAt all chain.places c.in_ok-record_at.field-0 = subst (λ (ks : List ℕ). IsRecordAt all ks c.in_ok-record_at.field-0) c.as_slice.ensures c.in_ok-record_at.ensures in
    subst (λ (cs : List Chain). AreRecords all cs c.push.new.self) (sym front)
    (subst (AreRecords all (take i chains ++ chain ∷ [])) (sym c.in_ok-push.ensures.ok) (records_push all (take i chains) c.loop-i.whole chain c.in_ok-record_at.field-0 c.loop-i.invariant is))
