-- What a plan answers is what a look-up gives.
use Rattle.std.proofs.Common.{◌≡◌, ℕ, Option, Some, None, Ok, Err, List, refl, sym, ap, ◌∙◌}
use Rattle.budb_fold.specs.Lookups.{VolumeDump, latest}
use Rattle.archive_model.specs.Archives.{Archive, Refusal, Need, NoDump, MissingDump, MissingTape, listed_of, needs, unless_missing, LooksUpOne, LooksUp}
use Rattle.archive_model.proofs.ListedLaws.{all_below}
use Rattle.restore_chain.specs.declared.chain_plan.ChainPlan.{ChainPlan}
use Rattle.restore_chain.specs.declared.fault.RestoreFault.{RestoreFault}
use Rattle.restore_chain.specs.declared.fault.RestoreFault.TheVariants as faults
use Rattle.restore_chain.specs.Planning.{PlansFor, Plans, refusal_of, LeadsTo}
use Rattle.restore_chain.proofs.LocatedLaws.{all_there}

refused_for : (a : Archive) (found : Option VolumeDump) (fault : RestoreFault) (refusal : Refusal) → refusal_of fault ≡ Some refusal → PlansFor a.slots (listed_of a) found (Err fault) → LooksUpOne a found (Err refusal)
refused_for a None faults.NoDump refusal is plans = let same : NoDump ≡ refusal = cc in ap Err (sym same)
refused_for a (Some one) faults.NoDump refusal is plans = absurd plans
refused_for a None (faults.MissingDump id) refusal is plans = absurd plans
refused_for a (Some one) (faults.MissingDump id) refusal is plans = (Err id, plans (all_below a.log), (let same : MissingDump id ≡ refusal = cc in ap Err (sym same)))
refused_for a None (faults.MissingTape name initial) refusal is plans = absurd plans
refused_for a (Some one) (faults.MissingTape name initial) refusal is plans =
    let same : MissingTape name initial ≡ refusal = cc in
    let m = plans.missing in
    (Ok plans.dumps, plans.chain, ap Err (sym same) ∙ (λ i. Err (MissingTape (m.named i) (m.initial_is i))) ∙ sym (ap (λ (o : Option Need). unless_missing o (a.contents one.dump.id one.volume.name)) m.first))
refused_for a found (faults.BaseLacks number) refusal is plans = absurd (cc)
refused_for a found (faults.BadOnTape tape place) refusal is plans = absurd (cc)
refused_for a found faults.TooLarge refusal is plans = absurd (cc)
refused_for a found faults.Failed refusal is plans = absurd (cc)
refused_for a found faults.Memory refusal is plans = absurd (cc)

pub refused : (a : Archive) (name : List ℕ) (before : Option ℕ) (fault : RestoreFault) (refusal : Refusal) → refusal_of fault ≡ Some refusal → Plans a.slots (listed_of a) name before (Err fault) → LooksUp a name before (Err refusal)
refused a name before fault refusal is plans = refused_for a (latest (listed_of a) name before) fault refusal is plans

leads_for : (a : Archive) (found : Option VolumeDump) (plan : ChainPlan) → PlansFor a.slots (listed_of a) found (Ok plan) → (one : VolumeDump) × (found ≡ Some one) × (plan.name ≡ one.volume.name) × LooksUpOne a found (a.contents one.dump.id one.volume.name)
leads_for a None plan plans = absurd plans
leads_for a (Some one) plan plans = (
  one,
  refl,
  plans.name,
  (Ok plan.dumps, plans.chain, sym (ap (λ (o : Option Need). unless_missing o (a.contents one.dump.id one.volume.name)) (all_there a.slots (needs (listed_of a) plan.dumps one.volume.name) plan.tapes plans.tapes))),
)

pub leads : (a : Archive) (name : List ℕ) (before : Option ℕ) (plan : ChainPlan) → Plans a.slots (listed_of a) name before (Ok plan) → LeadsTo a name before plan
leads a name before plan plans =
    let x = leads_for a (latest (listed_of a) name before) plan plans in
    record { one = x.0; latest_is = x.1; name_is = x.2; looked_up = x.3 }
