-- A plan has one answer.
use Rattle.std.proofs.Common.{◌≡◌, ℕ, Option, Some, None, Ok, Err, List, [], ◌∷◌, map, refl, sym, ap, ◌∙◌}
use Rattle.std.specs.Prelude.{Result, find}
use Rattle.std.specs.List.{filter_map, cons_option}
use Rattle.budb_changes.specs.declared.records.DumpRecordFields.{DumpRecordFields}
use Rattle.budb_fold.specs.Lookups.{VolumeDump, latest}
use Rattle.budb_fold.specs.Chains.{IsChain, HaveParentsBelow}
use Rattle.budb_fold.proofs.ChainLaws.{one_outcome}
use Rattle.tape_frames.specs.TapeNames.{numbered}
use Rattle.tape_scan.specs.Slots.{Slot}
use Rattle.archive_model.specs.Archives.{Need, needs, is_missing}
use Rattle.restore_chain.specs.declared.chain_plan.TapeNeed.{TapeNeed}
use Rattle.restore_chain.specs.declared.chain_plan.ChainPlan.{ChainPlan}
use Rattle.restore_chain.specs.declared.fault.RestoreFault.{RestoreFault}
use Rattle.restore_chain.specs.declared.fault.RestoreFault.TheVariants as faults
use Rattle.restore_chain.specs.Planning.{located, PlansOne, PlansFor, Plans, IsDecided}
use Rattle.restore_chain.proofs.LocatedLaws.{all_there}

-- the answer of a chain, or of the id in its place
abbrev told_by : List Slot → List Need → VolumeDump → List ℕ → Option Need → Result ChainPlan RestoreFault
told_by slots all one ids None = Ok (record { name = one.volume.name; dumps = ids; tapes = filter_map (located slots) all })
told_by slots all one ids (Some n) = Err (faults.MissingTape (numbered n.dump.base n.tape) n.dump.initial)

abbrev told : List Slot → List DumpRecordFields → VolumeDump → Result (List ℕ) ℕ → Result ChainPlan RestoreFault
told slots listed one (Ok ids) = told_by slots (needs listed ids one.volume.name) one ids (find (is_missing slots) (needs listed ids one.volume.name))
told slots listed one (Err id) = Err (faults.MissingDump id)

all_kept : (slots : List Slot) (ns : List Need) (ts : List TapeNeed) → map (located slots) ns ≡ map Some ts → filter_map (located slots) ns ≡ ts
all_kept slots [] [] is = refl
all_kept slots [] (t ∷ ts) is = absurd (cc)
all_kept slots (n ∷ ns) [] is = absurd (cc)
all_kept slots (n ∷ ns) (t ∷ ts) is =
    let first : located slots n ≡ Some t = cc in
    let rest : map (located slots) ns ≡ map Some ts = cc in
    ap (λ (o : Option TapeNeed). cons_option o (filter_map (located slots) ns)) first ∙ ap (λ (us : List TapeNeed). t ∷ us) (all_kept slots ns ts rest)

record IsTold (slots : List Slot) (listed : List DumpRecordFields) (one : VolumeDump) (x : Result ChainPlan RestoreFault) : Type 0 where
  chain : Result (List ℕ) ℕ
  is : IsChain listed one.dump.id one.volume.name chain
  same : x ≡ told slots listed one chain

is_told : (slots : List Slot) (listed : List DumpRecordFields) (one : VolumeDump) (x : Result ChainPlan RestoreFault) → HaveParentsBelow listed → IsDecided x → PlansOne slots listed one x → IsTold slots listed one x
is_told slots listed one (Ok plan) below decided plans = record {
  chain = Ok plan.dumps;
  is = plans.chain;
  same = (λ i. Ok (record { name = plans.name i; dumps = plan.dumps; tapes = sym (all_kept slots (needs listed plan.dumps one.volume.name) plan.tapes plans.tapes) i }))
      ∙ sym (ap (told_by slots (needs listed plan.dumps one.volume.name) one plan.dumps) (all_there slots (needs listed plan.dumps one.volume.name) plan.tapes plans.tapes));
}
is_told slots listed one (Err faults.NoDump) below decided plans = absurd plans
is_told slots listed one (Err (faults.MissingDump id)) below decided plans = record { chain = Err id; is = plans below; same = refl }
is_told slots listed one (Err (faults.MissingTape name initial)) below decided plans = record {
  chain = Ok plans.dumps;
  is = plans.chain;
  same = (λ i. Err (faults.MissingTape (plans.missing.named i) (plans.missing.initial_is i))) ∙ sym (ap (told_by slots (needs listed plans.dumps one.volume.name) one plans.dumps) plans.missing.first);
}
is_told slots listed one (Err (faults.BaseLacks number)) below decided plans = absurd plans
is_told slots listed one (Err (faults.BadOnTape tape place)) below decided plans = absurd plans
is_told slots listed one (Err faults.TooLarge) below decided plans = absurd plans
is_told slots listed one (Err faults.Failed) below decided plans = absurd decided
is_told slots listed one (Err faults.Memory) below decided plans = absurd decided

no_dump : (slots : List Slot) (listed : List DumpRecordFields) (x : Result ChainPlan RestoreFault) → IsDecided x → PlansFor slots listed None x → x ≡ Err faults.NoDump
no_dump slots listed (Ok plan) decided plans = absurd plans
no_dump slots listed (Err faults.NoDump) decided plans = refl
no_dump slots listed (Err (faults.MissingDump id)) decided plans = absurd plans
no_dump slots listed (Err (faults.MissingTape name initial)) decided plans = absurd plans
no_dump slots listed (Err (faults.BaseLacks number)) decided plans = absurd plans
no_dump slots listed (Err (faults.BadOnTape tape place)) decided plans = absurd plans
no_dump slots listed (Err faults.TooLarge) decided plans = absurd plans
no_dump slots listed (Err faults.Failed) decided plans = absurd decided
no_dump slots listed (Err faults.Memory) decided plans = absurd decided

once_for : (slots : List Slot) (listed : List DumpRecordFields) (found : Option VolumeDump) (x y : Result ChainPlan RestoreFault) → HaveParentsBelow listed → IsDecided x → IsDecided y → PlansFor slots listed found x → PlansFor slots listed found y → x ≡ y
once_for slots listed None x y below dx dy px py = no_dump slots listed x dx px ∙ sym (no_dump slots listed y dy py)
once_for slots listed (Some one) x y below dx dy px py =
    let a = is_told slots listed one x below dx px in
    let b = is_told slots listed one y below dy py in
    a.same ∙ ap (told slots listed one) (one_outcome listed one.dump.id one.volume.name a.chain b.chain a.is b.is) ∙ sym b.same

pub plans_once : (slots : List Slot) (listed : List DumpRecordFields) (name : List ℕ) (before : Option ℕ) (x y : Result ChainPlan RestoreFault) → HaveParentsBelow listed → IsDecided x → IsDecided y → Plans slots listed name before x → Plans slots listed name before y → x ≡ y
plans_once slots listed name before x y below dx dy px py = once_for slots listed (latest listed name before) x y below dx dy px py
