-- Chains over fewer records, and plays of dumps whose fragments stand on other slots as well.
use Rattle.std.proofs.Common.{◌≡◌, ◌⊎◌, ℕ, suc, Option, Some, None, Ok, Err, List, [], ◌∷◌, refl, sym, ap, subst, ◌∙◌, arith, inl, inr}
use Rattle.std.specs.Prelude.{Result, All, Contains, ◌==◌}
use Rattle.std.specs.List.{cons_option}
use Rattle.std.proofs.lemmas.Bool.{eqb-true, eq-eqb}
use Rattle.std.proofs.lemmas.List.Elements.{All-head, All-tail, All-weaker}
use Rattle.vnode_model.specs.declared.volumes.VolumeFields.{VolumeFields}
use Rattle.vnode_model.specs.declared.increments.IncrementFields.{IncrementFields}
use Rattle.vnode_model.specs.declared.applying.ApplyFault.{ApplyFault}
use Rattle.vnode_model.specs.declared.applying.ApplyFault.TheVariants as faults
use Rattle.vnode_model.specs.Increments.{applied}
use Rattle.budb_changes.specs.declared.records.VolRecordFields.{VolRecordFields}
use Rattle.budb_changes.specs.declared.records.DumpRecordFields.{DumpRecordFields}
use Rattle.budb_fold.specs.Lookups.{VolumeDump, record_of, volume_of}
use Rattle.budb_fold.specs.Chains.{with_volume, volume_in, dump_of, IsChain, Unfolds}
use Rattle.budb_fold.proofs.ChainLaws.{unfolds, chain_dumped, same_chain}
use Rattle.tape_text.specs.Wholes.{Lying}
use Rattle.tape_text.specs.Texts.{Fragment}
use Rattle.tape_scan.specs.Slots.{Slot}
use Rattle.archive_model.specs.Holding.{called_for}
use Rattle.archive_model.specs.Plays.{StandsOn, AllStand, Gives, Spot, PlayFault, after_applied, after_given, records_of, PlaysOver}
use Rattle.archive_model.proofs.OnceLaws.{all_once, frame_or_stand}
use Rattle.archive_model.proofs.SlotLaws.{find_is, find_some, first_or_later}

-- ---- records

-- no two records have one id
abbrev pub AreIdsOnce : List DumpRecordFields → Type 0
AreIdsOnce records = (d e : DumpRecordFields) → Contains records d → Contains records e → d.id ≡ e.id → d ≡ e

pub record_is_there : (records : List DumpRecordFields) (id : ℕ) (d : DumpRecordFields) → record_of records id ≡ Some d → Contains records d × (d.id ≡ id)
record_is_there records id d is =
    let found = find_is (λ (e : DumpRecordFields). e.id == id) records d is in
    (found.0, eqb-true d.id id found.1)

pub record_by_id : (records : List DumpRecordFields) (d : DumpRecordFields) (id : ℕ) → AreIdsOnce records → Contains records d → d.id ≡ id → record_of records id ≡ Some d
record_by_id records d id once there same =
    let some = find_some (λ (e : DumpRecordFields). e.id == id) records d there (eq-eqb d.id id same) in
    let found = record_is_there records id some.0 some.1 in
    some.1 ∙ ap (λ (e : DumpRecordFields). Some e) (once some.0 d found.0 there (found.1 ∙ sym same))

-- a record of fewer records is one of all
pub record_of_more : (few all : List DumpRecordFields) (id : ℕ) (d : DumpRecordFields) → AreIdsOnce all → ((e : DumpRecordFields) → Contains few e → Contains all e) → record_of few id ≡ Some d → record_of all id ≡ Some d
record_of_more few all id d once sub is =
    let found = record_is_there few id d is in
    record_by_id all d id once (sub d found.0) found.1

-- ---- chains

abbrev pub HasRecord : List DumpRecordFields → ℕ → Type 0
HasRecord records id = (d : DumpRecordFields) × (record_of records id ≡ Some d)

with_its_dump : (e : DumpRecordFields) (v : Option VolRecordFields) (d : VolumeDump) → with_volume e v ≡ Some d → e ≡ d.dump
with_its_dump e None d is = absurd (cc)
with_its_dump e (Some v) d is = (let same : record { dump = e; volume = v } ≡ d = cc in ap (λ (x : VolumeDump). x.dump) same)

-- the record of a dump that is looked up with its volume
pub its_record : (o : Option DumpRecordFields) (name : List ℕ) (d : VolumeDump) → volume_in o name ≡ Some d → o ≡ Some d.dump
its_record None name d is = absurd (cc)
its_record (Some e) name d is = ap (λ (x : DumpRecordFields). Some x) (with_its_dump e (volume_of e name) d is)

-- a dump that has a chain is among the records
pub chain_has_record : (records : List DumpRecordFields) (id : ℕ) (name js : List ℕ) → IsChain records id name (Ok js) → (p : DumpRecordFields) × Contains records p × (p.id ≡ id)
chain_has_record records id name js chain = by_dump (dump_of records name id) refl (unfolds records id name (Ok js) (dump_of records name id) refl chain)
  where
    by_dump : (o : Option VolumeDump) → dump_of records name id ≡ o → Unfolds records id name (Ok js) o → (p : DumpRecordFields) × Contains records p × (p.id ≡ id)
    by_dump None is so = absurd (cc)
    by_dump (Some e) is so = (let has = record_is_there records id e.dump (its_record (record_of records id) name e is) in (e.dump, has.0, has.1))

module _ (few all : List DumpRecordFields) (once : AreIdsOnce all) (sub : (e : DumpRecordFields) → Contains few e → Contains all e) where
  -- a chain over fewer records is the same over all
  pub chain_of_more : (id : ℕ) (name ids : List ℕ) → IsChain few id name (Ok ids) → IsChain all id name (Ok ids) × All (HasRecord few) ids
  chain_of_more id name ids chain =
      let dumped : All (λ (i : ℕ). (d : VolumeDump) × (dump_of few name i ≡ Some d)) ids = chain_dumped few id name ids chain in
      let has : All (HasRecord few) ids = All-weaker (λ (i : ℕ). (d : VolumeDump) × (dump_of few name i ≡ Some d)) (HasRecord few) (λ i d. (d.0.dump, its_record (record_of few i) name d.0 d.1)) ids dumped in
      let same : All (λ (i : ℕ). record_of all i ≡ record_of few i) ids = All-weaker (HasRecord few) (λ (i : ℕ). record_of all i ≡ record_of few i) (λ i h. record_of_more few all i h.0 once sub h.1 ∙ sym h.1) ids has in
      (same_chain few all id name ids same chain, has)

  -- and so are its records
  pub records_of_more : (ids : List ℕ) → All (HasRecord few) ids → records_of all ids ≡ records_of few ids
  records_of_more [] each = refl
  records_of_more (id ∷ ids) each =
      let has : HasRecord few id = All-head (HasRecord few) id ids each in
      let same : record_of all id ≡ record_of few id = record_of_more few all id has.0 once sub has.1 ∙ sym has.1 in
      let rest : records_of all ids ≡ records_of few ids = records_of_more ids (All-tail (HasRecord few) id ids each) in
      cc

one_or_rest : (records : List DumpRecordFields) (id : ℕ) (ds : List DumpRecordFields) (d : DumpRecordFields) (o : Option DumpRecordFields) → record_of records id ≡ o → Contains (cons_option o ds) d → Contains records d ⊎ Contains ds d
one_or_rest records id ds d None is there = inr there
one_or_rest records id ds d (Some e) is there = elim (first_or_later e ds d there) [
  | inl same ↦ inl (subst (Contains records) same (record_is_there records id e is).0)
  | inr later ↦ inr later
]

-- each of a chain's records is among the records
pub chain_records_there : (records : List DumpRecordFields) (ids : List ℕ) (d : DumpRecordFields) → Contains (records_of records ids) d → Contains records d
chain_records_there records [] d there = absurd (omega (arith, there.1))
chain_records_there records (id ∷ ids) d there = elim (one_or_rest records id (records_of records ids) d (record_of records id) refl there) [
  | inl first ↦ first
  | inr later ↦ chain_records_there records ids d later
]

-- ---- plays

module _ (slots others : List Slot) (name : List ℕ) where
  -- each fragment stands on both
  abbrev pub AreAlsoThere : DumpRecordFields → List Lying → Type 0
  AreAlsoThere d cs = (c : Lying) → Contains cs c → (f : Fragment) × StandsOn slots d c f × StandsOn others d c f

  pub all_there : (d : DumpRecordFields) (cs : List Lying) → AreAlsoThere d cs → (fs : List Fragment) × AllStand slots d cs fs × AllStand others d cs fs
  all_there d [] each = ([], tt, tt)
  all_there d (c ∷ cs) each =
      let here = each c (0, omega arith, refl) in
      let rest = all_there d cs (λ e there. each e (suc there.0, omega (arith, there.1), there.2)) in
      (here.0 ∷ rest.0, (here.1, rest.1), (here.2, rest.2))

  moved : (d : DumpRecordFields) (cs : List Lying) (fs : List Fragment) → AreAlsoThere d cs → AllStand slots d cs fs → AllStand others d cs fs
  moved d cs fs each stand =
      let all = all_there d cs each in
      subst (AllStand others d cs) (all_once slots d cs all.0 fs all.1 stand) all.2

  gives_too : (d : DumpRecordFields) (cs : List Lying) (given : Result IncrementFields Spot) → AreAlsoThere d cs → Gives slots d cs given → Gives others d cs given
  gives_too d cs (Ok i) each gives = record { fragments = gives.fragments; stand = moved d cs gives.fragments each gives.stand; spells = gives.spells }
  gives_too d cs (Err spot) each (inl bad_frame) = (let all = all_there d cs each in absurd (frame_or_stand slots d cs all.0 spot all.1 bad_frame))
  gives_too d cs (Err spot) each (inr stream) = inr (record { fragments = stream.fragments; stand = moved d cs stream.fragments each stream.stand; stops = stream.stops })

  applied_too : (r : Result VolumeFields ApplyFault) (K L : VolumeFields → Type 0) (outcome : Result VolumeFields PlayFault) → ((v : VolumeFields) → K v → L v) → after_applied r K outcome → after_applied r L outcome
  applied_too (Ok v) K L outcome goes on = goes v on
  applied_too (Err (faults.BaseLacks number uniq)) K L outcome goes on = on
  applied_too (Err faults.TooLarge) K L outcome goes on = on
  applied_too (Err faults.Memory) K L outcome goes on = on

  given_too : (d : DumpRecordFields) (base : Option VolumeFields) (given : Result IncrementFields Spot) (K L : VolumeFields → Type 0) (outcome : Result VolumeFields PlayFault) → ((v : VolumeFields) → K v → L v) → after_given d base given K outcome → after_given d base given L outcome
  given_too d base (Ok i) K L outcome goes on = applied_too (applied base i) K L outcome goes on
  given_too d base (Err spot) K L outcome goes on = on

  -- dumps whose fragments stand on both play alike
  pub plays_too : (ds : List DumpRecordFields) (base : Option VolumeFields) (outcome : Result VolumeFields PlayFault) → ((d : DumpRecordFields) → Contains ds d → AreAlsoThere d (called_for d name)) → PlaysOver slots name base ds outcome → PlaysOver others name base ds outcome
  plays_too [] base outcome each plays = plays
  plays_too (d ∷ ds) base outcome each plays = (
    plays.0,
    gives_too d (called_for d name) plays.0 (each d (0, omega arith, refl)) plays.1,
    given_too d base plays.0 (λ volume. PlaysOver slots name (Some volume) ds outcome) (λ volume. PlaysOver others name (Some volume) ds outcome) outcome
        (λ volume on. plays_too ds (Some volume) outcome (λ e there. each e (suc there.0, omega (arith, there.1), there.2)) on) plays.2,
  )
