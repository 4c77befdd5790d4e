-- What a dump's contents are: its clone, or the fault by which its parent's play ends.
use Rattle.std.proofs.Common.{◌≡◌, ℕ, Option, Some, None, Ok, Err, List, [], ◌∷◌, ◌++◌, refl, sym, ap, subst, ◌∙◌, inl, inr}
use Rattle.std.specs.Prelude.{Result, Contains, find}
use Rattle.std.specs.List.{flat_map, cons_option}
use Rattle.std.proofs.lemmas.List.Concat.{flat_map-append}
use Rattle.std.proofs.lemmas.List.Elements.{filter_map-append, Contains-append_left}
use Rattle.vnode_model.specs.declared.volumes.VolumeFields.{VolumeFields}
use Rattle.vnode_model.specs.declared.increments.IncrementFields.{IncrementFields}
use Rattle.vnode_model.specs.declared.applying.ApplyFault.{ApplyFault}
use Rattle.vnode_model.specs.declared.applying.ApplyFault.TheVariants as faults
use Rattle.vnode_model.specs.Increments.{applied}
use Rattle.budb_changes.specs.declared.records.VolRecordFields.{VolRecordFields}
use Rattle.budb_changes.specs.declared.records.DumpRecordFields.{DumpRecordFields}
use Rattle.budb_fold.specs.Lookups.{record_of, volume_of}
use Rattle.budb_fold.specs.Chains.{with_volume, volume_in, IsChain, followed_by}
use Rattle.budb_fold.proofs.ChainLaws.{unfolds}
use Rattle.tape_scan.specs.Slots.{Slot}
use Rattle.archive_model.specs.Holding.{called_for}
use Rattle.archive_model.specs.Plays.{Spot, HasStream, PlayFault, after_applied, after_given, IsMade, records_of, PlaysOver, Plays}
use Rattle.archive_model.specs.Archives.{Refusal, Need, needs, needs_of, is_unheld, all_here, refused_by, Fault}
use Rattle.archive_model.specs.Turns.{ContentsGrow, GivesNext}
use Rattle.archive_model.proofs.RecordLaws.{AreIdsOnce, record_by_id, chain_has_record}
use Rattle.archive_model.proofs.SlotLaws.{none_passes, passes_none}

-- ---- a dump more is played

module _ (slots : List Slot) (name : List ℕ) (d : DumpRecordFields) where
  made_same : (base : Option VolumeFields) (v : VolumeFields) → IsMade base (Ok v) → base ≡ Some v
  made_same None v made = absurd made
  made_same (Some w) v made = (let same : w ≡ v = cc in ap (λ (x : VolumeFields). Some x) same)

  applied_on : (r : Result VolumeFields ApplyFault) (K L : VolumeFields → Type 0) (old new : VolumeFields) → ((v : VolumeFields) → K v → L v) → after_applied r K (Ok old) → after_applied r L (Ok new)
  applied_on (Ok v) K L old new goes on = goes v on
  applied_on (Err (faults.BaseLacks number uniq)) K L old new goes on = absurd (cc)
  applied_on (Err faults.TooLarge) K L old new goes on = absurd (cc)
  applied_on (Err faults.Memory) K L old new goes on = absurd on

  applied_still : (r : Result VolumeFields ApplyFault) (K L : VolumeFields → Type 0) (f : PlayFault) → ((v : VolumeFields) → K v → L v) → after_applied r K (Err f) → after_applied r L (Err f)
  applied_still (Ok v) K L f goes on = goes v on
  applied_still (Err (faults.BaseLacks number uniq)) K L f goes on = on
  applied_still (Err faults.TooLarge) K L f goes on = on
  applied_still (Err faults.Memory) K L f goes on = on

  given_on : (e : DumpRecordFields) (base : Option VolumeFields) (given : Result IncrementFields Spot) (K L : VolumeFields → Type 0) (old new : VolumeFields) → ((v : VolumeFields) → K v → L v) → after_given e base given K (Ok old) → after_given e base given L (Ok new)
  given_on e base (Ok i) K L old new goes on = applied_on (applied base i) K L old new goes on
  given_on e base (Err spot) K L old new goes on = absurd (cc)

  given_still : (e : DumpRecordFields) (base : Option VolumeFields) (given : Result IncrementFields Spot) (K L : VolumeFields → Type 0) (f : PlayFault) → ((v : VolumeFields) → K v → L v) → after_given e base given K (Err f) → after_given e base given L (Err f)
  given_still e base (Ok i) K L f goes on = applied_still (applied base i) K L f goes on
  given_still e base (Err spot) K L f goes on = on

  -- a dump is applied to what those before it made
  pub next_plays : (ds : List DumpRecordFields) (base : Option VolumeFields) (old new : VolumeFields) (i : IncrementFields) → PlaysOver slots name base ds (Ok old) → HasStream slots d (called_for d name) i → applied (Some old) i ≡ Ok new → PlaysOver slots name base (ds ++ d ∷ []) (Ok new)
  next_plays [] base old new i plays gives is =
      let same : applied base i ≡ Ok new = ap (λ (b : Option VolumeFields). applied b i) (made_same base old plays) ∙ is in
      (Ok i, gives, subst (λ (r : Result VolumeFields ApplyFault). after_applied r (λ volume. PlaysOver slots name (Some volume) [] (Ok new)) (Ok new)) (sym same) refl)
  next_plays (e ∷ ds) base old new i plays gives is = (
    plays.0,
    plays.1,
    given_on e base plays.0 (λ volume. PlaysOver slots name (Some volume) ds (Ok old)) (λ volume. PlaysOver slots name (Some volume) (ds ++ d ∷ []) (Ok new)) old new (λ volume on. next_plays ds (Some volume) old new i on gives is) plays.2,
  )

  -- a fault stays
  pub fault_stays : (ds : List DumpRecordFields) (base : Option VolumeFields) (f : PlayFault) → PlaysOver slots name base ds (Err f) → PlaysOver slots name base (ds ++ d ∷ []) (Err f)
  fault_stays [] None f plays = absurd plays
  fault_stays [] (Some v) f plays = absurd (cc)
  fault_stays (e ∷ ds) base f plays = (
    plays.0,
    plays.1,
    given_still e base plays.0 (λ volume. PlaysOver slots name (Some volume) ds (Err f)) (λ volume. PlaysOver slots name (Some volume) (ds ++ d ∷ []) (Err f)) f (λ volume on. fault_stays ds (Some volume) f on) plays.2,
  )

-- ---- chains

module _ (records : List DumpRecordFields) (slots : List Slot) (contents : ℕ → List ℕ → Result VolumeFields Refusal) (d : DumpRecordFields) (once : AreIdsOnce records) (there : Contains records d)
    (parents : (p : DumpRecordFields) (name ids : List ℕ) → Contains records p → p.id ≡ d.parent → IsChain records p.id name (Ok ids) → find (is_unheld slots) (needs records ids name) ≡ None
    → (outcome : Result VolumeFields PlayFault) × Plays (all_here slots) records ids name outcome × (contents p.id name ≡ refused_by outcome))
    (gives : (name : List ℕ) (v : VolRecordFields) → volume_of d name ≡ Some v → GivesNext slots contents d name v) where
  own : record_of records d.id ≡ Some d
  own = record_by_id records d d.id once there refl

  own_records : (ids : List ℕ) → records_of records (ids ++ d.id ∷ []) ≡ records_of records ids ++ d ∷ []
  own_records ids = filter_map-append (record_of records) ids (d.id ∷ []) ∙ ap (λ (l : List DumpRecordFields). records_of records ids ++ l) last
    where
      last : records_of records (d.id ∷ []) ≡ d ∷ []
      last = ap (λ (o : Option DumpRecordFields). cons_option o []) own

  IsOutcome : List ℕ → List ℕ → Type 0
  IsOutcome name ids = (outcome : Result VolumeFields PlayFault) × Plays (all_here slots) records ids name outcome × (contents d.id name ≡ refused_by outcome)

  alone_plays : (name ids : List ℕ) (v : VolRecordFields) → d.id ∷ [] ≡ ids → GivesNext slots contents d name v → v.from ≡ 0 → IsOutcome name ids
  unfolding IsOutcome
  alone_plays name ids v same g none =
      let volume = g.whole none in
      let made : PlaysOver (all_here slots) name None (d ∷ []) (Ok volume.0) =
      (Ok g.increment, g.stream, subst (λ (r : Result VolumeFields ApplyFault). after_applied r (λ w. PlaysOver (all_here slots) name (Some w) [] (Ok volume.0)) (Ok volume.0)) (sym volume.1) refl) in
      let plays : PlaysOver (all_here slots) name None (records_of records (d.id ∷ [])) (Ok volume.0) = subst (λ (ds : List DumpRecordFields). PlaysOver (all_here slots) name None ds (Ok volume.0)) (sym (own_records [])) made in
      (Ok volume.0, subst (λ (l : List ℕ). PlaysOver (all_here slots) name None (records_of records l) (Ok volume.0)) same plays, volume.2)

  followed : (name js : List ℕ) (v : VolRecordFields) → GivesNext slots contents d name v → (v.from ≡ 0 → ⊥) → (outcome : Result VolumeFields PlayFault) → Plays (all_here slots) records js name outcome → contents d.parent name ≡ refused_by outcome → IsOutcome name (js ++ d.id ∷ [])
  unfolding IsOutcome
  followed name js v g later (Ok old) plays same =
      let next = g.follows later old same in
      let made = next_plays (all_here slots) name d (records_of records js) None old next.0 g.increment plays g.stream next.1 in
      (Ok next.0, subst (λ (ds : List DumpRecordFields). PlaysOver (all_here slots) name None ds (Ok next.0)) (sym (own_records js)) made, next.2)
  followed name js v g later (Err f) plays same =
      let made = fault_stays (all_here slots) name d (records_of records js) None f plays in
      (Err f, subst (λ (ds : List DumpRecordFields). PlaysOver (all_here slots) name None ds (Err f)) (sym (own_records js)) made, g.faulty later (Fault f) same)

  held_front : (name js : List ℕ) → find (is_unheld slots) (needs records (js ++ d.id ∷ []) name) ≡ None → find (is_unheld slots) (needs records js name) ≡ None
  held_front name js held =
      let split : needs records (js ++ d.id ∷ []) name ≡ needs records js name ++ flat_map (needs_of name) (d ∷ []) = ap (λ (ds : List DumpRecordFields). flat_map (needs_of name) ds) (own_records js) ∙ flat_map-append (needs_of name) (records_of records js) (d ∷ []) in
      passes_none (is_unheld slots) (needs records js name) (λ n needed.
      none_passes (is_unheld slots) (needs records (js ++ d.id ∷ []) name) n held (subst (λ (l : List Need). Contains l n) (sym split) (Contains-append_left (needs records js name) (flat_map (needs_of name) (d ∷ [])) n needed)))

  behind_plays : (name ids js : List ℕ) (v : VolRecordFields) → IsChain records d.parent name (Ok js) → ids ≡ js ++ d.id ∷ [] → GivesNext slots contents d name v → (v.from ≡ 0 → ⊥) → find (is_unheld slots) (needs records ids name) ≡ None → IsOutcome name ids
  unfolding IsOutcome
  behind_plays name ids js v chain same g later held =
      let parent = chain_has_record records d.parent name js chain in
      let held_js : find (is_unheld slots) (needs records js name) ≡ None = held_front name js (subst (λ (l : List ℕ). find (is_unheld slots) (needs records l name) ≡ None) same held) in
      let old = parents parent.0 name js parent.1 parent.2 (subst (λ (n : ℕ). IsChain records n name (Ok js)) (sym parent.2) chain) held_js in
      subst (IsOutcome name) (sym same) (followed name js v g later old.0 old.1 (ap (λ (n : ℕ). contents n name) (sym parent.2) ∙ old.2))

  behind_chain : (name ids : List ℕ) (v : VolRecordFields) (up : Result (List ℕ) ℕ) → IsChain records d.parent name up → Ok ids ≡ followed_by up d.id → GivesNext slots contents d name v → (v.from ≡ 0 → ⊥) → find (is_unheld slots) (needs records ids name) ≡ None → IsOutcome name ids
  behind_chain name ids v (Ok js) chain same g later held = (let is : ids ≡ js ++ d.id ∷ [] = cc in behind_plays name ids js v chain is g later held)
  behind_chain name ids v (Err missing) chain same g later held = absurd (cc)

  by_volume : (name ids : List ℕ) (v : Option VolRecordFields) → volume_of d name ≡ v → IsChain records d.id name (Ok ids) → find (is_unheld slots) (needs records ids name) ≡ None → IsOutcome name ids
  by_volume name ids None is chain held =
      absurd (let none : Ok ids ≡ Err d.id = unfolds records d.id name (Ok ids) None (ap (λ (o : Option DumpRecordFields). volume_in o name) own ∙ ap (with_volume d) is) chain in cc)
  by_volume name ids (Some v) is chain held =
      elim (unfolds records d.id name (Ok ids) (Some (record { dump = d; volume = v })) (ap (λ (o : Option DumpRecordFields). volume_in o name) own ∙ ap (with_volume d) is) chain) [
        | inl alone ↦ (let same : d.id ∷ [] ≡ ids = (let e = alone.1 in cc) in alone_plays name ids v same (gives name v is) alone.0)
        | inr behind ↦ behind_chain name ids v behind.1.0 behind.1.1 behind.1.2 (gives name v is) behind.0 held
      ]

  -- The contents of a dump whose streams stand are its clones, or the parent's fault.
  pub contents_grow : ContentsGrow slots contents records d
  unfolding IsOutcome
  contents_grow name ids chain held = by_volume name ids (volume_of d name) refl chain held
