-- How dumps that are played one after the other give what their chain gives.
use Rattle.std.proofs.Common.{◌≡◌, ℕ, zero, suc, ◌+◌, ◌<◌, ◌≤◌, Option, Some, None, Ok, Err, List, [], ◌∷◌, ◌++◌, length, map, drop, get_or, slice_get, refl, sym, ◌∙◌, ap, subst, arith, inl, inr, add-one, drop-cons}
use Rattle.std.specs.Prelude.{Result, reverse}
use Rattle.std.specs.List.{flat_map, cons_option}
use Rattle.std.proofs.lemmas.List.Elements.{All-head, All-tail}
use Rattle.std.proofs.lemmas.List.{drop_all}
use Rattle.vnode_model.specs.declared.volumes.VolumeFields.{VolumeFields}
use Rattle.vnode_model.specs.declared.increments.IncrementFields.{IncrementFields}
use Rattle.vnode_model.specs.declared.applying.ApplyFault.{ApplyFault}
use Rattle.vnode_model.specs.declared.applying.ApplyFault.TheVariants as apply_faults
use Rattle.vnode_model.specs.Increments.{applied}
use Rattle.budb_changes.specs.declared.records.VolRecordFields.{VolRecordFields}
use Rattle.budb_changes.specs.declared.records.DumpRecordFields.{DumpRecordFields}
use Rattle.budb_fold.specs.Lookups.{VolumeDump, record_of, volume_of}
use Rattle.budb_fold.specs.Chains.{with_volume, volume_in, dump_of, IsChain}
use Rattle.budb_fold.proofs.ChainLaws.{chain_dumped}
use Rattle.tape_frames.specs.TapeNames.{numbered}
use Rattle.tape_text.specs.Wholes.{Lying}
use Rattle.tape_scan.specs.Slots.{Slot}
use Rattle.archive_model.specs.Holding.{called_for, holder_here}
use Rattle.archive_model.specs.Plays.{PlayFault, BadOnTape, Lacks, Large, Spot, Gives, after_applied, after_given, IsMade, records_of, PlaysOver, Plays}
use Rattle.archive_model.specs.Archives.{Need, needs, needs_of}
use Rattle.restore_chain.specs.declared.chain_plan.TapeNeed.{TapeNeed}
use Rattle.restore_chain.specs.declared.chain_plan.ChainPlan.{ChainPlan}
use Rattle.restore_chain.specs.declared.fault.RestoreFault.{RestoreFault}
use Rattle.restore_chain.specs.declared.fault.RestoreFault.TheVariants as faults
use Rattle.restore_chain.specs.declared.play_joined.Site.{Site}
use Rattle.restore_chain.specs.Planning.{located_by, located, needs_in, needs_for, PlansChain}
use Rattle.restore_chain.specs.Playing.{spot_of, AreHeld, Makes}
use Rattle.restore_chain.specs.Restoring.{Tells, IsPlayAnswer, IsChained, IsBadAt, PlaysFrags, IsPlanOf, PlaysPlan, AreDumped, AreReady, HavePlayed}
use Rattle.restore_chain.proofs.ChainNeeds.{dump_needs}

-- ---- answers

-- what tells a fault of one kind tells one of another
pub tells_err : (One Other : Result VolumeFields PlayFault → Type 0) (fault : RestoreFault) → ((f : PlayFault) → One (Err f) → Other (Err f)) → Tells One (Err fault) → Tells Other (Err fault)
tells_err One Other faults.NoDump so told = absurd told
tells_err One Other (faults.MissingDump id) so told = absurd told
tells_err One Other (faults.MissingTape name initial) so told = absurd told
tells_err One Other (faults.BaseLacks number) so told = (told.0, so (Lacks number told.0) told.1)
tells_err One Other (faults.BadOnTape tape place) so told = so (BadOnTape tape place) told
tells_err One Other faults.TooLarge so told = so Large told
tells_err One Other faults.Failed so told = tt
tells_err One Other faults.Memory so told = tt

pub tells_so : (One Other : Result VolumeFields PlayFault → Type 0) (r : Result VolumeFields RestoreFault) → ((o : Result VolumeFields PlayFault) → One o → Other o) → Tells One r → Tells Other r
tells_so One Other (Ok volume) so told = so (Ok volume) told
tells_so One Other (Err fault) so told = tells_err One Other fault (λ f. so (Err f)) told

-- ---- one dump

-- what an increment makes of a base
made_so : (slots : List Slot) (d : DumpRecordFields) (cs : List Lying) (base : Option VolumeFields) (i : IncrementFields) (defined : Result VolumeFields ApplyFault) (r : Result VolumeFields RestoreFault) → applied base i ≡ defined → Gives slots d cs (Ok i) → Makes defined r → Tells (PlaysFrags slots d cs base) r
made_so slots d cs base i defined (Ok v) is gives makes =
    (Ok i, gives, subst (λ (x : Result VolumeFields ApplyFault). after_applied x (λ w. IsMade (Some w) (Ok v)) (Ok v)) (sym (is ∙ makes)) refl)
made_so slots d cs base i defined (Err faults.NoDump) is gives makes = absurd makes
made_so slots d cs base i defined (Err (faults.MissingDump id)) is gives makes = absurd makes
made_so slots d cs base i defined (Err (faults.MissingTape name initial)) is gives makes = absurd makes
made_so slots d cs base i defined (Err (faults.BaseLacks number)) is gives makes =
    (makes.0, (Ok i, gives, subst (λ (x : Result VolumeFields ApplyFault). after_applied x (λ w. IsMade (Some w) (Err (Lacks number makes.0))) (Err (Lacks number makes.0))) (sym (is ∙ makes.1)) refl))
made_so slots d cs base i defined (Err (faults.BadOnTape tape place)) is gives makes = absurd makes
made_so slots d cs base i defined (Err faults.TooLarge) is gives makes =
    (Ok i, gives, subst (λ (x : Result VolumeFields ApplyFault). after_applied x (λ w. IsMade (Some w) (Err Large)) (Err Large)) (sym (is ∙ makes)) refl)
made_so slots d cs base i defined (Err faults.Failed) is gives makes = absurd makes
made_so slots d cs base i defined (Err faults.Memory) is gives makes = tt

pub stream_plays : (slots : List Slot) (d : DumpRecordFields) (cs : List Lying) (base : Option VolumeFields) (i : IncrementFields) (r : Result VolumeFields RestoreFault) → Gives slots d cs (Ok i) → Makes (applied base i) r → Tells (PlaysFrags slots d cs base) r
stream_plays slots d cs base i r gives makes = made_so slots d cs base i (applied base i) r refl gives makes

pub bad_plays : (slots : List Slot) (d : DumpRecordFields) (cs : List Lying) (base : Option VolumeFields) (site : Site) (fault : RestoreFault) → Gives slots d cs (Err (spot_of site)) → IsBadAt d site fault → Tells (PlaysFrags slots d cs base) (Err fault)
bad_plays slots d cs base site fault gives (inl is) =
    subst (λ (f : RestoreFault). Tells (PlaysFrags slots d cs base) (Err f)) (sym is) (Err (spot_of site), gives, refl)
bad_plays slots d cs base site fault gives (inr is) = subst (λ (f : RestoreFault). Tells (PlaysFrags slots d cs base) (Err f)) (sym is) tt

pub makes_not_failed : (defined : Result VolumeFields ApplyFault) (r : Result VolumeFields RestoreFault) → Makes defined r → r ≡ Err faults.Failed → ⊥
makes_not_failed defined r makes is = subst (Makes defined) is makes

-- both are answers of a play
pub makes_answers : (defined : Result VolumeFields ApplyFault) (r : Result VolumeFields RestoreFault) → Makes defined r → IsPlayAnswer r
makes_answers defined (Ok v) makes = tt
makes_answers defined (Err faults.NoDump) makes = absurd makes
makes_answers defined (Err (faults.MissingDump id)) makes = absurd makes
makes_answers defined (Err (faults.MissingTape name initial)) makes = absurd makes
makes_answers defined (Err (faults.BaseLacks number)) makes = tt
makes_answers defined (Err (faults.BadOnTape tape place)) makes = tt
makes_answers defined (Err faults.TooLarge) makes = tt
makes_answers defined (Err faults.Failed) makes = tt
makes_answers defined (Err faults.Memory) makes = tt

pub bad_answers : (d : DumpRecordFields) (site : Site) (fault : RestoreFault) → IsBadAt d site fault → IsPlayAnswer (Err fault)
bad_answers d site fault (inl is) = subst (λ (f : RestoreFault). IsPlayAnswer (Err f)) (sym is) tt
bad_answers d site fault (inr is) = subst (λ (f : RestoreFault). IsPlayAnswer (Err f)) (sym is) tt

pub bad_not_failed : (d : DumpRecordFields) (site : Site) (fault : RestoreFault) → IsBadAt d site fault → fault ≡ faults.Failed → ⊥
bad_not_failed d site fault (inl is) failed = absurd (cc)
bad_not_failed d site fault (inr is) failed = absurd (cc)

-- ---- a dump and those behind it

module _ (slots : List Slot) (name : List ℕ) (d : DumpRecordFields) (ds : List DumpRecordFields) where
  applied_on : (x : Result VolumeFields ApplyFault) (v : VolumeFields) (outcome : Result VolumeFields PlayFault) → after_applied x (λ w. IsMade (Some w) (Ok v)) (Ok v) → PlaysOver slots name (Some v) ds outcome → after_applied x (λ w. PlaysOver slots name (Some w) ds outcome) outcome
  applied_on (Ok w) v outcome after rest = (let same : v ≡ w = cc in subst (λ (u : VolumeFields). PlaysOver slots name (Some u) ds outcome) same rest)
  applied_on (Err (apply_faults.BaseLacks number uniq)) v outcome after rest = absurd (cc)
  applied_on (Err apply_faults.TooLarge) v outcome after rest = absurd (cc)
  applied_on (Err apply_faults.Memory) v outcome after rest = absurd after

  given_on : (base : Option VolumeFields) (g : Result IncrementFields Spot) (v : VolumeFields) (outcome : Result VolumeFields PlayFault) → after_given d base g (λ w. IsMade (Some w) (Ok v)) (Ok v) → PlaysOver slots name (Some v) ds outcome → after_given d base g (λ w. PlaysOver slots name (Some w) ds outcome) outcome
  given_on base (Ok i) v outcome after rest = applied_on (applied base i) v outcome after rest
  given_on base (Err spot) v outcome after rest = absurd (cc)

  -- it made a volume, over which the others are played
  pub plays_on : (base : Option VolumeFields) (v : VolumeFields) (outcome : Result VolumeFields PlayFault) → PlaysOver slots name base (d ∷ []) (Ok v) → PlaysOver slots name (Some v) ds outcome → PlaysOver slots name base (d ∷ ds) outcome
  plays_on base v outcome one rest = (one.0, one.1, given_on base one.0 v outcome one.2 rest)

  applied_off : (x : Result VolumeFields ApplyFault) (f : PlayFault) → after_applied x (λ w. IsMade (Some w) (Err f)) (Err f) → after_applied x (λ w. PlaysOver slots name (Some w) ds (Err f)) (Err f)
  applied_off (Ok w) f after = absurd (cc)
  applied_off (Err (apply_faults.BaseLacks number uniq)) f after = after
  applied_off (Err apply_faults.TooLarge) f after = after
  applied_off (Err apply_faults.Memory) f after = absurd after

  given_off : (base : Option VolumeFields) (g : Result IncrementFields Spot) (f : PlayFault) → after_given d base g (λ w. IsMade (Some w) (Err f)) (Err f) → after_given d base g (λ w. PlaysOver slots name (Some w) ds (Err f)) (Err f)
  given_off base (Ok i) f after = applied_off (applied base i) f after
  given_off base (Err spot) f after = after

  -- it has a fault, whatever the others have
  pub plays_off : (base : Option VolumeFields) (f : PlayFault) → PlaysOver slots name base (d ∷ []) (Err f) → PlaysOver slots name base (d ∷ ds) (Err f)
  plays_off base f one = (one.0, one.1, given_off base one.0 f one.2)

-- ---- the tapes of a dump, and those of the dumps behind it

by_slot : (n : Need) (o : Option (ℕ × Slot)) (t : TapeNeed) → located_by n o ≡ Some t → (s : Slot) × (o ≡ Some (t.slot, s))
by_slot n None t is = absurd (cc)
by_slot n (Some (k, s)) t is =
    let same : record { name = numbered n.dump.base n.tape; initial = n.dump.initial; tape = n.tape; slot = k } ≡ t = cc in
    let number : k ≡ t.slot = ap (λ (x : TapeNeed). x.slot) same in
    (s, ap (λ (j : ℕ). Some (j, s)) number)

held_front : (slots : List Slot) (d : DumpRecordFields) (cs : List Lying) (more : List Need) (tapes : List TapeNeed) → map (located slots) (map (λ c. record { dump = d; tape = c.tape }) cs ++ more) ≡ map Some tapes
    → (k : ℕ) (c : Lying) → slice_get cs k ≡ Some c → (n : TapeNeed) × (slice_get tapes k ≡ Some n) × (s : Slot) × (holder_here d c.tape slots ≡ Some (n.slot, s))
held_front slots d [] more tapes is k c at = absurd (cc)
held_front slots d (b ∷ cs) more [] is k c at = absurd (cc)
held_front slots d (b ∷ cs) more (t ∷ ts) is zero c at =
    let same : b ≡ c = cc in
    let first : located slots (record { dump = d; tape = b.tape }) ≡ Some t = cc in
    let s = by_slot (record { dump = d; tape = b.tape }) (holder_here d b.tape slots) t first in
    (t, refl, s.0, ap (λ (x : Lying). holder_here d x.tape slots) (sym same) ∙ s.1)
held_front slots d (b ∷ cs) more (t ∷ ts) is (suc k) c at =
    let rest : map (located slots) (map (λ (x : Lying). record { dump = d; tape = x.tape }) cs ++ more) ≡ map Some ts = cc in
    held_front slots d cs more ts rest k c at

rest_located : (slots : List Slot) (front more : List Need) (tapes : List TapeNeed) → map (located slots) (front ++ more) ≡ map Some tapes → map (located slots) more ≡ map Some (drop (length front) tapes)
rest_located slots [] more tapes is = is
rest_located slots (n ∷ front) more [] is = absurd (cc)
rest_located slots (n ∷ front) more (t ∷ ts) is = (let rest : map (located slots) (front ++ more) ≡ map Some ts = cc in rest_located slots front more ts rest)

-- ---- the first dump of those that are left

pub record HasVolume (listed : List DumpRecordFields) (name : List ℕ) (id : ℕ) : Type 0 where
  pub dump : DumpRecordFields
  pub is : record_of listed id ≡ Some dump
  pub volume : VolRecordFields
  pub named : volume_of dump name ≡ Some volume

has_volume : (listed : List DumpRecordFields) (name : List ℕ) (id : ℕ) (x : VolumeDump) → dump_of listed name id ≡ Some x → HasVolume listed name id
has_volume listed name id x is = by_record (record_of listed id) refl is
  where
    by_volume : (d : DumpRecordFields) (o : Option VolRecordFields) → record_of listed id ≡ Some d → volume_of d name ≡ o → with_volume d o ≡ Some x → HasVolume listed name id
    by_volume d None found named has = absurd (cc)
    by_volume d (Some v) found named has = record { dump = d; is = found; volume = v; named = named }

    by_record : (o : Option DumpRecordFields) → record_of listed id ≡ o → volume_in o name ≡ Some x → HasVolume listed name id
    by_record None found has = absurd (cc)
    by_record (Some d) found has = by_volume d (volume_of d name) found refl has

-- each of the dumps has the volume
pub dumped_at : (listed : List DumpRecordFields) (name ids : List ℕ) (i : ℕ) → i < length ids → AreDumped listed name ids
    → HasVolume listed name (get_or ids i 0)
dumped_at listed name [] i within are = absurd (omega (arith, within))
dumped_at listed name (id ∷ ids) zero within are =
    let HasIt : ℕ → Type 0 = λ i. (x : VolumeDump) × (dump_of listed name i ≡ Some x) in
    let head = All-head HasIt id ids are in
    has_volume listed name id head.0 head.1
dumped_at listed name (id ∷ ids) (suc i) within are =
    let HasIt : ℕ → Type 0 = λ i. (x : VolumeDump) × (dump_of listed name i ≡ Some x) in
    dumped_at listed name ids i (omega (arith, within)) (All-tail HasIt id ids are)

pub record IsFirst (slots : List Slot) (listed : List DumpRecordFields) (name : List ℕ) (id : ℕ) (ids : List ℕ) (tapes : List TapeNeed) : Type 0 where
  pub dump : DumpRecordFields
  pub is : record_of listed id ≡ Some dump
  pub volume : VolRecordFields
  pub named : volume_of dump name ≡ Some volume
  pub held : AreHeld slots dump (called_for dump name) tapes
  pub records : records_of listed (id ∷ ids) ≡ dump ∷ records_of listed ids
  pub left : AreReady slots listed name ids (drop (length (needs_in listed name id)) tapes)

first_of : (slots : List Slot) (listed : List DumpRecordFields) (name : List ℕ) (id : ℕ) (ids : List ℕ) (tapes : List TapeNeed) → AreReady slots listed name (id ∷ ids) tapes → IsFirst slots listed name id ids tapes
first_of slots listed name id ids tapes ready =
    let HasIt : ℕ → Type 0 = λ i. (x : VolumeDump) × (dump_of listed name i ≡ Some x) in
    let head = All-head HasIt id ids ready.there in
    let has = has_volume listed name id head.0 head.1 in
    let records : records_of listed (id ∷ ids) ≡ has.dump ∷ records_of listed ids = ap (λ (o : Option DumpRecordFields). cons_option o (records_of listed ids)) has.is in
    let tapes_are : map (located slots) (needs_of name has.dump ++ needs listed ids name) ≡ map Some tapes = ap (λ (ds : List DumpRecordFields). map (located slots) (flat_map (needs_of name) ds)) (sym records) ∙ ready.held in
    let count : length (needs_of name has.dump) ≡ length (needs_in listed name id) = ap length (dump_needs name has.dump) ∙ ap (λ (o : Option DumpRecordFields). length (needs_for name o)) (sym has.is) in
    record {
      dump = has.dump;
      is = has.is;
      volume = has.volume;
      named = has.named;
      held = held_front slots has.dump (called_for has.dump name) (needs listed ids name) tapes tapes_are;
      records = records;
      left = record {
        there = All-tail HasIt id ids ready.there;
        held = rest_located slots (needs_of name has.dump) (needs listed ids name) tapes tapes_are ∙ ap (λ (n : ℕ). map Some (drop n tapes)) count;
      };
    }

-- ---- the dumps of a chain, one after the other

pub drop_here : (ids : List ℕ) (i : ℕ) → i < length ids → drop i ids ≡ get_or ids i 0 ∷ drop (i + 1) ids
drop_here ids i within = rw (add-one, drop-cons ids i 0) refl

-- what playing a listed dump over a base answers
abbrev pub PlaysOne : List Slot → List DumpRecordFields → List ℕ → ℕ → List TapeNeed → Option VolumeFields → Result VolumeFields RestoreFault → Type 0
PlaysOne slots listed name id tapes base r =
    (d : DumpRecordFields) (v : VolRecordFields) → record_of listed id ≡ Some d → volume_of d name ≡ Some v → AreHeld slots d (called_for d name) tapes → Tells (PlaysOver slots name base (d ∷ [])) r

module _ (slots : List Slot) (listed : List DumpRecordFields) (name ids : List ℕ) where
  pub played_none : (tapes : List TapeNeed) → AreReady slots listed name ids tapes → HavePlayed slots listed name ids 0 None tapes
  played_none tapes ready = record { ready = ready; whole = λ outcome plays. plays; made = λ is. refl }

  at_first : (i : ℕ) (base : Option VolumeFields) (rest : List TapeNeed) → i < length ids → HavePlayed slots listed name ids i base rest → IsFirst slots listed name (get_or ids i 0) (drop (i + 1) ids) rest
  at_first i base rest within so_far = first_of slots listed name (get_or ids i 0) (drop (i + 1) ids) rest (subst (λ (l : List ℕ). AreReady slots listed name l rest) (drop_here ids i within) so_far.ready)

  records_left : (i : ℕ) (base : Option VolumeFields) (rest : List TapeNeed) (within : i < length ids) (so_far : HavePlayed slots listed name ids i base rest) → records_of listed (drop i ids) ≡ (at_first i base rest within so_far).dump ∷ records_of listed (drop (i + 1) ids)
  records_left i base rest within so_far = ap (records_of listed) (drop_here ids i within) ∙ (at_first i base rest within so_far).records

  pub played_more : (i : ℕ) (base : Option VolumeFields) (rest more : List TapeNeed) (v : VolumeFields) → i < length ids → HavePlayed slots listed name ids i base rest → PlaysOne slots listed name (get_or ids i 0) rest base (Ok v)
      → more ≡ drop (length (needs_in listed name (get_or ids i 0))) rest → HavePlayed slots listed name ids (i + 1) (Some v) more
  played_more i base rest more v within so_far plays is =
      let first = at_first i base rest within so_far in
      record {
        ready = subst (AreReady slots listed name (drop (i + 1) ids)) (sym is) first.left;
        whole = λ outcome behind. so_far.whole outcome (subst (λ (ds : List DumpRecordFields). PlaysOver slots name base ds outcome) (sym (records_left i base rest within so_far))
            (plays_on slots name first.dump (records_of listed (drop (i + 1) ids)) base v outcome (plays first.dump first.volume first.is first.named first.held) behind));
        made = λ none. absurd (cc);
      }

  pub played_bad : (i : ℕ) (base : Option VolumeFields) (rest : List TapeNeed) (fault : RestoreFault) → i < length ids → HavePlayed slots listed name ids i base rest → PlaysOne slots listed name (get_or ids i 0) rest base (Err fault)
      → Tells (Plays slots listed ids name) (Err fault)
  played_bad i base rest fault within so_far plays =
      let first = at_first i base rest within so_far in
      tells_err (PlaysOver slots name base (first.dump ∷ [])) (Plays slots listed ids name) fault
      (λ f one. so_far.whole (Err f) (subst (λ (ds : List DumpRecordFields). PlaysOver slots name base ds (Err f)) (sym (records_left i base rest within so_far))
      (plays_off slots name first.dump (records_of listed (drop (i + 1) ids)) base f one)))
      (plays first.dump first.volume first.is first.named first.held)

  pub played_all : (n : ℕ) (base : Option VolumeFields) (rest : List TapeNeed) (v : VolumeFields) → length ids ≤ n → HavePlayed slots listed name ids n base rest → base ≡ Some v → Tells (Plays slots listed ids name) (Ok v)
  played_all n base rest v past so_far is =
      so_far.whole (Ok v) (subst (λ (l : List ℕ). PlaysOver slots name base (records_of listed l) (Ok v)) (sym (drop_all n ids past)) (subst (λ (b : Option VolumeFields). IsMade b (Ok v)) (sym is) refl))

-- ---- a plan's dumps

not_empty : (ids front : List ℕ) (id : ℕ) → ids ≡ id ∷ front → 0 < length ids
not_empty [] front id is = absurd (cc)
not_empty (i ∷ ids) front id is = omega arith

some_dumps : (listed : List DumpRecordFields) (id : ℕ) (name ids : List ℕ) → IsChain listed id name (Ok ids) → 0 < length ids
some_dumps listed id name ids (passed, (whole, pass, is_whole, are)) = not_empty ids (reverse passed) whole are

plan_ready : (slots : List Slot) (listed : List DumpRecordFields) (plan : ChainPlan) (one : VolumeDump) → PlansChain slots listed one plan → AreReady slots listed plan.name plan.dumps plan.tapes
plan_ready slots listed plan one plans =
    subst (λ (n : List ℕ). AreReady slots listed n plan.dumps plan.tapes) (sym plans.name)
    (let own : AreReady slots listed one.volume.name plan.dumps plan.tapes = record { there = chain_dumped listed one.dump.id one.volume.name plan.dumps plans.chain; held = plans.tapes } in own)

-- what is played of these lists, which are the plan's, is what the plan gives
pub plan_plays : (slots : List Slot) (listed ls : List DumpRecordFields) (plan : ChainPlan) (ids name : List ℕ) (tapes : List TapeNeed) (r : Result VolumeFields RestoreFault) → ls ≡ listed → ids ≡ plan.dumps → name ≡ plan.name → tapes ≡ plan.tapes
    → (0 < length ids → AreReady slots ls name ids tapes → Tells (Plays slots ls ids name) r) → IsPlanOf slots listed plan → PlaysPlan slots listed plan r
plan_plays slots listed ls plan ids name tapes r same_listed same_ids same_name same_tapes plays (one, plans) =
    let first = subst (λ (x : List DumpRecordFields). 0 < length ids → AreReady slots x name ids tapes → Tells (Plays slots x ids name) r) same_listed plays in
    let second = subst (λ (x : List ℕ). 0 < length x → AreReady slots listed name x tapes → Tells (Plays slots listed x name) r) same_ids first in
    let third = subst (λ (x : List ℕ). 0 < length plan.dumps → AreReady slots listed x plan.dumps tapes → Tells (Plays slots listed plan.dumps x) r) same_name second in
    let fourth = subst (λ (x : List TapeNeed). 0 < length plan.dumps → AreReady slots listed plan.name plan.dumps x → Tells (Plays slots listed plan.dumps plan.name) r) same_tapes third in
    fourth (some_dumps listed one.dump.id one.volume.name plan.dumps plans.chain) (plan_ready slots listed plan one plans)

-- the same of what a play may answer at all
pub plan_answers : (listed : List DumpRecordFields) (plan : ChainPlan) (ids name : List ℕ) (r : Result VolumeFields RestoreFault)
    → ids ≡ plan.dumps → name ≡ plan.name → (0 < length ids → AreDumped listed name ids → IsPlayAnswer r) → IsChained listed plan → IsPlayAnswer r
plan_answers listed plan ids name r same_ids same_name answers chained =
    let first = subst (λ (x : List ℕ). 0 < length x → AreDumped listed name x → IsPlayAnswer r) same_ids answers in
    let second = subst (λ (x : List ℕ). 0 < length plan.dumps → AreDumped listed x plan.dumps → IsPlayAnswer r) (same_name ∙ chained.name) first in
    second (some_dumps listed chained.one.dump.id chained.one.volume.name plan.dumps chained.chain)
    (chain_dumped listed chained.one.dump.id chained.one.volume.name plan.dumps chained.chain)
