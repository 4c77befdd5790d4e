-- The step of a dump's end: the dump joins the dumps of the archive at its last filemark, and is listed by the commit behind it.
use Rattle.std.proofs.Common.{◌≡◌, ℕ, zero, suc, ◌+◌, ◌<◌, ◌≤◌, Bool, true, false, Option, Some, None, List, [], ◌∷◌, ◌++◌, length, refl, sym, ap, subst, ◌∙◌, arith, inl, inr, append_assoc, length-append}
use Rattle.std.specs.Prelude.{◌==◌, nat_lt, if◌then◌else◌, Result, Ok, All, Contains, slice_get, find}
use Rattle.std.specs.List.{flat_map, list_all}
use Rattle.std.proofs.lemmas.Bool.{eq-eqb, eqb-true, cases_Bool}
use Rattle.std.proofs.lemmas.Bool.Decides.{nat_tests}
use Rattle.std.proofs.lemmas.List.Elements.{All-nil, All-cons}
use Rattle.bk_text.specs.Blanks.{is_same_text}
use Rattle.vnode_model.specs.declared.volumes.VolumeFields.{VolumeFields}
use Rattle.tape_frames.specs.declared.frame.Frame.TheVariants as frames
use Rattle.tape_frames.specs.declared.vol_head.VolHeadFields.{VolHeadFields}
use Rattle.cell_core.specs.declared.stored.Taken.{Taken}
use Rattle.budb_changes.specs.declared.change.Change.TheVariants.{Done}
use Rattle.budb_changes.specs.declared.records.VolRecordFields.{VolRecordFields}
use Rattle.budb_changes.specs.declared.records.DumpRecordFields.{DumpRecordFields}
use Rattle.budb_changes.specs.Bytes.{encoded}
use Rattle.budb_changes.specs.Forms.{AreChanges}
use Rattle.budb_fold.specs.Database.{has_dump, is_whole, fits_record}
use Rattle.budb_fold.specs.Lookups.{from_of, volume_of}
use Rattle.plant_core.specs.Crashes.{State, seen_in}
use Rattle.plant_core.specs.Effects.{puts, settles, commits, comes}
use Rattle.tape_text.specs.Items.{Item, Says, Filemark, record_for, IsFitItem}
use Rattle.tape_text.specs.Texts.{Fragment, ends_dump}
use Rattle.tape_text.specs.Wholes.{Ends}
use Rattle.tape_scan.specs.Scans.{IsClosedIn}
use Rattle.tape_scan.specs.Slots.{Slot, Located, IsFound}
use Rattle.tape_writer.specs.Filling.{IsDumped}
use Rattle.archive_model.specs.Holding.{placed_from}
use Rattle.archive_model.specs.Archives.{Archive, Refusal, listed_of, AreHeldOnce}
use Rattle.archive_model.specs.Settled.{HoldsSettled, AreHeld}
use Rattle.archive_model.specs.Sources.{over_parent, clone_or_refusal}
use Rattle.archive_model.specs.Turns.{with_items, with_log, with_slot, with_contents, HasOwnHeads, GivesNext, IsClone}
use Rattle.archive_model.proofs.DumpLaws.{mid_put_holds, dump_end_holds}
use Rattle.archive_model.proofs.DumpedLaws.{dumped_gives}
use Rattle.archive_model.proofs.ExampleLaws.{dump_done_holds}
use Rattle.archive_model.proofs.JobLaws.{slot_with, last_part_found}
use Rattle.archive_model.proofs.OwnLaws.{own_held_once}
use Rattle.archive_model.proofs.RecordedLaws.{recorded_as_dumped}
use Rattle.archive_model.proofs.SlotLaws.{find_is}
use Rattle.archive_model.proofs.StepLaws.{settling_holds}
use Rattle.archive_model.proofs.SourceLaws.{same_text}
use Rattle.dump_job.specs.declared.fields.Hand.{Hand}
use Rattle.dump_job.specs.declared.fields.JobFields.{JobFields}
use Rattle.dump_job.specs.Cloning.{record_with}
use Rattle.dump_job.specs.Ending.{part_end}
use Rattle.dump_laws.specs.Made.{Made, Basis, all_fragments}
use Rattle.dump_laws.specs.Writing.{IsCloned, dumping_of, VolumesFit}
use Rattle.dump_laws.specs.Running.{basis_of, Goes, BeforeDumpEnd, OwnHeads}
use Rattle.dump_laws.specs.Growing.{is_clone_of, told_by, with_dump, record_done}
use Rattle.dump_laws.proofs.NeighbourLaws.{ends_so, ends_whole, flat_more, get_within, in_more}
use Rattle.dump_laws.proofs.PartLaws.{ended_closes, ends_there}
use Rattle.dump_laws.proofs.OwnLaws.{IsNoHead, own_put, all_closed_elsewhere}
use Rattle.dump_laws.proofs.CloneGoes.{volumes_more}
use Rattle.dump_laws.proofs.EndingLaws.{found_with, located_with, record_is, whole_with, own_of, none_listed}

unequal : (a b : ℕ) → (a ≡ b → ⊥) → (a == b) ≡ false
unequal a b other = elim (cases_Bool (a == b)) [
  | inl same ↦ absurd (other (eqb-true a b same))
  | inr miss ↦ miss
]

pub last_some : (is : Fragment → Type 0) (fs : List Fragment) → Ends is fs → fs ≡ [] → ⊥
last_some is [] last none = last
last_some is (f ∷ fs) last none = absurd (cc)

-- ---- what a name's volume is

abbrev number_or : ℕ → Option (ℕ × VolRecordFields) → ℕ
number_or n None = n
number_or n (Some x) = x.0

abbrev record_or : VolRecordFields → Option (ℕ × VolRecordFields) → VolRecordFields
record_or v None = v
record_or v (Some x) = x.1

-- the volume of a name in a record, and the clone of that name, stand at one place
clone_found : (n : ℕ) (vs : List VolRecordFields) (cs : List Taken) (name : List ℕ) (k : ℕ) (v : VolRecordFields) → ((i : ℕ) (w : VolRecordFields) (c : Taken) → slice_get vs i ≡ Some w → slice_get cs i ≡ Some c → w.name ≡ c.volume.header.name)
    → find (λ x. is_same_text x.1.name name) (placed_from n vs) ≡ Some (k, v) → (i : ℕ) × (k ≡ n + i) × (slice_get vs i ≡ Some v) × ((c : Taken) → slice_get cs i ≡ Some c → find (is_clone_of name) cs ≡ Some c)
clone_found n [] cs name k v names is = absurd (cc)
clone_found n (w ∷ vs) [] name k v names is = elim (cases_Bool (is_same_text w.name name)) [
  | inl hit ↦
      (let both : Some (n, w) ≡ Some (k, v) = rw hit at is in
      let first : n ≡ k = ap (number_or n) both in
      let second : w ≡ v = ap (record_or w) both in
      (0, omega (arith, first), ap Some second, λ c at. absurd (cc)))
  | inr miss ↦
      (let later : find (λ x. is_same_text x.1.name name) (placed_from (n + 1) vs) ≡ Some (k, v) = rw miss at is in
      let rest = clone_found (n + 1) vs [] name k v (λ i x c a b. absurd (cc)) later in
      (suc rest.0, omega (arith, rest.1), rest.2, λ c at. absurd (cc)))
]
clone_found n (w ∷ vs) (x ∷ cs) name k v names is = elim (cases_Bool (is_same_text w.name name)) [
  | inl hit ↦
      (let both : Some (n, w) ≡ Some (k, v) = rw hit at is in
      let first : n ≡ k = ap (number_or n) both in
      let second : w ≡ v = ap (record_or w) both in
      let same : w.name ≡ x.volume.header.name = names 0 w x refl refl in
      let found : is_same_text x.volume.header.name name ≡ true = ap (λ (l : List ℕ). is_same_text l name) (sym same) ∙ hit in
      (0, omega (arith, first), ap Some second, λ c at. rw found at))
  | inr miss ↦
      (let later : find (λ x. is_same_text x.1.name name) (placed_from (n + 1) vs) ≡ Some (k, v) = rw miss at is in
      let same : w.name ≡ x.volume.header.name = names 0 w x refl refl in
      let passed : is_same_text x.volume.header.name name ≡ false = ap (λ (l : List ℕ). is_same_text l name) (sym same) ∙ miss in
      let rest = clone_found (n + 1) vs cs name k v (λ i y c a b. names (suc i) y c a b) later in
      (suc rest.0, omega (arith, rest.1), rest.2, λ c at. rw passed (rest.3 c at)))
]

one_there : (cs : List Taken) (i : ℕ) → i < length cs → (c : Taken) × (slice_get cs i ≡ Some c)
one_there [] i lt = absurd (omega (arith, lt))
one_there (c ∷ cs) zero lt = (c, refl)
one_there (c ∷ cs) (suc i) lt = one_there cs i (omega (arith, lt))

whole_clone : (parent : Result VolumeFields Refusal) (from : ℕ) (v : VolumeFields) → from ≡ 0 → clone_or_refusal parent from v ≡ Ok v
whole_clone parent from v none = (let hit : (from == 0) ≡ true = eq-eqb from 0 none in rw hit refl)

later_clone : (parent : Result VolumeFields Refusal) (from : ℕ) (v : VolumeFields) → (from ≡ 0 → ⊥) → clone_or_refusal parent from v ≡ over_parent parent v
later_clone parent from v later = (let miss : (from == 0) ≡ false = unequal from 0 later in rw miss refl)

-- what a dump of clones has of a name
pub dump_told : (contents : ℕ → List ℕ → Result VolumeFields Refusal) (b : Basis) (clones : List Taken) (name : List ℕ) (c : Taken) → find (is_clone_of name) clones ≡ Some c → with_dump contents b clones b.id name ≡ clone_or_refusal (contents b.above name) (from_of b.parent name c.born) c.volume
dump_told contents b clones name c found = (let hit : (b.id == b.id) ≡ true = eq-eqb b.id b.id refl in rw hit (ap (told_by contents b name) found))

pub others_told : (contents : ℕ → List ℕ → Result VolumeFields Refusal) (b : Basis) (clones : List Taken) (id : ℕ) (name : List ℕ) → (id ≡ b.id → ⊥) → with_dump contents b clones id name ≡ contents id name
others_told contents b clones id name other = (let miss : (id == b.id) ≡ false = unequal id b.id other in rw miss refl)

its_clone : (contents : ℕ → List ℕ → Result VolumeFields Refusal) (b : Basis) (clones : List Taken) (d : DumpRecordFields) (name : List ℕ) (v : VolRecordFields) (c : Taken) → d.id ≡ b.id → d.parent ≡ b.above → b.above < b.id → v.name ≡ name → IsCloned contents b v.name v.clone v.from c → find (is_clone_of name) clones ≡ Some c
    → IsClone (with_dump contents b clones) d name v c.volume
its_clone contents b clones d name v c id parent above named is found =
    let from : v.from ≡ from_of b.parent name c.born = is.from_is ∙ ap (λ (n : List ℕ). from_of b.parent n c.born) named in
    let has : with_dump contents b clones d.id name ≡ clone_or_refusal (contents b.above name) v.from c.volume =
    ap (λ (n : ℕ). with_dump contents b clones n name) id ∙ dump_told contents b clones name c found ∙ ap (λ (n : ℕ). clone_or_refusal (contents b.above name) n c.volume) (sym from) in
    let old_is : with_dump contents b clones d.parent name ≡ contents b.above name =
    ap (λ (n : ℕ). with_dump contents b clones n name) parent ∙ others_told contents b clones b.above name (λ same. absurd (omega (arith, above, same))) in
    record {
      whole = λ none. has ∙ whole_clone (contents b.above name) v.from c.volume none;
      follows = λ later old told.
          (let before : contents b.above name ≡ Ok old = sym old_is ∙ told in
          let both = is.follows later old (ap (contents b.above) named ∙ before) in
          (both.0, both.1, has ∙ later_clone (contents b.above name) v.from c.volume later ∙ ap (λ (r : Result VolumeFields Refusal). over_parent r c.volume) before));
      faulty = λ later r told. has ∙ later_clone (contents b.above name) v.from c.volume later ∙ ap (λ (x : Result VolumeFields Refusal). over_parent x c.volume) (sym old_is ∙ told);
    }

-- ---- the record fits

list_all_from : {X : Type 0} (test : X → Bool) (xs : List X) → ((i : ℕ) (x : X) → slice_get xs i ≡ Some x → test x ≡ true) → list_all test xs ≡ true
list_all_from test [] each = refl
list_all_from test (x ∷ xs) each =
    (let here : test x ≡ true = each 0 x refl in
    let rest : list_all test xs ≡ true = list_all_from test xs (λ i y at. each (suc i) y at) in
    rw (here, rest) refl)

none_from : (parent : Option DumpRecordFields) (name : List ℕ) (born : ℕ) → parent ≡ None → from_of parent name born ≡ 0
none_from parent name born none = ap (λ (p : Option DumpRecordFields). from_of p name born) none

all_whole : (contents : ℕ → List ℕ → Result VolumeFields Refusal) (b : Basis) (volumes : List VolRecordFields) (m : Made) → VolumesFit contents b volumes m → b.parent ≡ None → list_all is_whole volumes ≡ true
all_whole contents b volumes m fit none =
    list_all_from is_whole volumes
    (λ i v at.
    (let c = one_there m.clones i (omega (arith, get_within volumes i v at, fit.clones)) in
    let is = fit.cloned i v c.0 at c.1 in
    eq-eqb v.from 0 (is.from_is ∙ none_from b.parent v.name c.0.born none)))

lt_true : (a b : ℕ) → a < b → nat_lt a b ≡ true
lt_true a b lt = grind (arith, nat_tests)

pub fits_listed : (d : DumpRecordFields) (listed : List DumpRecordFields) → has_dump listed d.id ≡ false → d.parent < d.id → (d.parent ≡ 0 → list_all is_whole d.volumes ≡ true) → fits_record d listed ≡ true
fits_listed d listed unlisted above whole =
    let some : (d.id == 0) ≡ false = unequal d.id 0 (λ same. absurd (omega (arith, above, same))) in
    let below : nat_lt d.parent d.id ≡ true = lt_true d.parent d.id above in
    let volumes : (if d.parent == 0 then list_all is_whole d.volumes else true) ≡ true = elim (cases_Bool (d.parent == 0)) [
      | inl hit ↦ rw hit (whole (eqb-true d.parent 0 hit))
      | inr miss ↦ rw miss refl
    ] in
    rw (some, unlisted, below, volumes) refl

-- ---- the step

module _ (s : State) (a : Archive) (records : List DumpRecordFields) (j : JobFields) (m : Made) (g : Goes s a records j m) (h : Hand) (b : BeforeDumpEnd a j h m) (fit : IsFitItem (Says (frames.DumpEnd (part_end 0 j)))) where
  abbrev all_volumes : List VolRecordFields
  all_volumes = j.volumes ++ record_with j.head.tape h ∷ []

  abbrev ended_item : Item
  ended_item = Says (frames.DumpEnd (part_end 0 j))

  abbrev slots_with : List Slot
  slots_with = with_items j.reel.slot (b.open_part.slot.items ++ ended_item ∷ []) a.slots

  abbrev slots_marked : List Slot
  slots_marked = with_items j.reel.slot ((b.open_part.slot.items ++ ended_item ∷ []) ++ Filemark ∷ []) slots_with

  abbrev slot_put : Slot
  slot_put = record b.open_part.slot { items = b.open_part.slot.items ++ ended_item ∷ [] }

  abbrev all_located : List Located
  all_located = m.ended ++ located_with 0 j m ∷ []

  some : m.fragments ≡ [] → ⊥
  some = last_some (λ (f : Fragment). (f.head ≡ h.head) × (f.end.last ≡ 1)) m.fragments b.hand.last

  pub volumes_fit : VolumesFit a.contents (basis_of j) all_volumes m
  volumes_fit = volumes_more a.contents (basis_of j) j.volumes j.head.tape h m g.volumes b.hand.goes b.hand.over b.hand.none

  held_put : HoldsSettled (comes (puts j.reel.slot (record_for ended_item)) s) (with_slot a j.reel.slot (b.open_part.slot.items ++ ended_item ∷ [])) records
  held_put = mid_put_holds s a records g.held j.reel.slot b.open_part.slot b.open_part.at ended_item fit (λ d there. tt) (λ x same. absurd (cc)) (λ same. absurd (cc))

  there_put : slice_get slots_with j.reel.slot ≡ Some slot_put
  there_put = slot_with j.reel.slot (b.open_part.slot.items ++ ended_item ∷ []) a.slots b.open_part.slot b.open_part.at

  ends_dump_there : ends_dump j.head.volumes m.fragments ≡ true
  ends_dump_there =
      ends_whole j.head.volumes m.fragments
      (ends_so (λ (f : Fragment). (f.head ≡ h.head) × (f.end.last ≡ 1)) (λ (f : Fragment). (f.end.last ≡ 1) × (f.head.index + 1 ≡ j.head.volumes)) m.fragments
      (λ f is. (is.1, ap (λ (x : VolHeadFields). x.index + 1) is.0 ∙ b.all)) b.hand.last)

  closed_there : IsClosedIn (slot_put.items ++ Filemark ∷ []) (found_with 0 j m)
  closed_there =
      let o = b.open_part in
      let more : 0 ≡ (if ends_dump j.head.volumes m.fragments then 0 else 1) = rw ends_dump_there refl in
      subst (λ (l : List Item). IsClosedIn l (found_with 0 j m)) (sym (append_assoc o.slot.items (ended_item ∷ []) (Filemark ∷ [])))
      (ended_closes (s.tape j.reel.slot) m.front j.head m.ended m.fragments (part_end 0 j) o.slot.items o.front o.fragments some g.ended.number refl more fit (g.held.seen.tapes j.reel.slot o.slot o.at) o.items)

  end_there : (found_with 0 j m).end ≡ length slot_put.items + 1
  end_there = omega (arith, ends_there m.front j.head m.fragments (part_end 0 j) b.open_part.slot.items b.open_part.items, length-append b.open_part.slot.items (ended_item ∷ []))

  found_there : IsFound slots_marked all_located (record_done j all_volumes)
  found_there =
      last_part_found slots_with j.reel.slot slot_put there_put (Filemark ∷ []) m.ended (found_with 0 j m) (record_done j all_volumes)
      (all_closed_elsewhere j.reel.slot (b.open_part.slot.items ++ ended_item ∷ []) a.slots m.ended g.apart g.closed) closed_there (whole_with j m g.ended b.open_part.fragments some)
      (record_is a j m 0 all_volumes b.open_part g.ended g.filled volumes_fit.some b.hand.lying)

  own_there : HasOwnHeads slots_marked all_located j.head.id
  own_there =
      let one : All IsNoHead (ended_item ∷ []) = All-cons IsNoHead ended_item [] (λ x same. absurd (cc)) (All-nil IsNoHead) in
      let two : All IsNoHead (Filemark ∷ []) = All-cons IsNoHead Filemark [] (λ x same. absurd (cc)) (All-nil IsNoHead) in
      let put : OwnHeads slots_with m.ended j.head.id j.reel.slot j.first = own_put a.slots m.ended j.head.id j.reel.slot j.first j.reel.slot b.open_part.slot (ended_item ∷ []) b.open_part.at one b.open_part.own in
      own_of slots_marked m.ended j.head.id j.reel.slot j.first (located_with 0 j m) refl (sym b.open_part.first) (own_put slots_with m.ended j.head.id j.reel.slot j.first j.reel.slot slot_put (Filemark ∷ []) there_put two put)

  unlisted : has_dump (listed_of a) j.head.id ≡ false
  unlisted = none_listed (listed_of a) j.head.id (λ e there. (g.new e (g.held.seen.kept.dumps.complete e (inl there))).0)

  settled_there : (l : Located) → Contains all_located l → (l.slot ≡ j.reel.slot → ⊥) → l.found.end ≤ s.settled l.slot
  settled_there l there other = elim (in_more m.ended (located_with 0 j m) l there) [
    | inl old ↦ g.settled l old
    | inr last ↦ absurd (other (ap (λ (x : Located). x.slot) (sym last)))
  ]

  pub gives_there : (name : List ℕ) (v : VolRecordFields) → volume_of (record_done j all_volumes) name ≡ Some v → GivesNext slots_marked (with_dump a.contents (basis_of j) m.clones) (record_done j all_volumes) name v
  gives_there name v is =
      let d : DumpRecordFields = record_done j all_volumes in
      let place = recorded_as_dumped slots_marked all_located d found_there name v is in
      let fit_all = volumes_fit in
      let names : (i : ℕ) (w : VolRecordFields) (c : Taken) → slice_get all_volumes i ≡ Some w → slice_get m.clones i ≡ Some c → w.name ≡ c.volume.header.name = λ i w c at clone. (fit_all.cloned i w c at clone).name_is in
      let found = clone_found 0 all_volumes m.clones name place.0 v names place.2 in
      let c = one_there m.clones found.0 (omega (arith, get_within all_volumes found.0 v found.2, fit_all.clones)) in
      let cloned : IsCloned a.contents (basis_of j) v.name v.clone v.from c.0 = fit_all.cloned found.0 v c.0 found.2 c.1 in
      let index : found.0 ≡ place.0 = omega (arith, found.1) in
      let all : all_fragments m ≡ flat_map (λ (l : Located). l.found.part.fragments) all_located = sym (flat_more (λ (l : Located). l.found.part.fragments) m.ended (located_with 0 j m)) in
      let dumped : IsDumped j.head.id place.0 (flat_map (λ (l : Located). l.found.part.fragments) all_located) (dumping_of v c.0) =
      subst (λ (n : ℕ). IsDumped j.head.id n (flat_map (λ (l : Located). l.found.part.fragments) all_located) (dumping_of v c.0)) index
      (subst (λ (fs : List Fragment). IsDumped j.head.id found.0 fs (dumping_of v c.0)) all (fit_all.dumped found.0 v c.0 found.2 c.1)) in
      let named : v.name ≡ name = same_text v.name name (find_is (λ (x : VolRecordFields). is_same_text x.name name) all_volumes v is).1 in
      let clone : IsClone (with_dump a.contents (basis_of j) m.clones) d name v c.0.volume = its_clone a.contents (basis_of j) m.clones d name v c.0 refl refl g.parent.below named cloned (found.3 c.0 c.1) in
      dumped_gives slots_marked all_located d found_there (own_held_once slots_marked all_located d found_there own_there) (with_dump a.contents (basis_of j) m.clones) name (place.0, v) place.2 (dumping_of v c.0) dumped c.0.volume v.clone refl cloned.allowed cloned.volume clone

  fits_there : fits_record (record_done j all_volumes) (listed_of a) ≡ true
  fits_there = fits_listed (record_done j all_volumes) (listed_of a) unlisted g.parent.below (λ none. all_whole a.contents (basis_of j) all_volumes m volumes_fit (g.parent.none none))

  -- Behind the end's frame: its filemark, the settling, and the commit of the dump's record.
  pub ended_done : AreChanges (Done (record_done j all_volumes) ∷ [])
      → let put = with_slot a j.reel.slot (b.open_part.slot.items ++ ended_item ∷ []) in
      let ended = with_contents (with_slot put j.reel.slot (slot_put.items ++ Filemark ∷ [])) (with_dump a.contents (basis_of j) m.clones) in
      let d = record_done j all_volumes in
      AreHeld s (puts j.reel.slot (record_for ended_item) ∷ puts j.reel.slot (record_for Filemark) ∷ settles j.reel.slot ∷ commits (encoded (Done d ∷ [])) ∷ [])
      (record { archive = a; records = records } ∷ record { archive = put; records = records } ∷ record { archive = ended; records = records ++ d ∷ [] } ∷ record { archive = ended; records = records ++ d ∷ [] }
      ∷ record { archive = with_log ended (a.log ++ Done d ∷ []); records = records ++ d ∷ [] } ∷ [])
  ended_done forms =
      let d : DumpRecordFields = record_done j all_volumes in
      let put : Archive = with_slot a j.reel.slot (b.open_part.slot.items ++ ended_item ∷ []) in
      let none = g.new in (
        g.held,
        dump_done_holds (comes (puts j.reel.slot (record_for ended_item)) s) put records held_put j.reel.slot slot_put there_put (found_with 0 j m) d all_located (with_dump a.contents (basis_of j) m.clones) closed_there end_there found_there refl
            (λ e there. (none e there).0) (λ e there. (none e there).1) own_there settled_there fits_there unlisted g.parent.below forms (others_told a.contents (basis_of j) m.clones) gives_there,
      )

  -- The same without the commit: the dump is whole, and isn't listed.
  pub ended_unlisted :
      let put = with_slot a j.reel.slot (b.open_part.slot.items ++ ended_item ∷ []) in
      let ended = with_contents (with_slot put j.reel.slot (slot_put.items ++ Filemark ∷ [])) (with_dump a.contents (basis_of j) m.clones) in
      let d = record_done j all_volumes in
      AreHeld s (puts j.reel.slot (record_for ended_item) ∷ puts j.reel.slot (record_for Filemark) ∷ settles j.reel.slot ∷ [])
      (record { archive = a; records = records } ∷ record { archive = put; records = records } ∷ record { archive = ended; records = records ++ d ∷ [] } ∷ record { archive = ended; records = records ++ d ∷ [] } ∷ [])
  ended_unlisted =
      let d : DumpRecordFields = record_done j all_volumes in
      let put : Archive = with_slot a j.reel.slot (b.open_part.slot.items ++ ended_item ∷ []) in
      let ended : Archive = with_contents (with_slot put j.reel.slot (slot_put.items ++ Filemark ∷ [])) (with_dump a.contents (basis_of j) m.clones) in
      let state : State = comes (puts j.reel.slot (record_for ended_item)) s in
      let none = g.new in
      let once : AreHeldOnce (d ∷ []) slots_marked = own_held_once slots_marked all_located d found_there own_there in
      let marked : HoldsSettled (comes (puts j.reel.slot (record_for Filemark)) state) ended (records ++ d ∷ []) =
      dump_end_holds state put records held_put j.reel.slot slot_put there_put (found_with 0 j m) d all_located (with_dump a.contents (basis_of j) m.clones) closed_there end_there found_there refl (λ e there. (none e there).0) (λ e there. (none e there).1) unlisted g.parent.below once
      (others_told a.contents (basis_of j) m.clones) gives_there in
      (g.held, (held_put, (marked, settling_holds (comes (puts j.reel.slot (record_for Filemark)) state) ended (records ++ d ∷ []) j.reel.slot marked)))
