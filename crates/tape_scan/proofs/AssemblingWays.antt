-- The way of a dump is the first list of parts that makes it whole.
use Rattle.std.proofs.Common.{◌≡◌, ◌⊎◌, ℕ, zero, suc, ◌<◌, Bool, Some, List, [], ◌∷◌, map, get_or, IsSome, refl, sym, ap, subst, ◌∙◌, arith, inl, inr}
use Rattle.std.specs.Prelude.{All, Contains}
use Rattle.std.proofs.lemmas.List.{get_or_default}
use Rattle.std.proofs.lemmas.List.Elements.{All-nil, All-cons, All-head, All-tail}
use Rattle.budb_changes.specs.declared.records.DumpRecordFields.{DumpRecordFields}
use Rattle.tape_text.specs.Texts.{Part, Linked}
use Rattle.tape_text.specs.Wholes.{NextTape, EndsWhole, record_with, record_by}
use Rattle.tape_scan.specs.declared.sections.PartFound.{PartFound}
use Rattle.tape_scan.specs.declared.assembling_chains.Chain.{Chain}
use Rattle.tape_scan.specs.Slots.{Slot, Located, IsClosedAt, IsFound}
use Rattle.tape_scan.specs.Scanned.{IsEarlier, IsSame, Precedes, IsChosen}
use Rattle.tape_scan.specs.AssembledSteps.{ToldNext, IsEnding, Completes, Stands, IsFlagged, AreKnown, HasNoNext, IsFirstNext}
use Rattle.tape_scan.specs.AssembledPaths.{Walks, IsBegin, IsChain}
use Rattle.tape_scan.specs.AssembledRecords.{ArePlaced, IsRecordAt, told_record}
use Rattle.tape_scan.proofs.ListLaws.{either}
use Rattle.tape_scan.proofs.AssemblingSteps.{one_stands}
use Rattle.tape_scan.proofs.AssemblingTold.{told_whole, next_told, ending_told, record_told, IsFair}
use Rattle.tape_scan.proofs.AssemblingAll.{Both, IsAll}

abbrev pub tolds : List Both → List PartFound
tolds zs = map (λ z. z.told) zs

abbrev pub ats : List Both → List Located
ats zs = map (λ z. z.at) zs

abbrev pub parts_in : List Located → List Part
parts_in ls = map (λ l. l.found.part) ls

-- ---- places

pub told_at : (zs : List Both) (k : ℕ) (z : Both) → Stands zs k z → Stands (tolds zs) k z.told
told_at [] k z there = absurd (omega (arith, there.0))
told_at (y ∷ zs) zero z there = (omega arith, ap (λ (x : Both). x.told) there.1)
told_at (y ∷ zs) (suc k) z there = let rest = told_at zs k z (omega (arith, there.0), there.1) in (omega (arith, rest.0), rest.1)

pub at_told : (zs : List Both) (k : ℕ) (p : PartFound) → Stands (tolds zs) k p → (z : Both) × Stands zs k z × (z.told ≡ p)
at_told [] k p there = absurd (omega (arith, there.0))
at_told (y ∷ zs) zero p there = (y, (omega arith, refl), there.1)
at_told (y ∷ zs) (suc k) p there = let rest = at_told zs k p (omega (arith, there.0), there.1) in (rest.0, (omega (arith, rest.1.0), rest.1.1), rest.2)

-- at these places of the list are these
abbrev pub Placed : List Both → List ℕ → List Both → Type 0
Placed zs [] [] = Unit {0}
Placed zs (k ∷ ks) (y ∷ ys) = Stands zs k y × Placed zs ks ys
Placed zs [] (y ∷ ys) = ⊥
Placed zs (k ∷ ks) [] = ⊥

pub placed_told : (zs : List Both) (ks : List ℕ) (ys : List Both) (ps : List PartFound) → Placed zs ks ys → ArePlaced (tolds zs) ks ps → ps ≡ tolds ys
placed_told zs [] [] [] placed told = refl
placed_told zs (k ∷ ks) (y ∷ ys) (p ∷ ps) placed told =
    let first : p ≡ y.told = one_stands (tolds zs) k p y.told told.0 (told_at zs k y placed.0) in
    ap (λ (x : PartFound). x ∷ ps) first ∙ ap (λ (t : List PartFound). y.told ∷ t) (placed_told zs ks ys ps placed.1 told.1)
placed_told zs [] [] (p ∷ ps) placed told = absurd told
placed_told zs [] (y ∷ ys) ps placed told = absurd placed
placed_told zs (k ∷ ks) [] ps placed told = absurd placed
placed_told zs (k ∷ ks) (y ∷ ys) [] placed told = absurd told

-- ---- earlier

not_both : (l m : Located) → IsEarlier l m → IsEarlier m l → ⊥
not_both l m (inl lt) (inl lt2) = absurd (omega (arith, lt, lt2))
not_both l m (inl lt) (inr same) = absurd (omega (arith, lt, same.0))
not_both l m (inr same) (inl lt) = absurd (omega (arith, lt, same.0))
not_both l m (inr same) (inr same2) = absurd (omega (arith, same.1, same2.1))

not_earlier : (l m : Located) → IsSame l m → IsEarlier l m → ⊥
not_earlier l m same (inl lt) = absurd (omega (arith, lt, same.0))
not_earlier l m same (inr both) = absurd (omega (arith, both.1, same.1))

module _ (slots : List Slot) (zs : List Both) (all : IsAll slots zs) where
  pub ordered : (i j : ℕ) (y z : Both) → Stands zs i y → Stands zs j z → i < j → IsEarlier y.at z.at
  ordered i j y z in_y in_z lt =
      let first : get_or zs i z ≡ y = get_or_default zs i z y in_y.0 ∙ in_y.1 in
      subst (λ (x : Both). IsEarlier x.at z.at) first (subst (λ (x : Both). IsEarlier (get_or zs i z).at x.at) in_z.1 (all.in_order i j z lt in_z.0))

  pub earlier_index : (i j : ℕ) (y z : Both) → Stands zs i y → Stands zs j z → IsEarlier y.at z.at → i < j
  earlier_index i j y z in_y in_z earlier = elim (either i j) [
    | inl lt ↦ lt
    | inr ge ↦ elim (either j i) [
      | inl lt ↦ absurd (not_both y.at z.at earlier (ordered j i z y in_z in_y lt))
      | inr le ↦
          (let equal : i ≡ j = omega (arith, ge, le) in
          let same : y ≡ z = one_stands zs j y z (subst (λ (n : ℕ). Stands zs n y) equal in_y) in_z in
          absurd (not_earlier y.at z.at (ap (λ (x : Both). x.at.slot) same, ap (λ (x : Both). x.at.found.first) same) earlier))
    ]
  ]

  pub same_index : (i j : ℕ) (y z : Both) → Stands zs i y → Stands zs j z → IsSame y.at z.at → i ≡ j
  same_index i j y z in_y in_z same = elim (either i j) [
    | inl lt ↦ absurd (not_earlier y.at z.at same (ordered i j y z in_y in_z lt))
    | inr ge ↦ elim (either j i) [
      | inl lt ↦ absurd (not_earlier z.at y.at (sym same.0, sym same.1) (ordered j i z y in_z in_y lt))
      | inr le ↦ omega (arith, ge, le)
    ]
  ]

  -- a closed part's place
  pub record Place (l : Located) : Type 0 where
    pub index : ℕ
    pub both : Both
    pub stands : Stands zs index both
    pub is : both.at ≡ l
    pub fair : IsFair l.found
    pub told : both.told ≡ told_whole l.found

  pub place_closed : (l : Located) → IsClosedAt slots l → Place l
  place_closed l closed =
      let z = all.all_closed l closed in
      let told = all.told_closed z.0 z.1 (subst (IsClosedAt slots) (sym z.2) closed) in
      record {
        index = z.1.0;
        both = z.0;
        stands = (z.1.1, z.1.2);
        is = z.2;
        fair = subst (λ (l : Located). IsFair l.found) z.2 told.0;
        told = told.1 ∙ ap (λ (l : Located). told_whole l.found) z.2;
      }

  -- closed parts at one place are one
  pub one_part : (l m : Located) → IsClosedAt slots l → IsClosedAt slots m → IsSame l m → l ≡ m
  one_part l m in_l in_m same =
      let a = place_closed l in_l in
      let b = place_closed m in_m in
      let slot = ap (λ (x : Located). x.slot) a.is ∙ same.0 ∙ ap (λ (x : Located). x.slot) (sym b.is) in
      let first = ap (λ (x : Located). x.found.first) a.is ∙ same.1 ∙ ap (λ (x : Located). x.found.first) (sym b.is) in
      let index = same_index a.index b.index a.both b.both a.stands b.stands (slot, first) in
      sym a.is ∙ ap (λ (x : Both). x.at) (one_stands zs b.index a.both b.both (subst (λ (n : ℕ). Stands zs n a.both) index a.stands) b.stands) ∙ b.is

  -- ---- parts that make a dump whole

  pub completes : (l : Located) (os : List Located) → All (IsClosedAt slots) (l ∷ os) → Linked NextTape (parts_in (l ∷ os)) → EndsWhole (parts_in (l ∷ os)) → Completes (tolds zs) (told_whole l.found)
  completes l [] closed linked ends = ([], (ending_told l.found (place_closed l (All-head (IsClosedAt slots) l [] closed)).fair).1 ends)
  completes l (o ∷ os) closed linked ends =
      let a = place_closed l (All-head (IsClosedAt slots) l (o ∷ os) closed) in
      let more = All-tail (IsClosedAt slots) l (o ∷ os) closed in
      let b = place_closed o (All-head (IsClosedAt slots) o os more) in
      let rest = completes o os more linked.1 ends in
      let stands = told_at zs b.index b.both b.stands in
      let member = subst (Contains (tolds zs)) b.told (b.index, stands.0, stands.1) in
      (told_whole o.found ∷ rest.0, (member, (next_told l.found o.found a.fair).1 linked.0, rest.1))

  module _ (good : List Bool) (known : AreKnown (tolds zs) good) where
    flagged_closed : (l : Located) (os : List Located) (closed : All (IsClosedAt slots) (l ∷ os)) → Linked NextTape (parts_in (l ∷ os)) → EndsWhole (parts_in (l ∷ os)) → IsFlagged good (place_closed l (All-head (IsClosedAt slots) l os closed)).index
    flagged_closed l os closed linked ends =
        let a = place_closed l (All-head (IsClosedAt slots) l os closed) in
        (known a.index a.both.told (told_at zs a.index a.both a.stands)).1 (subst (Completes (tolds zs)) (sym a.told) (completes l os closed linked ends))

    -- the way from a part on is a list of closed parts to the dump's end, and no such list goes before it
    pub record Way (z : Both) (js : List ℕ) : Type 0 where
      pub rest : List Both
      pub placed : Placed zs js rest
      pub closed : All (IsClosedAt slots) (ats (z ∷ rest))
      pub linked : Linked NextTape (parts_in (ats (z ∷ rest)))
      pub ends : EndsWhole (parts_in (ats (z ∷ rest)))
      pub first : (os : List Located) → All (IsClosedAt slots) (z.at ∷ os) → Linked NextTape (parts_in (z.at ∷ os)) → EndsWhole (parts_in (z.at ∷ os)) → Precedes os (ats rest) → ⊥

    none_precedes : (os : List Located) → Precedes os [] → ⊥
    none_precedes [] before = before
    none_precedes (o ∷ os) before = before

    ends_there : (k : ℕ) (z : Both) → Stands zs k z → IsFlagged good k → HasNoNext (tolds zs) good z.told → IsEnding z.told
    ends_there k z stands flagged none = from_path ((known k z.told (told_at zs k z stands)).0 flagged)
      where
        from_path : Completes (tolds zs) z.told → IsEnding z.told
        from_path ([], leads) = leads
        from_path (q ∷ qs, leads) = absurd (none leads.0.0 q (leads.0.1, leads.0.2) ((known leads.0.0 q (leads.0.1, leads.0.2)).1 (qs, leads.2)) leads.1)

    way_first : (z : Both) (j : ℕ) (y : Both) (js : List ℕ) (q : PartFound) → IsClosedAt slots z.at → z.told ≡ told_whole z.at.found → IsFair z.at.found → Stands zs j y → IsFirstNext (tolds zs) good z.told j q → (w : Way y js)
        → (os : List Located) → All (IsClosedAt slots) (z.at ∷ os) → Linked NextTape (parts_in (z.at ∷ os)) → EndsWhole (parts_in (z.at ∷ os)) → Precedes os (ats (y ∷ w.rest)) → ⊥
    way_first z j y js q in_z told fair in_y next w [] closed linked ends before = before
    way_first z j y js q in_z told fair in_y next w (o ∷ os) closed linked ends before =
        let more = All-tail (IsClosedAt slots) z.at (o ∷ os) closed in
        let a = place_closed o (All-head (IsClosedAt slots) o os more) in
        let flagged = flagged_closed o os more linked.1 ends in
        let goes : ToldNext z.told a.both.told = subst (λ (p : PartFound). ToldNext p a.both.told) (sym told) (subst (ToldNext (told_whole z.at.found)) (sym a.told) ((next_told z.at.found o.found fair).1 linked.0)) in
        elim before [
          | inl earlier ↦
              (let lt = earlier_index a.index j a.both y a.stands in_y (subst (λ (l : Located). IsEarlier l y.at) (sym a.is) earlier) in
              next.first a.index a.both.told lt (told_at zs a.index a.both a.stands) flagged goes)
          | inr both ↦
              (let same : o ≡ y.at = one_part o y.at (All-head (IsClosedAt slots) o os more) (All-head (IsClosedAt slots) y.at (ats w.rest) w.closed) both.0 in
              w.first os (subst (λ (l : Located). All (IsClosedAt slots) (l ∷ os)) same more) (subst (λ (l : Located). Linked NextTape (parts_in (l ∷ os))) same linked.1) (subst (λ (l : Located). EndsWhole (parts_in (l ∷ os))) same ends) both.1)
        ]

    pub way : (js : List ℕ) (k : ℕ) (z : Both) (last : ℕ) (end : PartFound) → Stands zs k z → IsClosedAt slots z.at → IsFlagged good k → Walks (tolds zs) good k z.told js last end → HasNoNext (tolds zs) good end → Way z js
    way [] k z last end stands in_z flagged walks none =
        let told = all.told_closed z (k, stands.0, stands.1) in_z in
        let ending = ends_there k z stands flagged (subst (HasNoNext (tolds zs) good) (sym walks.1) none) in
        record {
          rest = [];
          placed = tt;
          closed = All-cons (IsClosedAt slots) z.at [] in_z (All-nil (IsClosedAt slots));
          linked = tt;
          ends = (ending_told z.at.found told.0).0 (subst IsEnding told.1 ending);
          first = λ os closed linked ends before. none_precedes os before;
        }
    way (j ∷ js) k z last end stands in_z flagged (q, next, more) none =
        let told = all.told_closed z (k, stands.0, stands.1) in_z in
        let y = at_told zs j q next.stands in
        let in_y = all.closed y.0 (j, y.1.0, y.1.1) (subst (λ (p : PartFound). IsSome p.end) (sym y.2) next.next.next_closed) in
        let w = way js j y.0 last end y.1 in_y.0 next.flagged (subst (λ (p : PartFound). Walks (tolds zs) good j p js last end) (sym y.2) more) none in
        let goes : ToldNext (told_whole z.at.found) (told_whole y.0.at.found) = subst (λ (p : PartFound). ToldNext p (told_whole y.0.at.found)) told.1 (subst (ToldNext z.told) (sym y.2 ∙ in_y.2) next.next) in
        record {
          rest = y.0 ∷ w.rest;
          placed = (y.1, w.placed);
          closed = All-cons (IsClosedAt slots) z.at (ats (y.0 ∷ w.rest)) in_z w.closed;
          linked = ((next_told z.at.found y.0.at.found told.0).0 goes, w.linked);
          ends = w.ends;
          first = way_first z j y.0 js q in_z told.1 told.0 y.1 next w;
        }

    -- ---- a dump's way and its record

    all_whole : (ys : List Both) → All (IsClosedAt slots) (ats ys) → ((y : Both) → Contains ys y → Contains zs y) → All IsFair (map (λ l. l.found) (ats ys)) × (tolds ys ≡ map told_whole (map (λ l. l.found) (ats ys)))
    all_whole [] closed within = (All-nil IsFair, refl)
    all_whole (y ∷ ys) closed within =
        let told = all.told_closed y (within y (0, omega arith, refl)) (All-head (IsClosedAt slots) y.at (ats ys) closed) in
        let rest = all_whole ys (All-tail (IsClosedAt slots) y.at (ats ys) closed) (λ x there. within x (suc there.0, omega (arith, there.1), there.2)) in (
          All-cons IsFair y.at.found (map (λ l. l.found) (ats ys)) told.0 rest.0,
          ap (λ (p : PartFound). p ∷ tolds ys) told.1 ∙ ap (λ (t : List PartFound). told_whole y.at.found ∷ t) rest.1,
        )

    placed_within : (ks : List ℕ) (ys : List Both) → Placed zs ks ys → (y : Both) → Contains ys y → Contains zs y
    placed_within [] [] placed y there = absurd (omega (arith, there.1))
    placed_within (k ∷ ks) (x ∷ ys) placed y (zero, within, is) = subst (Contains zs) is (k, placed.0.0, placed.0.1)
    placed_within (k ∷ ks) (x ∷ ys) placed y (suc n, within, is) = placed_within ks ys placed.1 y (n, omega (arith, within), is)
    placed_within [] (x ∷ ys) placed y there = absurd placed
    placed_within (k ∷ ks) [] placed y there = absurd placed

    some_record : (d e : DumpRecordFields) → Some d ≡ Some e → d ≡ e
    some_record d e same = cc

    -- the parts of a dump's way, of which its record is
    pub record Picked (c : Chain) (d : DumpRecordFields) : Type 0 where
      pub both : List Both
      pub placed : Placed zs c.places both
      pub chosen : IsChosen slots (ats both) d
      pub id : d.id ≡ c.id

    found_id : (l : Located) (ls : List Located) (d : DumpRecordFields) → record_by (map (λ x. x.found) (l ∷ ls)) ≡ Some d → d.id ≡ l.found.part.head.id
    found_id l ls d is = sym (ap (λ (x : DumpRecordFields). x.id) (some_record (record_with l.found.part.head (map (λ x. x.found) (l ∷ ls))) d is))

    -- where a whole dump begins
    pub found_begin : (l : Located) (ls : List Located) (d : DumpRecordFields) (found : IsFound slots (l ∷ ls) d) → IsBegin (tolds zs) good (place_closed l (All-head (IsClosedAt slots) l ls found.closed)).index (place_closed l (All-head (IsClosedAt slots) l ls found.closed)).both.told
    found_begin l ls d found =
        let a = place_closed l (All-head (IsClosedAt slots) l ls found.closed) in
        record {
          stands = told_at zs a.index a.both a.stands;
          flagged = flagged_closed l ls found.closed found.whole.linked found.whole.ends;
          part = ap (λ (p : PartFound). p.head.part) a.told ∙ found.whole.begins;
        }

    pub found_told_id : (l : Located) (ls : List Located) (d : DumpRecordFields) (found : IsFound slots (l ∷ ls) d) → (place_closed l (All-head (IsClosedAt slots) l ls found.closed)).both.told.head.id ≡ d.id
    found_told_id l ls d found = ap (λ (p : PartFound). p.head.id) (place_closed l (All-head (IsClosedAt slots) l ls found.closed)).told ∙ sym (found_id l ls d found.record_is)

    none_first : (c : Chain) (chain : IsChain (tolds zs) good c) (z : Both) → Stands zs chain.begin z → IsClosedAt slots z.at → (js : List ℕ) (w : Way z js) (d : DumpRecordFields) → d.id ≡ c.id
        → (others : List Located) (e : DumpRecordFields) → IsFound slots others e → e.id ≡ d.id → Precedes others (ats (z ∷ w.rest)) → ⊥
    none_first c chain z stands in_z js w d id [] e found same before = found.whole.begins
    none_first c chain z stands in_z js w d id (o ∷ os) e found same before =
        let a = place_closed o (All-head (IsClosedAt slots) o os found.closed) in
        let behind = chain.first a.index a.both.told (found_begin o os e found) (found_told_id o os e found ∙ same ∙ id) in
        elim before [
          | inl earlier ↦
              (let lt = earlier_index a.index chain.begin a.both z a.stands stands (subst (λ (l : Located). IsEarlier l z.at) (sym a.is) earlier) in
              absurd (omega (arith, lt, behind)))
          | inr both ↦
              (let one : o ≡ z.at = one_part o z.at (All-head (IsClosedAt slots) o os found.closed) in_z both.0 in
              w.first os (subst (λ (l : Located). All (IsClosedAt slots) (l ∷ os)) one found.closed) (subst (λ (l : Located). Linked NextTape (parts_in (l ∷ os))) one found.whole.linked) (subst (λ (l : Located). EndsWhole (parts_in (l ∷ os))) one found.whole.ends) both.1)
        ]

    flagged_closed_at : (k : ℕ) (z : Both) → Stands zs k z → IsFlagged good k → IsClosedAt slots z.at
    flagged_closed_at k z stands flagged = (all.closed z (k, stands.0, stands.1) (from_path ((known k z.told (told_at zs k z stands)).0 flagged))).0
      where
        from_path : Completes (tolds zs) z.told → IsSome z.told.end
        from_path ([], leads) = leads.0
        from_path (q ∷ qs, leads) = leads.1.closed

    pub picked : (c : Chain) (d : DumpRecordFields) → IsChain (tolds zs) good c → IsRecordAt (tolds zs) c.places d → Picked c d
    picked c d chain (parts, placed, is) =
        let walk = chain.walk.walk in
        let z = at_told zs chain.begin chain.head chain.is.stands in
        let in_z = flagged_closed_at chain.begin z.0 z.1 chain.is.flagged in
        let heads : walk.first ≡ z.0.told = one_stands (tolds zs) chain.begin walk.first chain.head walk.stands chain.is.stands ∙ sym z.2 in
        let w = way walk.rest chain.begin z.0 chain.walk.last walk.end z.1 in_z chain.is.flagged (subst (λ (p : PartFound). Walks (tolds zs) good chain.begin p walk.rest chain.walk.last walk.end) heads walk.walks) chain.walk.no_next in
        let there : Placed zs c.places (z.0 ∷ w.rest) = subst (λ (ks : List ℕ). Placed zs ks (z.0 ∷ w.rest)) (sym walk.is) (z.1, w.placed) in
        let whole = all_whole (z.0 ∷ w.rest) w.closed (placed_within c.places (z.0 ∷ w.rest) there) in
        let record_is : record_by (map (λ l. l.found) (ats (z.0 ∷ w.rest))) ≡ Some d = sym (record_told (map (λ l. l.found) (ats (z.0 ∷ w.rest))) whole.0) ∙ ap told_record (sym whole.1 ∙ sym (placed_told zs c.places (z.0 ∷ w.rest) parts there placed)) ∙ is in
        let id : d.id ≡ c.id = found_id z.0.at (ats w.rest) d record_is ∙ sym (ap (λ (p : PartFound). p.head.id) (all.told_closed z.0 (chain.begin, z.1.0, z.1.1) in_z).1) ∙ ap (λ (p : PartFound). p.head.id) z.2 ∙ chain.id in
        let begins : z.0.at.found.part.head.part ≡ 1 = sym (ap (λ (p : PartFound). p.head.part) (all.told_closed z.0 (chain.begin, z.1.0, z.1.1) in_z).1) ∙ ap (λ (p : PartFound). p.head.part) z.2 ∙ chain.is.part in
        record {
          both = z.0 ∷ w.rest;
          placed = there;
          chosen = record {
            found = record { closed = w.closed; whole = record { begins = begins; linked = w.linked; ends = w.ends }; record_is = record_is };
            first = none_first c chain z.0 z.1 in_z walk.rest w d id;
          };
          id = id;
        }

    -- ---- of an id one list of parts is chosen

    compare : (l m : Located) → IsClosedAt slots l → IsClosedAt slots m → IsEarlier l m ⊎ (IsEarlier m l ⊎ (l ≡ m))
    compare l m in_l in_m =
        let a = place_closed l in_l in
        let b = place_closed m in_m in
        elim (either a.index b.index) [
          | inl lt ↦ inl (subst (λ (x : Located). IsEarlier x m) a.is (subst (IsEarlier a.both.at) b.is (ordered a.index b.index a.both b.both a.stands b.stands lt)))
          | inr ge ↦ elim (either b.index a.index) [
            | inl lt ↦ inr (inl (subst (λ (x : Located). IsEarlier x l) b.is (subst (IsEarlier b.both.at) a.is (ordered b.index a.index b.both a.both b.stands a.stands lt))))
            | inr le ↦
                (let equal : a.index ≡ b.index = omega (arith, ge, le) in
                inr (inr (sym a.is ∙ ap (λ (x : Both). x.at) (one_stands zs b.index a.both b.both (subst (λ (n : ℕ). Stands zs n a.both) equal a.stands) b.stands) ∙ b.is)))
          ]
        ]

    heads_same : (l : Located) (ls : List Located) (m : Located) (ms : List Located) → IsClosedAt slots l → IsClosedAt slots m → (Precedes (l ∷ ls) (m ∷ ms) → ⊥) → (Precedes (m ∷ ms) (l ∷ ls) → ⊥) → (l ≡ m) × (Precedes ls ms → ⊥) × (Precedes ms ls → ⊥)
    heads_same l ls m ms in_l in_m before behind = elim (compare l m in_l in_m) [
      | inl earlier ↦ absurd (before (inl earlier))
      | inr more ↦ elim more [
        | inl earlier ↦ absurd (behind (inl earlier))
        | inr same ↦
            (let slot = ap (λ (x : Located). x.slot) same in
            let first = ap (λ (x : Located). x.found.first) same in
            (same, (λ after. before (inr ((slot, first), after))), (λ after. behind (inr ((sym slot, sym first), after)))))
      ]
    ]

    same_parts : (l : Located) (ls : List Located) (m : Located) (ms : List Located) → All (IsClosedAt slots) (l ∷ ls) → All (IsClosedAt slots) (m ∷ ms) → Linked NextTape (parts_in (l ∷ ls)) → Linked NextTape (parts_in (m ∷ ms)) → EndsWhole (parts_in (l ∷ ls)) → EndsWhole (parts_in (m ∷ ms))
        → (Precedes (l ∷ ls) (m ∷ ms) → ⊥) → (Precedes (m ∷ ms) (l ∷ ls) → ⊥) → l ∷ ls ≡ m ∷ ms
    same_parts l [] m [] a b x y s t before behind =
        let f = heads_same l [] m [] (All-head (IsClosedAt slots) l [] a) (All-head (IsClosedAt slots) m [] b) before behind in ap (λ (p : Located). p ∷ []) f.0
    same_parts l [] m (m2 ∷ ms) a b x y s t before behind =
        let f = heads_same l [] m (m2 ∷ ms) (All-head (IsClosedAt slots) l [] a) (All-head (IsClosedAt slots) m (m2 ∷ ms) b) before behind in
        absurd (let e : 0 ≡ 1 = sym s ∙ ap (λ (p : Located). p.found.part.end.more) f.0 ∙ y.0.more in omega (arith, e))
    same_parts l (l2 ∷ ls) m [] a b x y s t before behind =
        let f = heads_same l (l2 ∷ ls) m [] (All-head (IsClosedAt slots) l (l2 ∷ ls) a) (All-head (IsClosedAt slots) m [] b) before behind in
        absurd (let e : 1 ≡ 0 = sym x.0.more ∙ ap (λ (p : Located). p.found.part.end.more) f.0 ∙ t in omega (arith, e))
    same_parts l (l2 ∷ ls) m (m2 ∷ ms) a b x y s t before behind =
        let f = heads_same l (l2 ∷ ls) m (m2 ∷ ms) (All-head (IsClosedAt slots) l (l2 ∷ ls) a) (All-head (IsClosedAt slots) m (m2 ∷ ms) b) before behind in
        let rest = same_parts l2 ls m2 ms (All-tail (IsClosedAt slots) l (l2 ∷ ls) a) (All-tail (IsClosedAt slots) m (m2 ∷ ms) b) x.1 y.1 s t f.1 f.2 in
        ap (λ (p : Located). p ∷ l2 ∷ ls) f.0 ∙ ap (λ (t : List Located). m ∷ t) rest

    pub one_chosen : (ls ms : List Located) (d e : DumpRecordFields) → IsChosen slots ls d → IsChosen slots ms e → d.id ≡ e.id → ls ≡ ms
    one_chosen [] ms d e a b same = absurd a.found.whole.begins
    one_chosen (l ∷ ls) [] d e a b same = absurd b.found.whole.begins
    one_chosen (l ∷ ls) (m ∷ ms) d e a b same =
        same_parts l ls m ms a.found.closed b.found.closed a.found.whole.linked b.found.whole.linked a.found.whole.ends b.found.whole.ends (λ before. b.first (l ∷ ls) d a.found same before) (λ behind. a.first (m ∷ ms) e b.found (sym same) behind)
