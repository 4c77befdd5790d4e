-- A scan of several tapes has one answer.
use Rattle.std.proofs.Common.{◌≡◌, ◌⊎◌, ℕ, zero, suc, ◌<◌, Some, List, [], ◌∷◌, map, refl, sym, ap, subst, ◌∙◌, arith, inl, inr}
use Rattle.std.specs.Prelude.{All, AllPairs, Contains, slice_get}
use Rattle.std.proofs.lemmas.List.Elements.{All-head, All-tail, All-contains}
use Rattle.tape_frames.specs.declared.frame.Frame.TheVariants as frames
use Rattle.tape_frames.specs.declared.dump_head.DumpHeadFields.{DumpHeadFields}
use Rattle.budb_changes.specs.declared.records.DumpRecordFields.{DumpRecordFields}
use Rattle.tape_text.specs.Items.{Says}
use Rattle.tape_text.specs.Texts.{Linked}
use Rattle.tape_text.specs.Parts.{FoundPart}
use Rattle.tape_text.specs.Wholes.{NextTape, EndsWhole, record_by}
use Rattle.tape_scan.specs.Scans.{IsClosedIn}
use Rattle.tape_scan.specs.Slots.{Slot, Located, IsClosedAt, IsBegunAt}
use Rattle.tape_scan.specs.Scanned.{IsEarlier, IsSame, Precedes, IsChosen, Scanned, Place, place_of}
use Rattle.tape_scan.proofs.ListLaws.{either}
use Rattle.tape_scan.proofs.ClosedLaws.{same_place}
use Rattle.tape_scan.proofs.HeadLaws.{begun_head}

-- ---- lists in order

pairs_tail : {X : Type 0} (R : X → X → Type 0) (x : X) (xs : List X) → AllPairs R (x ∷ xs) → AllPairs R xs
pairs_tail R x xs all i j d lt within = all (suc i) (suc j) d (omega arith) (omega arith)

pairs_head : {X : Type 0} (R : X → X → Type 0) (x : X) (xs : List X) (y : X) → AllPairs R (x ∷ xs) → Contains xs y → R x y
pairs_head R x xs y all (k, within, is) = subst (R x) is (all 0 (suc k) y (omega arith) (omega (arith, within)))

first_or_later : {X : Type 0} (x : X) (xs : List X) (y : X) → Contains (x ∷ xs) y → (x ≡ y) ⊎ Contains xs y
first_or_later x xs y (zero, within, is) = inl is
first_or_later x xs y (suc k, within, is) = inr (k, omega (arith, within), is)

later : {X : Type 0} (x : X) (xs : List X) (y : X) → Contains xs y → Contains (x ∷ xs) y
later x xs y (k, within, is) = (suc k, omega (arith, within), is)

-- Two lists in an order have the same keys, where each one's keys are among the other's. No key is before itself.
module _ {X K : Type 0} (key : X → K) (R : X → X → Type 0) (apart : (x y : X) → R x y → key x ≡ key y → ⊥) (swapped : (x y : X) → R x y → (a b : X) → key a ≡ key x → key b ≡ key y → R b a → ⊥) where
  same_first : (x : X) (xs : List X) (y : X) (ys : List X) → AllPairs R (x ∷ xs) → AllPairs R (y ∷ ys) → (a : X) × Contains (y ∷ ys) a × (key a ≡ key x) → (b : X) × Contains (x ∷ xs) b × (key b ≡ key y) → key x ≡ key y
  same_first x xs y ys in_x in_y a b = elim (first_or_later y ys a.0 a.1) [
    | inl first ↦ sym a.2 ∙ ap key (sym first)
    | inr behind ↦ elim (first_or_later x xs b.0 b.1) [
      | inl first ↦ ap key first ∙ b.2
      | inr more ↦ absurd (swapped x b.0 (pairs_head R x xs b.0 in_x more) a.0 y a.2 (sym b.2) (pairs_head R y ys a.0 in_y behind))
    ]
  ]

  only_later : (x : X) (xs : List X) (y : X) (ys : List X) → key x ≡ key y → AllPairs R (x ∷ xs) → ((z : X) → Contains (x ∷ xs) z → (a : X) × Contains (y ∷ ys) a × (key a ≡ key z)) → (z : X) → Contains xs z → (a : X) × Contains ys a × (key a ≡ key z)
  only_later x xs y ys same in_x there z member =
      let a = there z (later x xs z member) in
      elim (first_or_later y ys a.0 a.1) [
        | inl first ↦ absurd (apart x z (pairs_head R x xs z in_x member) (same ∙ ap key first ∙ a.2))
        | inr behind ↦ (a.0, behind, a.2)
      ]

  pub same_keys : (xs ys : List X) → AllPairs R xs → AllPairs R ys → ((x : X) → Contains xs x → (a : X) × Contains ys a × (key a ≡ key x)) → ((y : X) → Contains ys y → (b : X) × Contains xs b × (key b ≡ key y)) → map key xs ≡ map key ys
  same_keys [] [] in_x in_y there back = refl
  same_keys [] (y ∷ ys) in_x in_y there back = absurd (omega (arith, (back y (0, omega arith, refl)).1.1))
  same_keys (x ∷ xs) [] in_x in_y there back = absurd (omega (arith, (there x (0, omega arith, refl)).1.1))
  same_keys (x ∷ xs) (y ∷ ys) in_x in_y there back =
      let first : key x ≡ key y = same_first x xs y ys in_x in_y (there x (0, omega arith, refl)) (back y (0, omega arith, refl)) in
      let rest : map key xs ≡ map key ys = same_keys xs ys (pairs_tail R x xs in_x) (pairs_tail R y ys in_y) (only_later x xs y ys first in_x there) (only_later y ys x xs (sym first) in_y back) in
      cc

-- ---- chosen parts

same_or_earlier : (l m : Located) → IsEarlier l m ⊎ (IsEarlier m l ⊎ IsSame l m)
same_or_earlier l m = elim (either l.slot m.slot) [
  | inl lt ↦ inl (inl lt)
  | inr le ↦ elim (either m.slot l.slot) [
    | inl lt ↦ inr (inl (inl lt))
    | inr ge ↦
        (let slot : l.slot ≡ m.slot = omega (arith, le, ge) in
        elim (either l.found.first m.found.first) [
          | inl lt ↦ inl (inr (slot, lt))
          | inr le2 ↦ elim (either m.found.first l.found.first) [
            | inl lt ↦ inr (inl (inr (sym slot, lt)))
            | inr ge2 ↦ inr (inr (slot, omega (arith, le2, ge2)))
          ]
        ])
  ]
]

some_slot : (s t : Slot) → Some s ≡ Some t → s ≡ t
some_slot s t same = cc

module _ (slots : List Slot) where
  same_found : (l m : Located) → IsClosedAt slots l → IsClosedAt slots m → IsSame l m → l.found ≡ m.found
  same_found l m c e same =
      let slot : c.here ≡ e.here = some_slot c.here e.here (sym c.at ∙ ap (λ (n : ℕ). slice_get slots n) same.0 ∙ e.at) in
      same_place e.here.items l.found m.found (subst (λ (x : Slot). IsClosedIn x.items l.found) slot c.closed) e.closed same.1

  first_same : (l : Located) (ls : List Located) (m : Located) (ms : List Located) → IsClosedAt slots l → IsClosedAt slots m → (Precedes (l ∷ ls) (m ∷ ms) → ⊥) → (Precedes (m ∷ ms) (l ∷ ls) → ⊥) → (l.found ≡ m.found) × (Precedes ls ms → ⊥) × (Precedes ms ls → ⊥)
  first_same l ls m ms a b before behind = elim (same_or_earlier l m) [
    | inl earlier ↦ absurd (before (inl earlier))
    | inr rest ↦ elim rest [
      | inl earlier ↦ absurd (behind (inl earlier))
      | inr same ↦ (same_found l m a b same, (λ after. before (inr (same, after))), (λ after. behind (inr ((sym same.0, sym same.1), after))))
    ]
  ]

  -- parts of whole dumps, neither list of which goes before the other, are the same
  same_founds : (l : Located) (ls : List Located) (m : Located) (ms : List Located) → All (IsClosedAt slots) (l ∷ ls) → All (IsClosedAt slots) (m ∷ ms)
      → Linked NextTape (map (λ x. x.found.part) (l ∷ ls)) → Linked NextTape (map (λ x. x.found.part) (m ∷ ms)) → EndsWhole (map (λ x. x.found.part) (l ∷ ls)) → EndsWhole (map (λ x. x.found.part) (m ∷ ms))
      → (Precedes (l ∷ ls) (m ∷ ms) → ⊥) → (Precedes (m ∷ ms) (l ∷ ls) → ⊥) → map (λ x. x.found) (l ∷ ls) ≡ map (λ x. x.found) (m ∷ ms)
  same_founds l [] m [] a b x y s t before behind =
      let f = first_same l [] m [] (All-head (IsClosedAt slots) l [] a) (All-head (IsClosedAt slots) m [] b) before behind in ap (λ (p : FoundPart). p ∷ []) f.0
  same_founds l [] m (m2 ∷ ms) a b x y s t before behind =
      let f = first_same l [] m (m2 ∷ ms) (All-head (IsClosedAt slots) l [] a) (All-head (IsClosedAt slots) m (m2 ∷ ms) b) before behind in
      absurd (let e : 0 ≡ 1 = sym s ∙ ap (λ (p : FoundPart). p.part.end.more) f.0 ∙ y.0.more in omega (arith, e))
  same_founds l (l2 ∷ ls) m [] a b x y s t before behind =
      let f = first_same l (l2 ∷ ls) m [] (All-head (IsClosedAt slots) l (l2 ∷ ls) a) (All-head (IsClosedAt slots) m [] b) before behind in
      absurd (let e : 1 ≡ 0 = sym x.0.more ∙ ap (λ (p : FoundPart). p.part.end.more) f.0 ∙ t in omega (arith, e))
  same_founds l (l2 ∷ ls) m (m2 ∷ ms) a b x y s t before behind =
      let f = first_same l (l2 ∷ ls) m (m2 ∷ ms) (All-head (IsClosedAt slots) l (l2 ∷ ls) a) (All-head (IsClosedAt slots) m (m2 ∷ ms) b) before behind in
      let same : l.found ≡ m.found = f.0 in
      let rest : map (λ x. x.found) (l2 ∷ ls) ≡ map (λ x. x.found) (m2 ∷ ms) = same_founds l2 ls m2 ms (All-tail (IsClosedAt slots) l (l2 ∷ ls) a) (All-tail (IsClosedAt slots) m (m2 ∷ ms) b) x.1 y.1 s t f.1 f.2 in
      cc

  some_record : (d e : DumpRecordFields) → Some d ≡ Some e → d ≡ e
  some_record d e same = cc

  -- of an id one dump is chosen
  chosen_once : (ps qs : List Located) (d e : DumpRecordFields) → IsChosen slots ps d → IsChosen slots qs e → d.id ≡ e.id → d ≡ e
  chosen_once [] qs d e a b same = absurd a.found.whole.begins
  chosen_once (l ∷ ls) [] d e a b same = absurd b.found.whole.begins
  chosen_once (l ∷ ls) (m ∷ ms) d e a b same =
      let parts = same_founds l ls m ms a.found.closed b.found.closed a.found.whole.linked b.found.whole.linked a.found.whole.ends b.found.whole.ends
      (λ before. b.first (l ∷ ls) d a.found same before) (λ behind. a.first (m ∷ ms) e b.found (sym same) behind) in
      some_record d e (sym a.found.record_is ∙ ap record_by parts ∙ b.found.record_is)

  -- ---- what is whole

  is_chosen : (whole : List DumpRecordFields) (left : List Located) → Scanned slots whole left → (d : DumpRecordFields) → Contains whole d → (parts : List Located) × IsChosen slots parts d
  is_chosen whole left scan d there = All-contains (λ (x : DumpRecordFields). (parts : List Located) × IsChosen slots parts x) whole d scan.each there

  also_whole : (whole whole2 : List DumpRecordFields) (left left2 : List Located) → Scanned slots whole left → Scanned slots whole2 left2 → (d : DumpRecordFields) → Contains whole d → (e : DumpRecordFields) × Contains whole2 e × (e ≡ d)
  also_whole whole whole2 left left2 a b d there =
      let c = is_chosen whole left a d there in
      let e = b.complete c.0 d c.1.found in
      let f = is_chosen whole2 left2 b e.0 e.1 in
      (e.0, e.1, chosen_once f.0 c.0 e.0 d f.1 c.1 e.2)

  map_same : (ds es : List DumpRecordFields) → map (λ (d : DumpRecordFields). d) ds ≡ map (λ (d : DumpRecordFields). d) es → ds ≡ es
  map_same [] [] same = refl
  map_same [] (e ∷ es) same = absurd (cc)
  map_same (d ∷ ds) [] same = absurd (cc)
  map_same (d ∷ ds) (e ∷ es) same =
      let rest : map (λ (x : DumpRecordFields). x) ds ≡ map (λ (x : DumpRecordFields). x) es = cc in
      let all : ds ≡ es = map_same ds es rest in
      cc

  pub whole_once : (whole whole2 : List DumpRecordFields) (left left2 : List Located) → Scanned slots whole left → Scanned slots whole2 left2 → whole ≡ whole2
  whole_once whole whole2 left left2 a b =
      map_same whole whole2
      (same_keys (λ (d : DumpRecordFields). d) (λ (d e : DumpRecordFields). d.id < e.id) (λ d e lt same. absurd (omega (arith, lt, ap (λ (x : DumpRecordFields). x.id) same)))
      (λ d e lt f g same same2 lt2. absurd (omega (arith, lt, lt2, ap (λ (x : DumpRecordFields). x.id) same, ap (λ (x : DumpRecordFields). x.id) same2)))
      whole whole2 a.ascending b.ascending (also_whole whole whole2 left left2 a b) (also_whole whole2 whole left2 left b a))

  -- ---- what is left over

  places_same : (l m : Located) (h : DumpHeadFields) → l.slot ≡ m.slot → l.found.first ≡ m.found.first → l.found.part.head ≡ m.found.part.head → place_of l ≡ place_of m
  places_same l m h slot first head = cc

  one_head : (l m : Located) → IsBegunAt slots l → IsBegunAt slots m → IsSame l m → place_of l ≡ place_of m
  one_head l m a b same =
      let slot : a.here ≡ b.here = some_slot a.here b.here (sym a.at ∙ ap (λ (n : ℕ). slice_get slots n) same.0 ∙ b.at) in
      let heads : Some (Says (frames.DumpHead l.found.part.head)) ≡ Some (Says (frames.DumpHead m.found.part.head)) =
      sym (begun_head a.here.items l.found a.begun) ∙ ap (λ (s : Slot). slice_get s.items l.found.first) slot ∙ ap (λ (n : ℕ). slice_get b.here.items n) same.1 ∙ begun_head b.here.items m.found b.begun in
      let head : l.found.part.head ≡ m.found.part.head = cc in
      places_same l m m.found.part.head same.0 same.1 head

  also_left : (whole whole2 : List DumpRecordFields) (left left2 : List Located) → Scanned slots whole left → Scanned slots whole2 left2 → (l : Located) → Contains left l → (m : Located) × Contains left2 m × (place_of m ≡ place_of l)
  also_left whole whole2 left left2 a b l there =
      let begun = a.left_over l there in
      let m = b.all_left l begun.0 begun.1 in
      (m.0, m.1, one_head m.0 l (b.left_over m.0 m.1).0 begun.0 (sym m.2.0, sym m.2.1))

  not_same : (l m : Located) → IsEarlier l m → place_of l ≡ place_of m → ⊥
  not_same l m (inl lt) same = absurd (omega (arith, lt, ap (λ (p : Place). p.slot) same))
  not_same l m (inr both) same = absurd (omega (arith, both.1, ap (λ (p : Place). p.first) same))

  not_swapped : (l m : Located) → IsEarlier l m → (a b : Located) → place_of a ≡ place_of l → place_of b ≡ place_of m → IsEarlier b a → ⊥
  not_swapped l m (inl lt) a b same same2 (inl lt2) = absurd (omega (arith, lt, lt2, ap (λ (p : Place). p.slot) same, ap (λ (p : Place). p.slot) same2))
  not_swapped l m (inl lt) a b same same2 (inr both) = absurd (omega (arith, lt, both.0, ap (λ (p : Place). p.slot) same, ap (λ (p : Place). p.slot) same2))
  not_swapped l m (inr both) a b same same2 (inl lt2) = absurd (omega (arith, both.0, lt2, ap (λ (p : Place). p.slot) same, ap (λ (p : Place). p.slot) same2))
  not_swapped l m (inr both) a b same same2 (inr both2) = absurd (omega (arith, both.1, both2.1, ap (λ (p : Place). p.first) same, ap (λ (p : Place). p.first) same2))

  pub left_once : (whole whole2 : List DumpRecordFields) (left left2 : List Located) → Scanned slots whole left → Scanned slots whole2 left2 → map place_of left ≡ map place_of left2
  left_once whole whole2 left left2 a b = same_keys place_of IsEarlier not_same not_swapped left left2 a.in_order b.in_order (also_left whole whole2 left left2 a b) (also_left whole2 whole left2 left b a)
