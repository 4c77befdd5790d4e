-- What is left of tapes after a cut, after a crash, and when dumps are forgotten: the dumps that are still there are kept.
use Rattle.std.proofs.Common.{◌≡◌, ◌⊎◌, ℕ, zero, suc, ◌+◌, ◌-◌, ◌<◌, ◌≤◌, Bool, true, false, Some, List, [], ◌∷◌, ◌++◌, length, map, take, drop, refl, sym, ap, subst, ◌∙◌, arith, inl, inr, append_assoc, append-nil, length-append}
use Rattle.std.specs.Prelude.{Result, All, Contains, slice_get, find, ◌==◌, ◌&&◌, ◌||◌}
use Rattle.std.specs.List.{flat_map, list_any, list_all}
use Rattle.std.proofs.lemmas.Bool.{cases_Bool, and_parts, and_from, eqb-true, eq-eqb}
use Rattle.std.proofs.lemmas.List.{take-append-drop}
use Rattle.std.proofs.lemmas.List.Elements.{All-nil, All-cons, All-head, All-tail, All-contains}
use Rattle.vnode_model.specs.declared.volumes.VolumeFields.{VolumeFields}
use Rattle.tape_frames.specs.declared.frame.Frame.TheVariants as frames
use Rattle.budb_changes.specs.declared.records.TapePart.{TapePart}
use Rattle.budb_changes.specs.declared.records.DumpRecordFields.{DumpRecordFields}
use Rattle.budb_fold.specs.Database.{is_dump, has_dump}
use Rattle.tape_text.specs.Items.{Item, Says, Filemark, Nothing}
use Rattle.tape_text.specs.Texts.{Part, fragment_items, part_items, tape_items}
use Rattle.tape_text.specs.Parts.{FoundPart, part_len}
use Rattle.tape_text.specs.Wholes.{tape_part}
use Rattle.tape_scan.specs.Slots.{Slot, Located, IsClosedAt, IsBegunAt, IsFound, AreHeadsOnce}
use Rattle.archive_model.specs.Holding.{place_of, holds_at, holds, HasNoHead}
use Rattle.archive_model.specs.Archives.{Refusal, IsUnlisted, AreDumps, IsHeld, IsKept}
use Rattle.tape_scan.specs.Scans.{IsClosedIn, IsBegunIn}
use Rattle.archive_model.specs.Turns.{is_filemark, is_there, remaining}
use Rattle.archive_model.proofs.Alike.{AreAlike, AreLeft}
use Rattle.tape_scan.proofs.ListLaws.{contains_filter, take_of_append, contains_map, of_filter}
use Rattle.tape_scan.proofs.ScanLaws.{part_length}
use Rattle.tape_scan.proofs.PlaceLaws.{Amid, amid_again, amid_behind, amid_more, parts_amid, item_amid}
use Rattle.archive_model.proofs.KeepLaws.{held_before}
use Rattle.tape_scan.proofs.ClosedLaws.{closed_within, closed_by_front, begun_put, begun_longer}
use Rattle.archive_model.proofs.FoundLaws.{found_on, part_lies, lies_held, own_place, whole_linked, tapes_of_found, contains_found}
use Rattle.archive_model.proofs.SlotLaws.{in_map}
use Rattle.archive_model.proofs.QuietLaws.{held_longer, quiet_keeps}
use Rattle.archive_model.proofs.PutLaws.{closed_put}

-- ---- tests of lists

pub any_is : {X : Type 0} (test : X → Bool) (xs : List X) → list_any test xs ≡ true → (x : X) × Contains xs x × (test x ≡ true)
any_is test [] is = absurd (cc)
any_is test (x ∷ xs) is = elim (cases_Bool (test x)) [
  | inl hit ↦ (x, (0, omega arith, refl), hit)
  | inr miss ↦
      (let rest = any_is test xs (rw miss at is) in
      (rest.0, (suc rest.1.0, omega (arith, rest.1.1), rest.1.2), rest.2))
]

pub any_from : {X : Type 0} (test : X → Bool) (xs : List X) (x : X) → Contains xs x → test x ≡ true → list_any test xs ≡ true
any_from test [] x there hit = absurd (omega (arith, there.1))
any_from test (y ∷ xs) x (zero, within, is) hit = (let here : test y ≡ true = ap test is ∙ hit in rw here refl)
any_from test (y ∷ xs) x (suc k, within, is) hit = elim (cases_Bool (test y)) [
  | inl here ↦ rw here refl
  | inr miss ↦ rw miss (any_from test xs x (k, omega (arith, within), is) hit)
]

all_is : {X : Type 0} (test : X → Bool) (xs : List X) (x : X) → list_all test xs ≡ true → Contains xs x → test x ≡ true
all_is test [] x all there = absurd (omega (arith, there.1))
all_is test (y ∷ xs) x all (zero, within, is) = ap test (sym is) ∙ (and_parts (test y) (list_all test xs) all).0
all_is test (y ∷ xs) x all (suc k, within, is) = all_is test xs x (and_parts (test y) (list_all test xs) all).1 (k, omega (arith, within), is)

all_from : {X : Type 0} (test : X → Bool) (xs : List X) → ((x : X) → Contains xs x → test x ≡ true) → list_all test xs ≡ true
all_from test [] each = refl
all_from test (y ∷ xs) each = and_from (test y) (list_all test xs) (each y (0, omega arith, refl)) (all_from test xs (λ x there. each x (suc there.0, omega (arith, there.1), there.2)))

slot_at : (slots : List Slot) (s : Slot) → Contains slots s → (k : ℕ) × (slice_get slots k ≡ Some s)
slot_at [] s there = absurd (omega (arith, there.1))
slot_at (t ∷ slots) s (zero, within, is) = (0, ap (λ (x : Slot). Some x) is)
slot_at (t ∷ slots) s (suc k, within, is) = (let rest = slot_at slots s (k, omega (arith, within), is) in (suc rest.0, rest.1))

slot_there : (slots : List Slot) (k : ℕ) (s : Slot) → slice_get slots k ≡ Some s → Contains slots s
slot_there [] k s at = absurd (cc)
slot_there (t ∷ slots) zero s at = (0, omega arith, cc)
slot_there (t ∷ slots) (suc k) s at = (let rest = slot_there slots k s at in (suc rest.0, omega (arith, rest.1), rest.2))

-- ---- what is left of a tape

module _ (items new common rest : List Item) (count : ℕ) (front : common ≡ take count items) (torn : (rest ≡ []) ⊎ (rest ≡ Nothing ∷ [])) (is : new ≡ common ++ rest) where
  whole : items ≡ common ++ drop count items
  whole = sym (take-append-drop count items) ∙ ap (λ (l : List Item). l ++ drop count items) (sym front)

  pub closed_common : (q : FoundPart) → IsClosedIn new q → IsClosedIn common q
  closed_common q c = elim torn [
    | inl clean ↦ subst (λ (l : List Item). IsClosedIn l q) (is ∙ ap (λ (l : List Item). common ++ l) clean ∙ append-nil common) c
    | inr ragged ↦ closed_put common Nothing q (λ mark. absurd (cc)) (subst (λ (l : List Item). IsClosedIn l q) (is ∙ ap (λ (l : List Item). common ++ l) ragged) c)
  ]

  pub closed_left : (q : FoundPart) → IsClosedIn new q → IsClosedIn items q
  closed_left q c =
      let short = closed_common q c in
      closed_by_front common items q (ap (λ (l : List Item). take q.end l) whole ∙ take_of_append q.end common (drop count items) (closed_within common q short)) short

  begun_common : (q : FoundPart) → IsBegunIn new q → IsBegunIn common q
  begun_common q b = elim torn [
    | inl clean ↦ subst (λ (l : List Item). IsBegunIn l q) (is ∙ ap (λ (l : List Item). common ++ l) clean ∙ append-nil common) b
    | inr ragged ↦ elim (begun_put common Nothing q (subst (λ (l : List Item). IsBegunIn l q) (is ∙ ap (λ (l : List Item). common ++ l) ragged) b)) [
      | inl before ↦ before
      | inr head ↦ absurd (let same : Nothing ≡ Says (frames.DumpHead q.part.head) = head.1 in cc)
    ]
  ]

  pub begun_left : (q : FoundPart) → IsBegunIn new q → IsBegunIn items q
  begun_left q b = subst (λ (l : List Item). IsBegunIn l q) (sym whole) (begun_longer common (drop count items) q (begun_common q b))

  pub no_head : (id : ℕ) → HasNoHead id rest
  no_head id = elim torn [
    | inl clean ↦ subst (HasNoHead id) (sym clean) tt
    | inr ragged ↦ subst (HasNoHead id) (sym ragged) tt
  ]

  pub held_left : (d : DumpRecordFields) (tape : ℕ) → holds d tape new ≡ true → holds d tape items ≡ true
  held_left d tape held =
      let short : holds_at (place_of d tape) d tape common ≡ true = held_before (place_of d tape) d tape common rest (no_head d.id) (ap (λ (l : List Item). holds d tape l) (sym is) ∙ held) in
      ap (λ (l : List Item). holds d tape l) whole ∙ held_longer (place_of d tape) d tape common (drop count items) short

  -- a filemark that is left was there
  mark_in : (n : ℕ) (xs ys : List Item) → (ys ≡ []) ⊎ (ys ≡ Nothing ∷ []) → is_filemark (slice_get (xs ++ ys) n) ≡ true → n < length xs
  mark_in n [] ys (inl clean) mark = absurd (let gone : is_filemark (slice_get [] n) ≡ true = subst (λ (l : List Item). is_filemark (slice_get l n) ≡ true) clean mark in cc)
  mark_in zero [] ys (inr ragged) mark = absurd (let gone : is_filemark (slice_get (Nothing ∷ []) 0) ≡ true = subst (λ (l : List Item). is_filemark (slice_get l 0) ≡ true) ragged mark in cc)
  mark_in (suc n) [] ys (inr ragged) mark = absurd (let gone : is_filemark (slice_get (Nothing ∷ []) (suc n)) ≡ true = subst (λ (l : List Item). is_filemark (slice_get l (suc n)) ≡ true) ragged mark in cc)
  mark_in zero (x ∷ xs) ys t mark = omega arith
  mark_in (suc n) (x ∷ xs) ys t mark = (let rest = mark_in n xs ys t mark in omega (arith, rest))

  pub mark_common : (n : ℕ) → is_filemark (slice_get new n) ≡ true → n < length common
  mark_common n mark = mark_in n common rest torn (ap (λ (l : List Item). is_filemark (slice_get l n)) (sym is) ∙ mark)

-- ---- a closed part's last item

before_mark : Part → List Item
before_mark p = Says (frames.DumpHead p.head) ∷ flat_map fragment_items p.fragments ++ Says (frames.DumpEnd p.end) ∷ []

part_shape : (p : Part) → part_items p ≡ before_mark p ++ Filemark ∷ []
unfolding before_mark
part_shape p = sym (append_assoc (Says (frames.DumpHead p.head) ∷ flat_map fragment_items p.fragments) (Says (frames.DumpEnd p.end) ∷ []) (Filemark ∷ []))

pub closed_mark : (items : List Item) (q : FoundPart) → IsClosedIn items q → is_filemark (slice_get items (q.end - 1)) ≡ true
closed_mark items q c =
    let p = parts_amid 2 1 c.tape.parts q c.there in
    let here : Amid (part_items q.part) (Filemark ∷ []) (length (before_mark q.part)) =
    subst (λ (l : List Item). Amid l (Filemark ∷ []) (length (before_mark q.part))) (sym (part_shape q.part)) (record { before = before_mark q.part; behind = []; joined = refl; count = refl }) in
    let in_tape : Amid (tape_items c.tape) (Filemark ∷ []) (2 + (p.0 + length (before_mark q.part))) =
    amid_behind (Says (frames.Label c.tape.label) ∷ Filemark ∷ []) (flat_map part_items c.tape.parts) (Filemark ∷ []) (p.0 + length (before_mark q.part)) (amid_again (flat_map part_items c.tape.parts) (part_items q.part) (Filemark ∷ []) p.0 (length (before_mark q.part)) p.2 here) in
    let all : items ≡ tape_items c.tape ++ drop q.end items = sym (take-append-drop q.end items) ∙ ap (λ (l : List Item). l ++ drop q.end items) c.front in
    let in_items : Amid items (Filemark ∷ []) (2 + (p.0 + length (before_mark q.part))) = subst (λ (l : List Item). Amid l (Filemark ∷ []) (2 + (p.0 + length (before_mark q.part)))) (sym all) (amid_more (tape_items c.tape) (Filemark ∷ []) (drop q.end items) (2 + (p.0 + length (before_mark q.part))) in_tape) in
    let long : part_len q.part ≡ length (before_mark q.part) + 1 = sym (part_length q.part) ∙ ap length (part_shape q.part) ∙ length-append (before_mark q.part) (Filemark ∷ []) in
    let place : 2 + (p.0 + length (before_mark q.part)) ≡ q.end - 1 = omega (arith, p.1, p.3, long) in
    ap is_filemark (subst (λ (n : ℕ). slice_get items n ≡ Some Filemark) place (item_amid items Filemark [] (2 + (p.0 + length (before_mark q.part))) in_items))

-- ---- the law

module _ (listed listed2 records : List DumpRecordFields) (slots slots2 : List Slot) (contents : ℕ → List ℕ → Result VolumeFields Refusal) (kept : IsKept listed slots contents records)
    (listed_stay : (d : DumpRecordFields) → Contains listed2 d → Contains listed d) (left : AreLeft listed2 slots slots2) where
  before : (d : DumpRecordFields) (tape k : ℕ) (s : Slot) (at : slice_get slots2 k ≡ Some s) → holds d tape s.items ≡ true → holds d tape (left k s at).here.items ≡ true
  before d tape k s at held = (let a = left k s at in held_left a.here.items s.items (take a.count a.here.items) a.rest a.count refl a.torn a.is d tape held)

  closed_before : (l : Located) → IsClosedAt slots2 l → IsClosedAt slots l
  closed_before l c =
      let a = left l.slot c.here c.at in
      record { here = a.here; at = a.at; closed = closed_left a.here.items c.here.items (take a.count a.here.items) a.rest a.count refl a.torn a.is l.found c.closed }

  all_closed_before : (parts : List Located) → All (IsClosedAt slots2) parts → All (IsClosedAt slots) parts
  all_closed_before [] closed = All-nil (IsClosedAt slots)
  all_closed_before (l ∷ parts) closed = All-cons (IsClosedAt slots) l parts (closed_before l (All-head (IsClosedAt slots2) l parts closed)) (all_closed_before parts (All-tail (IsClosedAt slots2) l parts closed))

  found_before : (parts : List Located) (d : DumpRecordFields) → IsFound slots2 parts d → IsFound slots parts d
  found_before parts d found = record { closed = all_closed_before parts found.closed; whole = found.whole; record_is = found.record_is }

  begun_before : (l : Located) → IsBegunAt slots2 l → IsBegunAt slots l
  begun_before l b =
      let a = left l.slot b.here b.at in
      record { here = a.here; at = a.at; begun = begun_left a.here.items b.here.items (take a.count a.here.items) a.rest a.count refl a.torn a.is l.found b.begun }

  heads : AreHeadsOnce slots2
  heads l m a b id part = kept.heads_once l m (begun_before l a) (begun_before m b) id part

  -- each dump that is there was there
  was : (d : DumpRecordFields) → Contains listed2 d ⊎ IsUnlisted listed2 slots2 d → Contains records d
  was d (inl is_listed) = kept.dumps.complete d (inl (listed_stay d is_listed))
  was d (inr un) = elim (cases_Bool (has_dump listed d.id)) [
    | inl some ↦
        (let e = any_is (is_dump d.id) listed some in
        let same : d ≡ e.0 = kept.agree e.0 d un.parts e.1 (found_before un.parts d un.found) (sym (eqb-true e.0.id d.id e.2)) in
        kept.dumps.complete d (inl (subst (Contains listed) (sym same) e.1)))
    | inr none ↦ kept.dumps.complete d (inr (record { parts = un.parts; found = found_before un.parts d un.found; unlisted = none; above = un.above }))
  ]

  ends_found : (d : DumpRecordFields) (tape k : ℕ) (s : Slot) (p : TapePart) (at : slice_get slots2 k ≡ Some s) → IsUnlisted listed2 slots2 d → place_of d tape ≡ Some p → holds d tape s.items ≡ true → p.end ≤ length (take (left k s at).count (left k s at).here.items)
  ends_found d tape k s p at un place held =
      let on = found_on slots2 un.parts d tape p un.found place in
      let b = left on.part.slot on.closed.here on.closed.at in
      let a = left k s at in
      let same : on.part.slot ≡ k = kept.held_once d tape on.part.slot k b.here a.here (was d (inr un)) b.at a.at (before d tape on.part.slot on.closed.here on.closed.at on.held) (before d tape k s at held) in
      let here : Some on.closed.here ≡ Some s = sym on.closed.at ∙ ap (λ (n : ℕ). slice_get slots2 n) same ∙ at in
      let slot : on.closed.here ≡ s = cc in
      let closed : IsClosedIn s.items on.part.found = subst (λ (x : Slot). IsClosedIn x.items on.part.found) slot on.closed.closed in
      let short : on.part.found.end ≤ length (take a.count a.here.items) = closed_within (take a.count a.here.items) on.part.found (closed_common a.here.items s.items (take a.count a.here.items) a.rest a.count refl a.torn a.is on.part.found closed) in
      let end : on.part.found.end ≡ p.end = ap (λ (x : TapePart). x.end) on.place in
      omega (arith, short, end)

  module _ (records2 : List DumpRecordFields) (dumps : AreDumps listed2 slots2 records2) where
    ends_of : (d : DumpRecordFields) (tape k : ℕ) (s : Slot) (p : TapePart) (at : slice_get slots2 k ≡ Some s) → Contains listed2 d ⊎ IsUnlisted listed2 slots2 d → place_of d tape ≡ Some p → holds d tape s.items ≡ true → p.end ≤ length (take (left k s at).count (left k s at).here.items)
    ends_of d tape k s p at (inl is_listed) place held = (left k s at).ends d tape p is_listed place held
    ends_of d tape k s p at (inr un) place held = ends_found d tape k s p at un place held

    alike : AreAlike records2 slots slots2
    alike k s at = (let a = left k s at in record {
      here = a.here;
      at = a.at;
      common = take a.count a.here.items;
      gone = drop a.count a.here.items;
      more = a.rest;
      old_is = sym (take-append-drop a.count a.here.items);
      new_is = a.is;
      heads = λ d there. no_head a.here.items s.items (take a.count a.here.items) a.rest a.count refl a.torn a.is d.id;
      ends = λ d tape p there place held. ends_of d tape k s p at (dumps.sound d there) place held;
    })

    pub left_keeps : IsKept listed2 slots2 contents records2
    left_keeps = quiet_keeps listed listed2 records records2 slots slots2 contents kept (λ d there. was d (dumps.sound d there)) listed_stay (λ d there. dumps.complete d (inl there)) alike dumps heads found_before

  -- ---- which dumps are left

  there_at : (d : DumpRecordFields) (p : TapePart) → is_there slots2 d ≡ true → Contains d.tapes p → (k : ℕ) × (s : Slot) × (slice_get slots2 k ≡ Some s) × (holds d p.tape s.items ≡ true) × (is_filemark (slice_get s.items (p.end - 1)) ≡ true)
  there_at d p there tape =
      let one = any_is (λ (s : Slot). holds d p.tape s.items && is_filemark (slice_get s.items (p.end - 1))) slots2 (all_is (λ (x : TapePart). list_any (λ (s : Slot). holds d x.tape s.items && is_filemark (slice_get s.items (x.end - 1))) slots2) d.tapes p there tape) in
      let both = and_parts (holds d p.tape one.0.items) (is_filemark (slice_get one.0.items (p.end - 1))) one.2 in
      let k = slot_at slots2 one.0 one.1 in
      (k.0, one.0, k.1, both.0, both.1)

  held_there : (d : DumpRecordFields) → is_there slots2 d ≡ true → IsHeld d slots
  held_there d there p tape = (let at = there_at d p there tape in (at.0, (left at.0 at.1 at.2).here, (left at.0 at.1 at.2).at, before d p.tape at.0 at.1 at.2 at.3))

  part_left : (d : DumpRecordFields) (parts : List Located) (l : Located) → Contains records d → is_there slots2 d ≡ true → IsFound slots parts d → Contains parts l → IsClosedAt slots2 l
  part_left d parts l record_there there found member =
      let c : IsClosedAt slots l = All-contains (IsClosedAt slots) parts l found.closed member in
      let in_parts : Contains (map (λ x. x.found) parts) l.found = contains_found parts l member in
      let tape : Contains d.tapes (tape_part l.found) = subst (λ (ts : List TapePart). Contains ts (tape_part l.found)) (sym (tapes_of_found slots parts d found)) (in_map tape_part (map (λ x. x.found) parts) l.found in_parts) in
      let place : place_of d l.found.part.head.tape ≡ Some (tape_part l.found) =
      ap (λ (ts : List TapePart). find (λ x. x.tape == l.found.part.head.tape) ts) (tapes_of_found slots parts d found) ∙ own_place (map (λ x. x.found) parts) l.found (whole_linked slots parts d found) in_parts in
      let held : holds d l.found.part.head.tape c.here.items ≡ true = lies_held d l.found.part.head.tape (tape_part l.found) c.here.items place refl (part_lies slots parts d l c found member) in
      let at = there_at d (tape_part l.found) there tape in
      let a = left at.0 at.1 at.2 in
      let same : at.0 ≡ l.slot = kept.held_once d l.found.part.head.tape at.0 l.slot a.here c.here record_there a.at c.at (before d l.found.part.head.tape at.0 at.1 at.2 at.3) held in
      let here : Some c.here ≡ Some a.here = sym c.at ∙ ap (λ (n : ℕ). slice_get slots n) (sym same) ∙ a.at in
      let slot : c.here ≡ a.here = cc in
      let old : IsClosedIn a.here.items l.found = subst (λ (x : Slot). IsClosedIn x.items l.found) slot c.closed in
      let short : l.found.end - 1 < length (take a.count a.here.items) = mark_common a.here.items at.1.items (take a.count a.here.items) a.rest a.count refl a.torn a.is (l.found.end - 1) at.4 in
      let front : take l.found.end at.1.items ≡ take l.found.end a.here.items =
      ap (λ (x : List Item). take l.found.end x) a.is ∙ take_of_append l.found.end (take a.count a.here.items) a.rest (omega (arith, short)) ∙ sym (take_of_append l.found.end (take a.count a.here.items) (drop a.count a.here.items) (omega (arith, short)))
      ∙ ap (λ (x : List Item). take l.found.end x) (take-append-drop a.count a.here.items) in
      record { here = at.1; at = ap (λ (n : ℕ). slice_get slots2 n) (sym same) ∙ at.2; closed = closed_by_front a.here.items at.1.items l.found front old }

  all_left : (parts : List Located) → ((l : Located) → Contains parts l → IsClosedAt slots2 l) → All (IsClosedAt slots2) parts
  all_left [] each = All-nil (IsClosedAt slots2)
  all_left (l ∷ parts) each = All-cons (IsClosedAt slots2) l parts (each l (0, omega arith, refl)) (all_left parts (λ m there. each m (suc there.0, omega (arith, there.1), there.2)))

  found_left : (d : DumpRecordFields) (parts : List Located) → Contains records d → is_there slots2 d ≡ true → IsFound slots parts d → IsFound slots2 parts d
  found_left d parts record_there there found = record { closed = all_left parts (λ l member. part_left d parts l record_there there found member); whole = found.whole; record_is = found.record_is }

  module _ (parents : (d : DumpRecordFields) → Contains listed d → d.parent < d.id) where
    still : (d : DumpRecordFields) → Contains records d → is_there slots2 d ≡ true → has_dump listed2 d.id ≡ false → IsUnlisted listed2 slots2 d
    still d record_there there none = elim (kept.dumps.sound d record_there) [
      | inl is_listed ↦
          (let w = kept.whole d is_listed (held_there d there) in
          record { parts = w.0; found = found_left d w.0 record_there there w.1; unlisted = none; above = parents d is_listed })
      | inr un ↦ record { parts = un.parts; found = found_left d un.parts record_there there un.found; unlisted = none; above = un.above }
    ]

    sound : (d : DumpRecordFields) → Contains (remaining listed2 slots2 records) d → Contains listed2 d ⊎ IsUnlisted listed2 slots2 d
    sound d there =
        let kept_by = of_filter (λ (x : DumpRecordFields). has_dump listed2 x.id || is_there slots2 x) records d there in
        elim (cases_Bool (has_dump listed2 d.id)) [
          | inl some ↦
              (let e = any_is (is_dump d.id) listed2 some in
              let same : e.0 ≡ d = kept.ids_once e.0 d (kept.dumps.complete e.0 (inl (listed_stay e.0 e.1))) kept_by.0 (eqb-true e.0.id d.id e.2) in
              inl (subst (Contains listed2) same e.1))
          | inr none ↦
              (let whole : is_there slots2 d ≡ true = rw none at kept_by.1 in
              inr (still d kept_by.0 whole none))
        ]

    mark_there : (d : DumpRecordFields) (un : IsUnlisted listed2 slots2 d) (p : TapePart) → Contains d.tapes p → list_any (λ (s : Slot). holds d p.tape s.items && is_filemark (slice_get s.items (p.end - 1))) slots2 ≡ true
    mark_there d un p tape =
        let in_parts : Contains (map tape_part (map (λ l. l.found) un.parts)) p = subst (λ (ts : List TapePart). Contains ts p) (tapes_of_found slots2 un.parts d un.found) tape in
        let r = contains_map tape_part (map (λ l. l.found) un.parts) p in_parts in
        let l = contains_map (λ (x : Located). x.found) un.parts r.0 r.1 in
        let c : IsClosedAt slots2 l.0 = All-contains (IsClosedAt slots2) un.parts l.0 un.found.closed l.1 in
        let same : tape_part l.0.found ≡ p = ap tape_part l.2 ∙ r.2 in
        let place : place_of d l.0.found.part.head.tape ≡ Some (tape_part l.0.found) =
        ap (λ (ts : List TapePart). find (λ x. x.tape == l.0.found.part.head.tape) ts) (tapes_of_found slots2 un.parts d un.found) ∙ own_place (map (λ x. x.found) un.parts) l.0.found (whole_linked slots2 un.parts d un.found) (contains_found un.parts l.0 l.1) in
        let held : holds d l.0.found.part.head.tape c.here.items ≡ true = lies_held d l.0.found.part.head.tape (tape_part l.0.found) c.here.items place refl (part_lies slots2 un.parts d l.0 c un.found l.1) in
        let mark : is_filemark (slice_get c.here.items (l.0.found.end - 1)) ≡ true = closed_mark c.here.items l.0.found c.closed in
        let both : (holds d p.tape c.here.items && is_filemark (slice_get c.here.items (p.end - 1))) ≡ true =
        subst (λ (x : TapePart). (holds d x.tape c.here.items && is_filemark (slice_get c.here.items (x.end - 1))) ≡ true) same (and_from (holds d l.0.found.part.head.tape c.here.items) (is_filemark (slice_get c.here.items (l.0.found.end - 1))) held mark) in
        any_from (λ (s : Slot). holds d p.tape s.items && is_filemark (slice_get s.items (p.end - 1))) slots2 c.here (slot_there slots2 l.0.slot c.here c.at) both

    tested : (d : DumpRecordFields) → Contains listed2 d ⊎ IsUnlisted listed2 slots2 d → (has_dump listed2 d.id || is_there slots2 d) ≡ true
    tested d (inl is_listed) = (let some : has_dump listed2 d.id ≡ true = any_from (is_dump d.id) listed2 d is_listed (eq-eqb d.id d.id refl) in rw some refl)
    tested d (inr un) =
        let whole : is_there slots2 d ≡ true = all_from (λ (x : TapePart). list_any (λ (s : Slot). holds d x.tape s.items && is_filemark (slice_get s.items (x.end - 1))) slots2) d.tapes (mark_there d un) in
        elim (cases_Bool (has_dump listed2 d.id)) [
          | inl some ↦ rw some refl
          | inr none ↦ rw none whole
        ]

    -- the dumps that are left are those that are listed, and those whose tapes are held as far as their last filemarks
    pub remaining_dumps : AreDumps listed2 slots2 (remaining listed2 slots2 records)
    remaining_dumps = record {
      sound = sound;
      complete = λ d is. contains_filter (λ (x : DumpRecordFields). has_dump listed2 x.id || is_there slots2 x) records d (was d is) (tested d is);
    }

    pub remaining_kept : IsKept listed2 slots2 contents (remaining listed2 slots2 records)
    remaining_kept = left_keeps (remaining listed2 slots2 records) remaining_dumps
