-- Begun and closed parts of a tape, and what is found whole of them.
use Rattle.std.proofs.Common.{◌≡◌, ◌⊎◌, ℕ, zero, suc, ◌+◌, ◌<◌, ◌≤◌, Some, List, [], ◌∷◌, ◌++◌, length, map, take, drop, refl, sym, ap, subst, ◌∙◌, arith, inl, inr, append_assoc, append-nil, length-append, length-take}
use Rattle.std.specs.Prelude.{◌↔◌, All, Contains, slice_get}
use Rattle.std.specs.List.{flat_map}
use Rattle.std.proofs.lemmas.List.{take_all, take-append-drop}
use Rattle.std.proofs.lemmas.List.Elements.{All-head, All-tail, All-contains}
use Rattle.tape_frames.specs.declared.frame.Frame.TheVariants as frames
use Rattle.budb_changes.specs.declared.records.DumpRecordFields.{DumpRecordFields}
use Rattle.tape_text.specs.Items.{Item, Says}
use Rattle.tape_text.specs.Texts.{Part, part_items, tape_items, Linked, IsText}
use Rattle.tape_text.specs.Parts.{FoundPart, part_len, part_marks, parts_at, parts_of}
use Rattle.tape_text.specs.Wholes.{NextTape, EndsWhole, record_by}
use Rattle.tape_scan.specs.Scans.{Scan, closed, IsClosedIn, IsBegunIn}
use Rattle.tape_scan.specs.Slots.{Slot, Located, IsClosedAt, IsBegunAt, IsFound, AreHeadsOnce}
use Rattle.tape_text.proofs.TextLaws.{parts_front, front_is_text}
use Rattle.tape_scan.proofs.ListLaws.{take_of_append, take_of_take, either}
use Rattle.tape_scan.proofs.ScanLaws.{parts_end, scan_finds}
use Rattle.tape_scan.proofs.FrontLaws.{closed_stands}
use Rattle.tape_scan.proofs.PlaceLaws.{parts_amid, head_stands, part_long}
use Rattle.tape_scan.proofs.OpenLaws.{behind_label, parts_within}

pub closed_within : (items : List Item) (p : FoundPart) → IsClosedIn items p → p.end ≤ length items
closed_within items p c =
    let ends : p.end ≤ 2 + length (flat_map part_items c.tape.parts) = All-contains (λ (q : FoundPart). q.end ≤ 2 + length (flat_map part_items c.tape.parts)) (parts_of c.tape) p (parts_end 2 1 c.tape.parts) c.there in
    omega (arith, ends, ap length c.front, length-take p.end items)

pub closed_by_front : (items others : List Item) (p : FoundPart) → take p.end others ≡ take p.end items → IsClosedIn items p → IsClosedIn others p
closed_by_front items others p same c = record { tape = c.tape; is = c.is; there = c.there; front = same ∙ c.front }

-- a scan finds just the closed parts
pub scanned_closed : (items : List Item) (s : Scan items) (p : FoundPart) → Contains (closed s) p ↔ IsClosedIn items p
scanned_closed items s p = (
  (λ there. (let c = closed_stands items s p there in record { tape = c.0; is = c.1; there = c.2; front = c.3 })),
  (λ c. scan_finds items s c.tape p.end c.is c.front p c.there),
)

pub closed_is_begun : (items : List Item) (p : FoundPart) → IsClosedIn items p → IsBegunIn items p
closed_is_begun items p c =
    let at = parts_amid 2 1 c.tape.parts p c.there in
    let long : 3 ≤ part_len p.part = part_long p.part in record {
      count = p.end;
      within = closed_within items p c;
      text = record { whole = c.tape; more = []; is = c.is; joined = sym c.front ∙ sym (append-nil (take p.end items)) };
      there = c.there;
      begun = omega (arith, at.3, long);
    }

at_begun : (slots : List Slot) (l : Located) → IsClosedAt slots l → IsBegunAt slots l
at_begun slots l c = record { here = c.here; at = c.at; begun = closed_is_begun c.here.items l.found c.closed }

unique_first : (at marks : ℕ) (ps : List Part) (p q : FoundPart) → Contains (parts_at at marks ps) p → Contains (parts_at at marks ps) q → p.first ≡ q.first → p ≡ q
unique_first at marks [] p q a b same = absurd (omega (arith, a.1))
unique_first at marks (x ∷ ps) p q (zero, within, is) (zero, within2, is2) same = sym is ∙ is2
unique_first at marks (x ∷ ps) p q (zero, within, is) (suc k, within2, is2) same =
    let first : p.first ≡ at = ap (λ (y : FoundPart). y.first) (sym is) in
    let later = parts_amid (at + part_len x) (marks + part_marks x) ps q (k, omega (arith, within2), is2) in
    absurd (omega (arith, first, later.1, same, part_long x))
unique_first at marks (x ∷ ps) p q (suc k, within, is) (zero, within2, is2) same =
    let first : q.first ≡ at = ap (λ (y : FoundPart). y.first) (sym is2) in
    let later = parts_amid (at + part_len x) (marks + part_marks x) ps p (k, omega (arith, within), is) in
    absurd (omega (arith, first, later.1, same, part_long x))
unique_first at marks (x ∷ ps) p q (suc k, within, is) (suc j, within2, is2) same = unique_first (at + part_len x) (marks + part_marks x) ps p q (k, omega (arith, within), is) (j, omega (arith, within2), is2) same

pub in_longer : (items : List Item) (p q : FoundPart) (c : IsClosedIn items p) (e : IsClosedIn items q) → p.end ≤ q.end → Contains (parts_of e.tape) p
in_longer items p q c e le =
    let short : take p.end (tape_items e.tape) ≡ tape_items c.tape = ap (λ (l : List Item). take p.end l) (sym e.front) ∙ take_of_take p.end q.end items le ∙ c.front in
    let split : tape_items e.tape ≡ tape_items c.tape ++ drop p.end (tape_items e.tape) = sym (take-append-drop p.end (tape_items e.tape)) ∙ ap (λ (l : List Item). l ++ drop p.end (tape_items e.tape)) short in
    let more = parts_front e.tape.parts c.tape.parts (drop p.end (tape_items e.tape)) (behind_label e.tape c.tape (drop p.end (tape_items e.tape)) split) in
    parts_within e.tape c.tape more.0 p more.1 c.there

-- closed parts at one place are the same
pub same_place : (items : List Item) (p q : FoundPart) → IsClosedIn items p → IsClosedIn items q → p.first ≡ q.first → p ≡ q
same_place items p q c e same = elim (either p.end q.end) [
  | inl lt ↦ unique_first 2 1 e.tape.parts p q (in_longer items p q c e (omega (arith, lt))) e.there same
  | inr le ↦ unique_first 2 1 c.tape.parts p q c.there (in_longer items q p e c le) same
]

longer_text : (n : ℕ) (xs ys : List Item) (text : IsText (take n xs)) → n ≤ length xs → (u : IsText (take n (xs ++ ys))) × (u.whole ≡ text.whole)
longer_text n xs ys text le = (record { whole = text.whole; more = text.more; is = text.is; joined = text.joined ∙ ap (λ (l : List Item). l ++ text.more) (sym (take_of_append n xs ys le)) }, refl)

-- what is begun on a tape is begun on a longer one
pub begun_longer : (xs ys : List Item) (q : FoundPart) → IsBegunIn xs q → IsBegunIn (xs ++ ys) q
begun_longer xs ys q b = record {
  count = b.count;
  within = omega (arith, b.within, length-append xs ys);
  text = record { whole = b.text.whole; more = b.text.more; is = b.text.is; joined = b.text.joined ∙ ap (λ (l : List Item). l ++ b.text.more) (sym (take_of_append b.count xs ys b.within)) };
  there = b.there;
  begun = b.begun;
}

item_at_end : (xs : List Item) (i : Item) (ys : List Item) → slice_get (xs ++ i ∷ ys) (length xs) ≡ Some i
item_at_end [] i ys = refl
item_at_end (x ∷ xs) i ys = item_at_end xs i ys

take_own : (xs ys : List Item) → take (length xs) (xs ++ ys) ≡ xs
take_own [] ys = refl
take_own (x ∷ xs) ys = ap (λ (l : List Item). x ∷ l) (take_own xs ys)

-- what is begun on a tape with a record more was begun before, or the record is its head
pub begun_put : (items : List Item) (i : Item) (q : FoundPart) → IsBegunIn (items ++ i ∷ []) q → IsBegunIn items q ⊎ ((q.first ≡ length items) × (i ≡ Says (frames.DumpHead q.part.head)))
begun_put items i q b = elim (either b.count (suc (length items))) [
  | inl short ↦ inl (record {
    count = b.count;
    within = omega (arith, short);
    text = record { whole = b.text.whole; more = b.text.more; is = b.text.is; joined = b.text.joined ∙ ap (λ (l : List Item). l ++ b.text.more) (take_of_append b.count items (i ∷ []) (omega (arith, short))) };
    there = b.there;
    begun = b.begun;
  })
  | inr full ↦
      (let all : take b.count (items ++ i ∷ []) ≡ items ++ i ∷ [] = take_all b.count (items ++ i ∷ []) (omega (arith, full, length-append items (i ∷ []))) in
      let joined : tape_items b.text.whole ≡ items ++ i ∷ b.text.more = b.text.joined ∙ ap (λ (l : List Item). l ++ b.text.more) all ∙ append_assoc items (i ∷ []) b.text.more in
      elim (either q.first (length items)) [
        | inl before ↦ inl (record {
          count = length items;
          within = omega arith;
          text = record { whole = b.text.whole; more = i ∷ b.text.more; is = b.text.is; joined = joined ∙ ap (λ (l : List Item). l ++ i ∷ b.text.more) (sym (take_all (length items) items (omega arith))) };
          there = b.there;
          begun = before;
        })
        | inr behind ↦
            (let first : q.first ≡ length items = omega (arith, behind, b.begun, b.within, length-append items (i ∷ [])) in
            let head : slice_get (tape_items b.text.whole ++ []) q.first ≡ Some (Says (frames.DumpHead q.part.head)) = head_stands b.text.whole q [] b.there in
            let here : slice_get (tape_items b.text.whole ++ []) q.first ≡ Some i =
            ap (λ (l : List Item). slice_get l q.first) (append-nil (tape_items b.text.whole) ∙ joined) ∙ ap (λ (n : ℕ). slice_get (items ++ i ∷ b.text.more) n) first ∙ item_at_end items i b.text.more in
            let same : Some i ≡ Some (Says (frames.DumpHead q.part.head)) = sym here ∙ head in
            inr (first, cc))
      ])
]

module _ (slots : List Slot) (once : AreHeadsOnce slots) where
  pub same_part : (l m : Located) → IsClosedAt slots l → IsClosedAt slots m → l.found.part.head.id ≡ m.found.part.head.id → l.found.part.head.part ≡ m.found.part.head.part → l.found ≡ m.found
  same_part l m c e id part =
      let same = once l m (at_begun slots l c) (at_begun slots m e) id part in
      let here : Some c.here ≡ Some e.here = sym c.at ∙ ap (λ (n : ℕ). slice_get slots n) same.0 ∙ e.at in
      let slot : c.here ≡ e.here = cc in
      same_place e.here.items l.found m.found (subst (λ (x : Slot). IsClosedIn x.items l.found) slot c.closed) e.closed same.1

  same_parts : (l : Located) (ls : List Located) (m : Located) (ms : List Located) → All (IsClosedAt slots) (l ∷ ls) → All (IsClosedAt slots) (m ∷ ms)
      → Linked NextTape (map (λ x. x.found.part) (l ∷ ls)) → Linked NextTape (map (λ x. x.found.part) (m ∷ ms)) → EndsWhole (map (λ x. x.found.part) (l ∷ ls)) → EndsWhole (map (λ x. x.found.part) (m ∷ ms))
      → l.found.part.head.id ≡ m.found.part.head.id → l.found.part.head.part ≡ m.found.part.head.part → map (λ x. x.found) (l ∷ ls) ≡ map (λ x. x.found) (m ∷ ms)
  same_parts l [] m [] a b x y s t id part = ap (λ (p : FoundPart). p ∷ []) (same_part l m (All-head (IsClosedAt slots) l [] a) (All-head (IsClosedAt slots) m [] b) id part)
  same_parts l [] m (m2 ∷ ms) a b x y s t id part =
      let same = same_part l m (All-head (IsClosedAt slots) l [] a) (All-head (IsClosedAt slots) m (m2 ∷ ms) b) id part in
      absurd (let e : 0 ≡ 1 = sym s ∙ ap (λ (p : FoundPart). p.part.end.more) same ∙ y.0.more in omega (arith, e))
  same_parts l (l2 ∷ ls) m [] a b x y s t id part =
      let same = same_part l m (All-head (IsClosedAt slots) l (l2 ∷ ls) a) (All-head (IsClosedAt slots) m [] b) id part in
      absurd (let e : 1 ≡ 0 = sym x.0.more ∙ ap (λ (p : FoundPart). p.part.end.more) same ∙ t in omega (arith, e))
  same_parts l (l2 ∷ ls) m (m2 ∷ ms) a b x y s t id part =
      let same : l.found ≡ m.found = same_part l m (All-head (IsClosedAt slots) l (l2 ∷ ls) a) (All-head (IsClosedAt slots) m (m2 ∷ ms) b) id part in
      let rest : map (λ x. x.found) (l2 ∷ ls) ≡ map (λ x. x.found) (m2 ∷ ms) =
      same_parts l2 ls m2 ms (All-tail (IsClosedAt slots) l (l2 ∷ ls) a) (All-tail (IsClosedAt slots) m (m2 ∷ ms) b) x.1 y.1 s t (x.0.agree.id ∙ id ∙ sym y.0.agree.id) (x.0.part ∙ ap (λ (n : ℕ). n + 1) part ∙ sym y.0.part) in
      cc

  pub head_id : (l : Located) (ls : List Located) (d : DumpRecordFields) → IsFound slots (l ∷ ls) d → l.found.part.head.id ≡ d.id
  head_id l ls d found = (let e = found.record_is in cc)

  some_same : (d e : DumpRecordFields) → Some d ≡ Some e → d ≡ e
  some_same d e same = cc

  -- what is found whole of an id is one record
  pub found_once : (ps qs : List Located) (d e : DumpRecordFields) → IsFound slots ps d → IsFound slots qs e → d.id ≡ e.id → d ≡ e
  found_once [] qs d e a b same = absurd a.whole.begins
  found_once (l ∷ ls) [] d e a b same = absurd b.whole.begins
  found_once (l ∷ ls) (m ∷ ms) d e a b same =
      let parts = same_parts l ls m ms a.closed b.closed a.whole.linked b.whole.linked a.whole.ends b.whole.ends (head_id l ls d a ∙ same ∙ sym (head_id m ms e b)) (a.whole.begins ∙ sym b.whole.begins) in
      some_same d e (sym a.record_is ∙ ap record_by parts ∙ b.record_is)

-- ---- scans of one tape

not_longer : (items : List Item) (s r : Scan items) → s.count < r.count → ⊥
not_longer items s r lt =
    s.front.stops (omega (arith, lt, r.front.within))
    (subst IsText (take_of_take (s.count + 1) r.count items (omega (arith, lt))) (front_is_text (take r.count items) (s.count + 1) r.front.text))

-- all scans of a tape have one front
pub one_count : (items : List Item) (s r : Scan items) → s.count ≡ r.count
one_count items s r = elim (either s.count r.count) [
  | inl lt ↦ absurd (not_longer items s r lt)
  | inr le ↦ elim (either r.count s.count) [
    | inl lt ↦ absurd (not_longer items r s lt)
    | inr ge ↦ omega (arith, le, ge)
  ]
]

-- and find the same parts
pub scans_agree : (items : List Item) (s r : Scan items) (p : FoundPart) → Contains (closed s) p → Contains (closed r) p
scans_agree items s r p there =
    let stands = closed_stands items s p there in
    scan_finds items r stands.0 p.end stands.1 stands.3 p stands.2
