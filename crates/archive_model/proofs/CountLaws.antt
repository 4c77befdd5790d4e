-- What is found whole over few slots is within the counts of a record.
use Rattle.std.proofs.Common.{◌≡◌, ℕ, zero, suc, ◌+◌, ◌<◌, ◌≤◌, true, false, Some, List, [], ◌∷◌, ◌++◌, length, map, drop, refl, sym, ap, subst, ◌∙◌, arith, inl, inr, append-nil, length-append}
use Rattle.std.specs.Prelude.{All, Contains, filter, slice_get, ◌==◌}
use Rattle.std.specs.List.{flat_map, list_any, AllByRecursion, IsDistinct}
use Rattle.std.proofs.lemmas.Bool.{cases_Bool, eqb-true}
use Rattle.std.proofs.lemmas.List.{length-map, take-append-drop}
use Rattle.std.proofs.lemmas.List.Elements.{All-nil, All-cons, All-head, All-tail, All-contains, filter-append}
use Rattle.std.proofs.lemmas.Map.Steps.{length-le_from_distinct_below}
use Rattle.std.proofs.lemmas.Option.{slice_get_within}
use Rattle.tape_frames.specs.declared.frame.Frame.TheVariants as frames
use Rattle.tape_frames.specs.declared.label.LabelFields.{LabelFields}
use Rattle.tape_frames.specs.Layouts.{FitsDumpHead}
use Rattle.budb_changes.specs.declared.records.Frag.{Frag}
use Rattle.budb_changes.specs.declared.records.VolRecordFields.{VolRecordFields}
use Rattle.budb_changes.specs.declared.records.DumpRecordFields.{DumpRecordFields}
use Rattle.budb_changes.specs.Dumps.{IsNamed, KeepsDump}
use Rattle.budb_changes.specs.Frags.{KeepsFrags}
use Rattle.tape_text.specs.Items.{Item, Says, IsFitItem}
use Rattle.tape_text.specs.Texts.{Fragment, tape_items, Linked, NextFragment, IsPart}
use Rattle.tape_text.specs.Parts.{FoundPart, fragment_len, fragments_at}
use Rattle.tape_text.specs.Wholes.{NextTape, IsWhole, Lying, lying_as, lying_in, frag_of, tape_part, volume_record, volume_records, record_with}
use Rattle.tape_scan.specs.Slots.{Slot, Located, IsClosedAt, IsFound}
use Rattle.archive_model.specs.Clones.{ArePlaced, part_in}
use Rattle.tape_scan.proofs.ListLaws.{contains_map}
use Rattle.tape_scan.proofs.PlaceLaws.{found_part_is, head_stands}
use Rattle.archive_model.proofs.FoundLaws.{map_twice, all_placed}
use Rattle.archive_model.proofs.ManyTapeLaws.{differs}
use Rattle.archive_model.proofs.RecordedLaws.{some_frag}
use Rattle.archive_model.proofs.WholeLaws.{later_of, tail_linked, whole_count}

-- ---- heads

fit_at : (items : List Item) (k : ℕ) (i : Item) → All IsFitItem items → slice_get items k ≡ Some i → IsFitItem i
fit_at [] k i all is = absurd (omega (arith, slice_get_within [] k i is))
fit_at (x ∷ xs) zero i all is = let same : x ≡ i = cc in subst IsFitItem same (All-head IsFitItem x xs all)
fit_at (x ∷ xs) (suc k) i all is = fit_at xs k i (All-tail IsFitItem x xs all) is

-- the head of a closed part has the form of its frame
head_fits : (slots : List Slot) (l : Located) → IsClosedAt slots l → FitsDumpHead l.found.part.head
head_fits slots l c =
    let at : slice_get (tape_items c.closed.tape) l.found.first ≡ Some (Says (frames.DumpHead l.found.part.head)) =
    ap (λ (is : List Item). slice_get is l.found.first) (sym (append-nil (tape_items c.closed.tape))) ∙ head_stands c.closed.tape l.found [] c.closed.there in
    fit_at (tape_items c.closed.tape) l.found.first (Says (frames.DumpHead l.found.part.head)) c.closed.is.fit at

-- ---- parts and slots

on_label : (slots : List Slot) (l : Located) (c : IsClosedAt slots l) → l.found.part.head.tape ≡ c.closed.tape.label.tape
on_label slots l c = (All-contains (IsPart c.closed.tape.label) c.closed.tape.parts l.found.part c.closed.is.each (found_part_is 2 1 c.closed.tape.parts l.found c.closed.there)).tape

first_is : (slots : List Slot) (l : Located) (c : IsClosedAt slots l) → slice_get c.here.items 0 ≡ Some (Says (frames.Label c.closed.tape.label))
first_is slots l c =
    ap (λ (is : List Item). slice_get is 0) (sym (take-append-drop l.found.end c.here.items) ∙ ap (λ (is : List Item). is ++ drop l.found.end c.here.items) c.closed.front)

some_slot : (s t : Slot) → Some s ≡ Some t → s ≡ t
some_slot s t same = cc

-- parts on one slot are on one tape
one_tape : (slots : List Slot) (l m : Located) → IsClosedAt slots l → IsClosedAt slots m → l.slot ≡ m.slot → l.found.part.head.tape ≡ m.found.part.head.tape
one_tape slots l m c e same =
    let here : c.here ≡ e.here = some_slot c.here e.here (sym c.at ∙ ap (λ (n : ℕ). slice_get slots n) same ∙ e.at) in
    let labels : Some (Says (frames.Label c.closed.tape.label)) ≡ Some (Says (frames.Label e.closed.tape.label)) = sym (first_is slots l c) ∙ ap (λ (s : Slot). slice_get s.items 0) here ∙ first_is slots m e in
    let label : c.closed.tape.label ≡ e.closed.tape.label = cc in
    on_label slots l c ∙ ap (λ (x : LabelFields). x.tape) label ∙ sym (on_label slots m e)

apart : (slots : List Slot) (l : Located) (ms : List Located) → IsClosedAt slots l → All (IsClosedAt slots) ms → All (λ (r : FoundPart). l.found.part.head.tape < r.part.head.tape) (map (λ (x : Located). x.found) ms) → AllByRecursion (λ (k : ℕ). (l.slot == k) ≡ false) (map (λ (x : Located). x.slot) ms)
apart slots l [] c closed later = tt
apart slots l (m ∷ ms) c closed later =
    let lt : l.found.part.head.tape < m.found.part.head.tape = All-head (λ (r : FoundPart). l.found.part.head.tape < r.part.head.tape) m.found (map (λ (x : Located). x.found) ms) later in (
      differs l.slot m.slot (λ same. absurd (omega (arith, lt, one_tape slots l m c (All-head (IsClosedAt slots) m ms closed) same))),
      apart slots l ms c (All-tail (IsClosedAt slots) m ms closed) (All-tail (λ (r : FoundPart). l.found.part.head.tape < r.part.head.tape) m.found (map (λ (x : Located). x.found) ms) later),
    )

distinct : (slots : List Slot) (parts : List Located) → All (IsClosedAt slots) parts → Linked NextTape (map part_in (map (λ (x : Located). x.found) parts)) → IsDistinct (λ a b. a == b) (map (λ (x : Located). x.slot) parts)
unfolding IsDistinct
distinct slots [] closed linked = tt
distinct slots (l ∷ ms) closed linked = (
  apart slots l ms (All-head (IsClosedAt slots) l ms closed) (All-tail (IsClosedAt slots) l ms closed) (later_of l.found (map (λ (x : Located). x.found) ms) linked),
  distinct slots ms (All-tail (IsClosedAt slots) l ms closed) (tail_linked l.found (map (λ (x : Located). x.found) ms) linked),
)

below : (slots : List Slot) (parts : List Located) → All (IsClosedAt slots) parts → (q : ℕ) → list_any (λ k. q == k) (map (λ (x : Located). x.slot) parts) ≡ true → q < length slots
below slots [] closed q is = absurd (cc)
below slots (l ∷ ms) closed q is = elim (cases_Bool (q == l.slot)) [
  | inl hit ↦
      (let c = All-head (IsClosedAt slots) l ms closed in
      omega (arith, eqb-true q l.slot hit, slice_get_within slots l.slot c.here c.at))
  | inr miss ↦ below slots ms (All-tail (IsClosedAt slots) l ms closed) q (rw miss at is)
]

-- a dump has no more parts than there are slots
few_parts : (slots : List Slot) (parts : List Located) → All (IsClosedAt slots) parts → Linked NextTape (map part_in (map (λ (x : Located). x.found) parts)) → length parts ≤ length slots
few_parts slots parts closed linked =
    omega (arith, length-map parts (λ (x : Located). x.slot), length-le_from_distinct_below (map (λ (x : Located). x.slot) parts) (length slots) (distinct slots parts closed linked) (below slots parts closed))

-- ---- fragments

none_above : (n tape at : ℕ) (f : Fragment) (fs : List Fragment) → n < f.head.index → Linked NextFragment (f ∷ fs) → filter (λ l. l.head.index == n) (map (lying_as tape) (fragments_at at (f ∷ fs))) ≡ []
none_above n tape at f [] lt linked = let other : (f.head.index == n) ≡ false = differs f.head.index n (λ same. omega arith) in rw other refl
none_above n tape at f (g ∷ fs) lt linked =
    let other : (f.head.index == n) ≡ false = differs f.head.index n (λ same. omega arith) in
    rw other (none_above n tape (at + fragment_len f) g fs (omega (arith, linked.0.1.0)) linked.1)

-- a part has one fragment of a volume at most
one_at_most : (n tape at : ℕ) (fs : List Fragment) → Linked NextFragment fs → length (filter (λ l. l.head.index == n) (map (lying_as tape) (fragments_at at fs))) ≤ 1
one_at_most n tape at [] linked = omega arith
one_at_most n tape at (f ∷ []) linked = elim (cases_Bool (f.head.index == n)) [
  | inl hit ↦ rw hit (omega arith)
  | inr miss ↦ rw miss (omega arith)
]
one_at_most n tape at (f ∷ g ∷ fs) linked = elim (cases_Bool (f.head.index == n)) [
  | inl hit ↦
      (let none = none_above n tape (at + fragment_len f) g fs (omega (arith, eqb-true f.head.index n hit, linked.0.1.0)) linked.1 in
      rw hit (omega (arith, ap (λ (ls : List Lying). length ls) none)))
  | inr miss ↦ rw miss (one_at_most n tape (at + fragment_len f) (g ∷ fs) linked.1)
]

few_frags : (n : ℕ) (qs : List FoundPart) → ArePlaced qs → length (filter (λ l. l.head.index == n) (flat_map lying_in qs)) ≤ length qs
few_frags n [] placed = omega arith
few_frags n (q ∷ qs) placed =
    let good = (All-head (λ (p : FoundPart). (label : LabelFields) × IsPart label p.part) q qs placed).1 in
    let own = one_at_most n q.part.head.tape (q.first + 1) q.part.fragments good.linked in
    let rest = few_frags n qs (All-tail (λ (p : FoundPart). (label : LabelFields) × IsPart label p.part) q qs placed) in
    omega (
      arith,
      own,
      rest,
      ap (λ (ls : List Lying). length ls) (filter-append (λ (l : Lying). l.head.index == n) (lying_in q) (flat_map lying_in qs)),
      length-append (filter (λ (l : Lying). l.head.index == n) (lying_in q)) (filter (λ (l : Lying). l.head.index == n) (flat_map lying_in qs)),
    )

-- ---- the record

named : (slots : List Slot) (parts : List Located) → All (IsClosedAt slots) parts → All IsNamed (map tape_part (map (λ (x : Located). x.found) parts))
named slots [] closed = All-nil IsNamed
named slots (l ∷ ms) closed =
    All-cons IsNamed (tape_part l.found) (map tape_part (map (λ (x : Located). x.found) ms)) (head_fits slots l (All-head (IsClosedAt slots) l ms closed)).permanent (named slots ms (All-tail (IsClosedAt slots) l ms closed))

abbrev pub FitsRecord : DumpRecordFields → Type 0
FitsRecord d = KeepsDump d × ((v : VolRecordFields) → Contains d.volumes v → KeepsFrags v)

module _ (slots : List Slot) (l : Located) (ls : List Located) (few : length slots ≤ 65535) (closed : All (IsClosedAt slots) (l ∷ ls)) (whole : IsWhole (map part_in (map (λ (x : Located). x.found) (l ∷ ls)))) where
  abbrev founds : List FoundPart
  founds = map (λ (x : Located). x.found) (l ∷ ls)

  placed : ArePlaced founds
  placed = all_placed slots (l ∷ ls) closed

  few_founds : length founds ≤ 65535
  few_founds = omega (arith, few, few_parts slots (l ∷ ls) closed whole.linked, length-map (l ∷ ls) (λ (x : Located). x.found))

  keeps_dump : KeepsDump (record_with l.found.part.head founds)
  keeps_dump =
      let fits = head_fits slots l (All-head (IsClosedAt slots) l ls closed) in
      record {
        base = fits.base.1;
        few_tapes = omega (arith, few_founds, length-map founds tape_part);
        named = named slots (l ∷ ls) closed;
        few_volumes = omega (arith, fits.volumes.1, whole_count l.found (map (λ (x : Located). x.found) ls) placed whole);
        cell = fits.cell;
      }

  keeps_frags : (v : VolRecordFields) → Contains (volume_records (flat_map lying_in founds)) v → KeepsFrags v
  keeps_frags v there =
      let some = some_frag (flat_map lying_in founds) v there in
      let first = contains_map (volume_record (flat_map lying_in founds)) (filter (λ (x : Lying). x.head.fragment == 1) (flat_map lying_in founds)) v there in
      let own : List Lying = filter (λ (x : Lying). x.head.index == first.0.head.index) (flat_map lying_in founds) in
      let many : length v.frags ≡ length (map frag_of own) = ap (λ (x : VolRecordFields). length x.frags) (sym first.2) in (
        omega (arith, ap (λ (fs : List Frag). length fs) some.2),
        omega (arith, many, length-map own frag_of, few_frags first.0.head.index founds placed, few_founds),
      )

-- a dump that is found over few slots fits its record, and so do its volumes
pub found_fits : (slots : List Slot) (parts : List Located) (d : DumpRecordFields) → length slots ≤ 65535 → IsFound slots parts d → FitsRecord d
found_fits slots [] d few found = absurd found.whole.begins
found_fits slots (l ∷ ls) d few found =
    let whole : IsWhole (map part_in (map (λ (x : Located). x.found) (l ∷ ls))) = subst IsWhole (map_twice (l ∷ ls)) found.whole in
    let same : record_with l.found.part.head (map (λ (x : Located). x.found) (l ∷ ls)) ≡ d = (let e = found.record_is in cc) in
    subst FitsRecord same (keeps_dump slots l ls few found.closed whole, keeps_frags slots l ls few found.closed whole)
