-- The heads of dumps among a tape's items are those of its parts.
use Rattle.std.proofs.Common.{◌≡◌, ℕ, zero, suc, ◌+◌, ◌<◌, ◌≤◌, Some, List, [], ◌∷◌, ◌++◌, length, map, take, refl, sym, ap, subst, ◌∙◌, arith, inl, inr, append-nil}
use Rattle.std.specs.Prelude.{All, Contains, slice_get}
use Rattle.std.specs.List.{flat_map}
use Rattle.std.proofs.lemmas.Bool.{lt-ltb, ltb-true}
use Rattle.std.proofs.lemmas.List.Elements.{All-nil, All-cons, All-head, All-tail}
use Rattle.tape_frames.specs.declared.frame.Frame.TheVariants as frames
use Rattle.tape_frames.specs.declared.dump_head.DumpHeadFields.{DumpHeadFields}
use Rattle.tape_frames.specs.declared.data.DataFields.{DataFields}
use Rattle.tape_text.specs.Items.{Item, Says, Filemark}
use Rattle.tape_text.specs.Texts.{Fragment, Part, Tape, data_item, fragment_items, part_items, tape_items, IsText}
use Rattle.tape_text.specs.Parts.{FoundPart, part_len, part_marks, parts_at, parts_of}
use Rattle.tape_scan.specs.Scans.{is_begun, Scan, begun, IsBegunIn}
use Rattle.tape_text.proofs.TextLaws.{front_is_text}
use Rattle.tape_scan.proofs.ListLaws.{take_of_take, contains_filter, of_filter, either, All_join}
use Rattle.tape_scan.proofs.ScanLaws.{part_length}
use Rattle.tape_scan.proofs.PlaceLaws.{head_stands}

-- no dump's head
abbrev pub IsNoHead : Item → Type 0
IsNoHead i = (h : DumpHeadFields) → i ≡ Says (frames.DumpHead h) → ⊥

data_no_heads : (ds : List DataFields) → All IsNoHead (map data_item ds)
data_no_heads [] = All-nil IsNoHead
data_no_heads (d ∷ ds) = All-cons IsNoHead (data_item d) (map data_item ds) (λ h same. absurd (cc)) (data_no_heads ds)

fragment_no_heads : (f : Fragment) → All IsNoHead (fragment_items f)
fragment_no_heads f =
    let ended : All IsNoHead (map data_item f.pieces ++ Says (frames.VolEnd f.end) ∷ []) =
    All_join IsNoHead (map data_item f.pieces) (Says (frames.VolEnd f.end) ∷ []) (data_no_heads f.pieces) (All-cons IsNoHead (Says (frames.VolEnd f.end)) [] (λ h same. absurd (cc)) (All-nil IsNoHead)) in
    All_join IsNoHead (Says (frames.VolHead f.head) ∷ map data_item f.pieces ++ Says (frames.VolEnd f.end) ∷ []) (Filemark ∷ [])
    (All-cons IsNoHead (Says (frames.VolHead f.head)) (map data_item f.pieces ++ Says (frames.VolEnd f.end) ∷ []) (λ h same. absurd (cc)) ended) (All-cons IsNoHead Filemark [] (λ h same. absurd (cc)) (All-nil IsNoHead))

fragments_no_heads : (fs : List Fragment) → All IsNoHead (flat_map fragment_items fs)
fragments_no_heads [] = All-nil IsNoHead
fragments_no_heads (f ∷ fs) = All_join IsNoHead (fragment_items f) (flat_map fragment_items fs) (fragment_no_heads f) (fragments_no_heads fs)

behind_head : Part → List Item
behind_head p = flat_map fragment_items p.fragments ++ Says (frames.DumpEnd p.end) ∷ Filemark ∷ []

part_no_heads : (p : Part) → All IsNoHead (behind_head p)
unfolding behind_head
part_no_heads p =
    All_join IsNoHead (flat_map fragment_items p.fragments) (Says (frames.DumpEnd p.end) ∷ Filemark ∷ []) (fragments_no_heads p.fragments)
    (All-cons IsNoHead (Says (frames.DumpEnd p.end)) (Filemark ∷ []) (λ h same. absurd (cc)) (All-cons IsNoHead Filemark [] (λ h same. absurd (cc)) (All-nil IsNoHead)))

-- a head that stands among items of which the first ones are none stands behind these
beyond : (xs ys : List Item) (n : ℕ) (h : DumpHeadFields) → All IsNoHead xs → slice_get (xs ++ ys) n ≡ Some (Says (frames.DumpHead h)) → (m : ℕ) × (n ≡ length xs + m) × (slice_get ys m ≡ Some (Says (frames.DumpHead h)))
beyond [] ys n h none at = (n, omega arith, at)
beyond (x ∷ xs) ys zero h none at = absurd (All-head IsNoHead x xs none h (let same : Some x ≡ Some (Says (frames.DumpHead h)) = at in cc))
beyond (x ∷ xs) ys (suc n) h none at =
    let rest = beyond xs ys n h (All-tail IsNoHead x xs none) at in
    (rest.0, omega (arith, rest.1), rest.2)

head_among : (at marks : ℕ) (ps : List Part) (n : ℕ) (h : DumpHeadFields) → slice_get (flat_map part_items ps) n ≡ Some (Says (frames.DumpHead h)) → (q : FoundPart) × Contains (parts_at at marks ps) q × (q.first ≡ at + n) × (q.part.head ≡ h)
unfolding behind_head
head_among at marks [] n h here = absurd (cc)
head_among at marks (p ∷ ps) zero h here =
    let same : Some (Says (frames.DumpHead p.head)) ≡ Some (Says (frames.DumpHead h)) = here in
    (record { part = p; first = at; end = at + part_len p; marks = marks + part_marks p }, (0, omega arith, refl), omega arith, cc)
head_among at marks (p ∷ ps) (suc n) h here =
    let later = beyond (behind_head p) (flat_map part_items ps) n h (part_no_heads p) here in
    let rest = head_among (at + part_len p) (marks + part_marks p) ps later.0 h later.2 in
    let long : length (part_items p) ≡ part_len p = part_length p in
    (rest.0, (suc rest.1.0, omega (arith, rest.1.1), rest.1.2), omega (arith, rest.2, later.1, long), rest.3)

-- each head among a tape's items is that of a part which begins there
pub head_is_first : (t : Tape) (n : ℕ) (h : DumpHeadFields) → slice_get (tape_items t) n ≡ Some (Says (frames.DumpHead h)) → (q : FoundPart) × Contains (parts_of t) q × (q.first ≡ n) × (q.part.head ≡ h)
head_is_first t zero h here = absurd (cc)
head_is_first t (suc zero) h here = absurd (cc)
head_is_first t (suc (suc n)) h here =
    let found = head_among 2 1 t.parts n h here in
    (found.0, found.1, omega (arith, found.2), found.3)

-- ---- begun parts

get_front : (n m : ℕ) (xs ys : List Item) → m < n → n ≤ length xs → slice_get (take n xs ++ ys) m ≡ slice_get xs m
get_front zero m xs ys lt le = absurd (omega arith)
get_front (suc n) m [] ys lt le = absurd (omega arith)
get_front (suc n) zero (x ∷ xs) ys lt le = refl
get_front (suc n) (suc m) (x ∷ xs) ys lt le = get_front n m xs ys (omega arith) (omega arith)

-- the head of a begun part stands at its first
pub begun_head : (items : List Item) (p : FoundPart) → IsBegunIn items p → slice_get items p.first ≡ Some (Says (frames.DumpHead p.part.head))
begun_head items p b =
    sym (get_front b.count p.first items b.text.more b.begun b.within) ∙ ap (λ (l : List Item). slice_get l p.first) (sym b.text.joined ∙ sym (append-nil (tape_items b.text.whole))) ∙ head_stands b.text.whole p [] b.there

-- a scan's front is as long as each front that is a text
longest : (items : List Item) (s : Scan items) (n : ℕ) → n ≤ length items → IsText (take n items) → n ≤ s.count
longest items s n within text = elim (either s.count n) [
  | inl lt ↦ absurd (s.front.stops (omega (arith, lt, within)) (subst IsText (take_of_take (s.count + 1) n items (omega (arith, lt))) (front_is_text (take n items) (s.count + 1) text)))
  | inr le ↦ le
]

-- what a scan finds begun is begun
pub scanned_begun : (items : List Item) (s : Scan items) (p : FoundPart) → Contains (begun s) p → IsBegunIn items p
scanned_begun items s p there =
    let kept = of_filter (is_begun s.count) (parts_of s.front.text.whole) p there in
    record { count = s.count; within = s.front.within; text = s.front.text; there = kept.0; begun = ltb-true p.first s.count kept.1 }

-- and wherever a part is begun it finds one, with the same head
pub begun_scanned : (items : List Item) (s : Scan items) (p : FoundPart) → IsBegunIn items p → (q : FoundPart) × Contains (begun s) q × (q.first ≡ p.first) × (q.part.head ≡ p.part.head)
begun_scanned items s p b =
    let long : b.count ≤ s.count = longest items s b.count b.within b.text in
    let here : slice_get (tape_items s.front.text.whole) p.first ≡ Some (Says (frames.DumpHead p.part.head)) =
    ap (λ (l : List Item). slice_get l p.first) s.front.text.joined ∙ get_front s.count p.first items s.front.text.more (omega (arith, long, b.begun)) s.front.within ∙ begun_head items p b in
    let q = head_is_first s.front.text.whole p.first p.part.head here in
    (q.0, contains_filter (is_begun s.count) (parts_of s.front.text.whole) q.0 q.1 (lt-ltb q.0.first s.count (omega (arith, q.2, long, b.begun))), q.2, q.3)
