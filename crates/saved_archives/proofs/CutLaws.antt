-- A tape that is cut where a text ends, one that is written anew, and one whose text goes on.
use Rattle.std.proofs.Common.{◌≡◌, ℕ, zero, suc, ◌+◌, ◌<◌, ◌≤◌, Bool, true, Option, Some, None, List, [], ◌∷◌, ◌++◌, length, take, drop, refl, sym, ap, subst, ◌∙◌, arith, inl, inr, append_assoc, append-nil, length-append, length-take}
use Rattle.std.specs.Prelude.{Contains, slice_get}
use Rattle.std.specs.List.{flat_map}
use Rattle.std.proofs.lemmas.Bool.{and_parts, and_from, eq-eqb}
use Rattle.std.proofs.lemmas.List.{take-append-drop}
use Rattle.tape_frames.specs.declared.frame.Frame.{Frame}
use Rattle.tape_frames.specs.declared.frame.Frame.TheVariants as frames
use Rattle.tape_frames.specs.declared.dump_head.DumpHeadFields.{DumpHeadFields}
use Rattle.budb_changes.specs.declared.records.TapePart.{TapePart}
use Rattle.budb_changes.specs.declared.records.DumpRecordFields.{DumpRecordFields}
use Rattle.tape_text.specs.Items.{Item, Says}
use Rattle.tape_text.specs.Texts.{Part, Tape, part_items, tape_items}
use Rattle.tape_text.specs.Parts.{FoundPart, part_len, part_marks, parts_at, parts_of}
use Rattle.tape_text.proofs.TextLaws.{parts_front}
use Rattle.tape_scan.specs.Scans.{IsClosedIn}
use Rattle.tape_scan.specs.Slots.{Slot}
use Rattle.tape_scan.proofs.ListLaws.{either}
use Rattle.tape_scan.proofs.ScanLaws.{part_length}
use Rattle.tape_scan.proofs.PlaceLaws.{parts_amid, head_stands}
use Rattle.tape_scan.proofs.OpenLaws.{behind_label}
use Rattle.tape_scan.proofs.ClosedLaws.{closed_within}
use Rattle.archive_model.specs.Holding.{place_of, is_label_frame, is_head_frame, is_so, holds_at, holds, HasNoHead, LiesOn, Lies}
use Rattle.archive_model.specs.Turns.{with_items}
use Rattle.archive_model.proofs.HoldLaws.{lies_within, head_none, unheaded}
use Rattle.archive_model.proofs.KeepLaws.{held_before, held_uncut}
use Rattle.saved_archives.specs.Since.{Ids, IsIn, IsSince, AreSince}
use Rattle.saved_archives.proofs.SinceLaws.{front_in, no_head_both, no_head_behind, with_since}

-- ---- texts of which one goes on

-- a part that begins in front of others ends in front of them
ends_within : (at marks : ℕ) (ps os : List Part) (q : FoundPart) → Contains (parts_at at marks (ps ++ os)) q → q.first < at + length (flat_map part_items ps) → q.end ≤ at + length (flat_map part_items ps)
ends_within at marks [] os q there lt = absurd (omega (arith, (parts_amid at marks os q there).1, lt))
ends_within at marks (p ∷ ps) os q (zero, within, is) lt =
    let long : length (flat_map part_items (p ∷ ps)) ≡ part_len p + length (flat_map part_items ps) = omega (arith, length-append (part_items p) (flat_map part_items ps), part_length p) in
    omega (arith, long, ap (λ (x : FoundPart). x.end) (sym is))
ends_within at marks (p ∷ ps) os q (suc k, within, is) lt =
    let long : length (flat_map part_items (p ∷ ps)) ≡ part_len p + length (flat_map part_items ps) = omega (arith, length-append (part_items p) (flat_map part_items ps), part_length p) in
    let rest = ends_within (at + part_len p) (marks + part_marks p) ps os q (k, omega (arith, within), is) (omega (arith, lt, long)) in
    omega (arith, rest, long)

-- a part of a text that begins in a front that is a text ends there
text_ends : (t u : Tape) (rest : List Item) (q : FoundPart) → tape_items u ≡ tape_items t ++ rest → Contains (parts_of u) q → q.first < length (tape_items t) → q.end ≤ length (tape_items t)
text_ends t u rest q same there lt =
    let more = parts_front u.parts t.parts rest (behind_label u t rest same) in
    let within = ends_within 2 1 t.parts more.0 q (subst (λ (ps : List Part). Contains (parts_at 2 1 ps) q) more.1 there) (omega (arith, lt)) in
    omega (arith, within)

-- ---- heads

get_behind : (xs ys : List Item) (n : ℕ) (i : Item) → length xs ≤ n → slice_get (xs ++ ys) n ≡ Some i → (k : ℕ) × (slice_get ys k ≡ Some i)
get_behind [] ys n i le is = (n, is)
get_behind (x ∷ xs) ys zero i le is = absurd (omega (arith, le))
get_behind (x ∷ xs) ys (suc n) i le is = get_behind xs ys n i (omega (arith, le)) is

not_there : (id n : ℕ) (items : List Item) (h : DumpHeadFields) → HasNoHead id items → slice_get items n ≡ Some (Says (frames.DumpHead h)) → h.id ≡ id → ⊥
not_there id n items h none is same =
    let so : is_so (is_head_frame id h.tape) (Some (Says (frames.DumpHead h))) ≡ true = and_from _ _ (eq-eqb h.id id same) (eq-eqb h.tape h.tape refl) in
    head_none id h.tape n items none (ap (is_so (is_head_frame id h.tape)) is ∙ so)

closed_head : (items : List Item) (q : FoundPart) → IsClosedIn items q → slice_get items q.first ≡ Some (Says (frames.DumpHead q.part.head))
closed_head items q c =
    let whole : tape_items c.tape ++ drop q.end items ≡ items = ap (λ (l : List Item). l ++ drop q.end items) (sym c.front) ∙ take-append-drop q.end items in
    ap (λ (l : List Item). slice_get l q.first) (sym whole) ∙ head_stands c.tape q (drop q.end items) c.there

-- Behind a text stands no head of a dump: a part of the dump that is closed ends in the text.
closed_in_text : (t : Tape) (behind items : List Item) (q : FoundPart) → items ≡ tape_items t ++ behind → HasNoHead q.part.head.id behind → IsClosedIn items q → q.end ≤ length (tape_items t)
closed_in_text t behind items q same none c = elim (either (length (tape_items t)) q.end) [
  | inr short ↦ short
  | inl lt ↦
      (let whole : tape_items c.tape ++ drop q.end items ≡ tape_items t ++ behind = ap (λ (l : List Item). l ++ drop q.end items) (sym c.front) ∙ take-append-drop q.end items ∙ same in
      let long : length (tape_items c.tape) ≡ q.end = omega (arith, ap length c.front, length-take q.end items, closed_within items q c) in
      let goes_on : tape_items c.tape ≡ tape_items t ++ drop (length (tape_items t)) (tape_items c.tape) = front_in (tape_items c.tape) (drop q.end items) (tape_items t) behind whole (omega (arith, lt, long)) in
      elim (either q.first (length (tape_items t))) [
        | inl within ↦ text_ends t c.tape (drop (length (tape_items t)) (tape_items c.tape)) q goes_on c.there within
        | inr beyond ↦
            (let at = get_behind (tape_items t) behind q.first (Says (frames.DumpHead q.part.head)) beyond (ap (λ (l : List Item). slice_get l q.first) (sym same) ∙ closed_head items q c) in
            absurd (not_there q.part.head.id at.0 behind q.part.head none at.1 refl))
      ])
]

-- ---- what is held in front of a cut

so_within : (test : Frame → Bool) (m : ℕ) (xs : List Item) → is_so test (slice_get xs m) ≡ true → m < length xs
so_within test m [] so = absurd (cc)
so_within test zero (x ∷ xs) so = omega arith
so_within test (suc m) (x ∷ xs) so = omega (arith, so_within test m xs so)

head_within : (o : Option TapePart) (d : DumpRecordFields) (tape : ℕ) (p : TapePart) (items : List Item) → o ≡ Some p → holds_at o d tape items ≡ true → p.first < length items
head_within None d tape p items is held = absurd (cc)
head_within (Some x) d tape p items is held =
    let same : x ≡ p = cc in
    let lt : x.first < length items = so_within (is_head_frame d.id tape) x.first items (and_parts (is_so (is_label_frame d.initial tape) (slice_get items 0)) (is_so (is_head_frame d.id tape) (slice_get items x.first)) held).1 in
    omega (arith, lt, ap (λ (y : TapePart). y.first) same)

-- what is held in front of the end of a text, and lies on the tape, ends there
pub held_in_text : (d : DumpRecordFields) (p : TapePart) (n tape : ℕ) (t : Tape) (items : List Item) → take n items ≡ tape_items t → Lies d items → place_of d tape ≡ Some p → holds d tape (take n items) ≡ true → p.end ≤ length (take n items)
held_in_text d p n tape t items text lies place held =
    let here : LiesOn d p items = lies tape p place (held_uncut (place_of d tape) d tape n items held) in
    let end : here.found.end ≡ p.end = ap (λ (x : TapePart). x.end) here.place in
    let first : here.found.first ≡ p.first = ap (λ (x : TapePart). x.first) here.place in
    let same : length (take n items) ≡ length (tape_items t) = ap length text in
    let front : p.first < length (take n items) = head_within (place_of d tape) d tape p (take n items) place held in
    elim (either (length (take n items)) p.end) [
      | inr short ↦ short
      | inl lt ↦
          (let whole : tape_items here.tape ++ drop p.end items ≡ tape_items t ++ drop n items =
          ap (λ (l : List Item). l ++ drop p.end items) (sym here.front) ∙ take-append-drop p.end items ∙ sym (take-append-drop n items) ∙ ap (λ (l : List Item). l ++ drop n items) text in
          let long : length (tape_items here.tape) ≡ p.end = omega (arith, ap length here.front, length-take p.end items, lies_within d p items here) in
          let goes_on : tape_items here.tape ≡ tape_items t ++ drop (length (tape_items t)) (tape_items here.tape) = front_in (tape_items here.tape) (drop p.end items) (tape_items t) (drop n items) whole (omega (arith, lt, long, same)) in
          let within : here.found.end ≤ length (tape_items t) = text_ends t here.tape (drop (length (tape_items t)) (tape_items here.tape)) here.found goes_on here.there (omega (arith, front, first, same)) in
          omega (arith, within, end, same))
    ]

pub held_in_front_of_end : (d e : DumpRecordFields) (p q : TapePart) (items : List Item) (tape : ℕ) → Lies d items → LiesOn e q items → place_of d tape ≡ Some p → holds d tape (take q.end items) ≡ true → p.end ≤ q.end
held_in_front_of_end d e p q items tape lies other place held = omega (arith, held_in_text d p q.end tape other.tape items other.front lies place held, length-take q.end items)

-- ---- one tape

cut_since : (which : Ids) (n : ℕ) (t : Tape) (items more : List Item) → take n items ≡ tape_items t → ((id : ℕ) → IsIn which id → HasNoHead id more) → IsSince which items (take n items ++ more)
cut_since which n t items more text none = record {
  common = take n items;
  gone = drop n items;
  more = more;
  old_is = sym (take-append-drop n items);
  new_is = refl;
  heads = none;
  closed = λ q c le. omega (arith, closed_in_text t more (take n items ++ more) q (ap (λ (l : List Item). l ++ more) text) (none q.part.head.id le) c, ap length text);
  ends = λ d tape p le lies place held. held_in_text d p n tape t items text lies place (held_before (place_of d tape) d tape (take n items) more (none d.id le) held);
}

pub cut_all_since : (which : Ids) (slots : List Slot) (k : ℕ) (s : Slot) → slice_get slots k ≡ Some s → (n : ℕ) (t : Tape) (more : List Item) → take n s.items ≡ tape_items t → ((id : ℕ) → IsIn which id → HasNoHead id more) → AreSince which slots (with_items k (take n s.items ++ more) slots)
cut_all_since which slots k s at n t more text none = with_since which k slots s (take n s.items ++ more) at (cut_since which n t s.items more text none)

-- where a dump ends that lies there
pub end_all_since : (which : Ids) (slots : List Slot) (k : ℕ) (s : Slot) → slice_get slots k ≡ Some s → (e : DumpRecordFields) (q : TapePart) → LiesOn e q s.items → AreSince which slots (with_items k (take q.end s.items) slots)
end_all_since which slots k s at e q lies =
    subst (λ (l : List Item). AreSince which slots (with_items k l slots)) (append-nil (take q.end s.items)) (cut_all_since which slots k s at q.end lies.tape [] lies.front (λ id le. tt))

-- written anew
pub anew_since : (which : Ids) (slots : List Slot) (k : ℕ) (s : Slot) → slice_get slots k ≡ Some s → (items : List Item) → ((id : ℕ) → IsIn which id → HasNoHead id items) → AreSince which slots (with_items k items slots)
anew_since which slots k s at items none = with_since which k slots s items at (record {
  common = [];
  gone = s.items;
  more = items;
  old_is = refl;
  new_is = refl;
  heads = none;
  closed = λ q c le. absurd (not_there q.part.head.id q.first items q.part.head (none q.part.head.id le) (closed_head items q c) refl);
  ends = λ d tape p le lies place held. absurd (unheaded d tape items (none d.id le) held);
})

-- a text that goes on with what is newer
pub on_since : (which : Ids) (slots : List Slot) (k : ℕ) (s : Slot) → slice_get slots k ≡ Some s → (t : Tape) (opened more : List Item) → s.items ≡ tape_items t ++ opened → ((id : ℕ) → IsIn which id → HasNoHead id (opened ++ more)) → AreSince which slots (with_items k (s.items ++ more) slots)
on_since which slots k s at t opened more text none = with_since which k slots s (s.items ++ more) at (record {
  common = s.items;
  gone = [];
  more = more;
  old_is = sym (append-nil s.items);
  new_is = refl;
  heads = λ id le. no_head_behind id opened more (none id le);
  closed = λ q c le.
      (let within = closed_in_text t (opened ++ more) (s.items ++ more) q (ap (λ (l : List Item). l ++ more) text ∙ append_assoc (tape_items t) opened more) (none q.part.head.id le) c in
      omega (arith, within, ap length text, length-append (tape_items t) opened));
  ends = λ d tape p le lies place held. lies_within d p s.items (lies tape p place (held_before (place_of d tape) d tape s.items more (no_head_behind d.id opened more (none d.id le)) held));
})
