-- What is held of listed dumps is held yet: in each image, and behind each cut that ends no dump.
use Rattle.std.proofs.Common.{◌≡◌, ℕ, zero, suc, ◌+◌, ◌<◌, ◌≤◌, Bool, true, Option, Some, None, Ok, List, [], ◌∷◌, ◌++◌, length, map, take, refl, sym, ap, subst, ◌∙◌, arith, inl, inr}
use Rattle.std.specs.Prelude.{Result, All, Contains, slice_get}
use Rattle.std.proofs.lemmas.Bool.{and_parts, and_from}
use Rattle.std.proofs.lemmas.List.Elements.{All-nil, All-cons, All-contains, All-weaker}
use Rattle.vnode_model.specs.declared.volumes.VolumeFields.{VolumeFields}
use Rattle.vnode_model.specs.Limits.{AreVolume}
use Rattle.vnode_model.specs.Increments.{applied, selected}
use Rattle.vnode_model.proofs.ApplyLaws.{restores}
use Rattle.tape_frames.specs.declared.frame.Frame.{Frame}
use Rattle.budb_changes.specs.declared.records.TapePart.{TapePart}
use Rattle.budb_changes.specs.declared.records.VolRecordFields.{VolRecordFields}
use Rattle.budb_changes.specs.declared.records.DumpRecordFields.{DumpRecordFields}
use Rattle.plant_core.specs.Crashes.{State, LeftIn}
use Rattle.plant_core.specs.Stock.{Stock}
use Rattle.tape_text.specs.Items.{Item}
use Rattle.tape_text.specs.Texts.{Part, Linked, NextPart}
use Rattle.tape_text.specs.Parts.{FoundPart, part_len, part_marks, parts_at}
use Rattle.tape_scan.specs.Slots.{Slot}
use Rattle.archive_model.specs.Holding.{place_of, is_label_frame, is_head_frame, is_so, holds_at, holds, called_for, LiesOn}
use Rattle.archive_model.specs.Plays.{HasStream}
use Rattle.archive_model.specs.Archives.{Archive, Refusal, listed_of, all_here, IsKept, Holds}
use Rattle.tape_scan.specs.Scans.{IsClosedIn}
use Rattle.plant_core.specs.Effects.{Effect, comes, come}
use Rattle.archive_model.specs.Settled.{HoldsSettled, Kept, AreHeld}
use Rattle.archive_model.specs.Turns.{with_items, is_here, remaining, GivesNext, StillHeld, IsClone}
use Rattle.tape_scan.proofs.PlaceLaws.{parts_amid, found_part_is, part_long}
use Rattle.tape_scan.proofs.ListLaws.{either, same_or_not}
use Rattle.vnode_model.proofs.ChainLaws.{whole_restores}
use Rattle.archive_model.proofs.QuietLaws.{held_longer}
use Rattle.archive_model.proofs.PutLaws.{with_there, with_other}
use Rattle.archive_model.proofs.ImageLaws.{torn_slots, image_by}
use Rattle.tape_scan.proofs.ClosedLaws.{in_longer}

-- ---- a front keeps what is held in it

so_in_front : (test : Frame → Bool) (n m : ℕ) (xs : List Item) → m < n → is_so test (slice_get xs m) ≡ true → is_so test (slice_get (take n xs) m) ≡ true
so_in_front test zero m xs lt so = absurd (omega arith)
so_in_front test (suc n) m [] lt so = so
so_in_front test (suc n) zero (x ∷ xs) lt so = so
so_in_front test (suc n) (suc m) (x ∷ xs) lt so = so_in_front test n m xs (omega arith) so

held_in_front : (o : Option TapePart) (d : DumpRecordFields) (tape n : ℕ) (xs : List Item) → ((p : TapePart) → o ≡ Some p → p.first < n) → holds_at o d tape xs ≡ true → holds_at o d tape (take n xs) ≡ true
held_in_front None d tape n xs within held = absurd (cc)
held_in_front (Some p) d tape n xs within held =
    let lt : p.first < n = within p refl in
    let both = and_parts (is_so (is_label_frame d.initial tape) (slice_get xs 0)) (is_so (is_head_frame d.id tape) (slice_get xs p.first)) held in
    and_from (is_so (is_label_frame d.initial tape) (slice_get (take n xs) 0)) (is_so (is_head_frame d.id tape) (slice_get (take n xs) p.first)) (so_in_front (is_label_frame d.initial tape) n 0 xs (omega arith) both.0) (so_in_front (is_head_frame d.id tape) n p.first xs lt both.1)

-- what lies begins before it ends
lies_long : (d : DumpRecordFields) (p : TapePart) (items : List Item) → LiesOn d p items → p.first < p.end
lies_long d p items lies =
    let at = parts_amid 2 1 lies.tape.parts lies.found lies.there in
    let first : lies.found.first ≡ p.first = ap (λ (x : TapePart). x.first) lies.place in
    let end : lies.found.end ≡ p.end = ap (λ (x : TapePart). x.end) lies.place in
    omega (arith, at.3, first, end, part_long lies.found.part)

same_places : (xs ys : List Slot) (k : ℕ) (y : Slot) → map is_here xs ≡ map is_here ys → slice_get ys k ≡ Some y → (x : Slot) × (slice_get xs k ≡ Some x)
same_places xs [] k y same at = absurd (cc)
same_places [] (z ∷ ys) k y same at = absurd (cc)
same_places (x ∷ xs) (z ∷ ys) zero y same at = (x, refl)
same_places (x ∷ xs) (z ∷ ys) (suc k) y same at = (let rest : map is_here xs ≡ map is_here ys = cc in same_places xs ys k y rest at)

some_slot : (s t : Slot) → Some s ≡ Some t → s ≡ t
some_slot s t same = cc

-- ---- images

-- in each image each listed dump is held where it was
pub image_still_held : (s : State) (c : Stock) (a : Archive) (records : List DumpRecordFields) → HoldsSettled s a records → LeftIn s c
    → (slots : List Slot) × (map is_here slots ≡ map is_here a.slots) × StillHeld (listed_of a) a.slots slots × Holds c (record a { slots = slots }) (remaining (listed_of a) slots records)
image_still_held s c a records held left =
    let made = torn_slots a.slots s.tape c.tape s.settled held.seen.tapes left.tapes in (
      made.0,
      made.2,
      (λ d tape k t there at holds_it.
          (let u = same_places made.0 a.slots k t made.2 at in
          let r = made.1 k u.0 u.1 in
          let same : r.here ≡ t = some_slot r.here t (sym r.at ∙ at) in
          let long : (p : TapePart) → place_of d tape ≡ Some p → p.first < r.count = λ p place.
          (let end : p.end ≤ s.settled k = held.settled k t d tape p at there place holds_it in
          let first : p.first < p.end = lies_long d p t.items (held.seen.kept.lie d k t (held.seen.kept.dumps.complete d (inl there)) at tape p place holds_it) in
          omega (arith, end, first, r.low)) in
          let front : holds d tape (take r.count t.items) ≡ true = held_in_front (place_of d tape) d tape r.count t.items long holds_it in
          let now : u.0.items ≡ take r.count t.items ++ r.rest = r.is ∙ ap (λ (x : Slot). take r.count x.items ++ r.rest) same in
          (u.0, u.1, ap (λ (l : List Item). holds d tape l) now ∙ held_longer (place_of d tape) d tape (take r.count t.items) r.rest front))),
      image_by s c a records held left made,
    )

-- An image that is left after the first effects holds the archive that was held then.
pub joint_holds : (es : List Effect) (archives : List Kept) (s : State) (count : ℕ) (c : Stock) → AreHeld s es archives → count ≤ length es → LeftIn (come (take count es) s) c
    → (a : Kept) × (slice_get archives count ≡ Some a) × (slots : List Slot) × (map is_here slots ≡ map is_here a.archive.slots) × StillHeld (listed_of a.archive) a.archive.slots slots × Holds c (record a.archive { slots = slots }) (remaining (listed_of a.archive) slots a.records)
joint_holds [] [] s count c held within left = absurd held
joint_holds [] (a ∷ []) s zero c held within left = (let image = image_still_held s c a.archive a.records held left in (a, refl, image.0, image.1, image.2, image.3))
joint_holds [] (a ∷ []) s (suc count) c held within left = absurd (omega arith)
joint_holds [] (a ∷ b ∷ archives) s count c held within left = absurd held
joint_holds (e ∷ es) [] s count c held within left = absurd held
joint_holds (e ∷ es) (a ∷ archives) s zero c held within left = (let image = image_still_held s c a.archive a.records held.0 left in (a, refl, image.0, image.1, image.2, image.3))
joint_holds (e ∷ es) (a ∷ archives) s (suc count) c held within left = joint_holds es archives (comes e s) count c held.1 (omega arith) left

-- ---- cuts

-- a cut behind the end of all that is held of listed dumps leaves it held; where none is held on the tape any cut does
pub cut_still_held : (listed records : List DumpRecordFields) (slots : List Slot) (contents : ℕ → List ℕ → Result VolumeFields Refusal) (kept : IsKept listed slots contents records) (k n : ℕ) (s : Slot) → slice_get slots k ≡ Some s
    → ((d : DumpRecordFields) (tape : ℕ) (p : TapePart) → Contains listed d → place_of d tape ≡ Some p → holds d tape s.items ≡ true → p.end ≤ n) → StillHeld listed slots (with_items k (take n s.items) slots)
cut_still_held listed records slots contents kept k n s at behind d tape j t there at_j held = elim (same_or_not j k) [
  | inl same ↦
      (let new = with_there k (take n s.items) slots s at in
      let slot : t ≡ s = some_slot t s (sym at_j ∙ ap (λ (m : ℕ). slice_get slots m) same ∙ at) in
      let held_s : holds d tape s.items ≡ true = subst (λ (x : Slot). holds d tape x.items ≡ true) slot held in
      let long : (p : TapePart) → place_of d tape ≡ Some p → p.first < n = λ p place.
      (let end : p.end ≤ n = behind d tape p there place held_s in
      let first : p.first < p.end = lies_long d p s.items (kept.lie d k s (kept.dumps.complete d (inl there)) at tape p place held_s) in
      omega (arith, end, first)) in
      (new.0, ap (λ (m : ℕ). slice_get (with_items k (take n s.items) slots) m) same ∙ new.1, ap (λ (l : List Item). holds d tape l) new.2 ∙ held_in_front (place_of d tape) d tape n s.items long held_s))
  | inr other ↦ (t, with_other k (take n s.items) slots j t other at_j, held)
]

-- ---- dumps of one tape, in the order of their ids

later_ids : (p : Part) (ps : List Part) → Linked NextPart (p ∷ ps) → All (λ q. p.head.id < q.head.id) ps
later_ids p [] linked = All-nil (λ (q : Part). p.head.id < q.head.id)
later_ids p (q ∷ ps) linked =
    All-cons (λ (x : Part). p.head.id < x.head.id) q ps linked.0.1 (All-weaker (λ (x : Part). q.head.id < x.head.id) (λ (x : Part). p.head.id < x.head.id) (λ x lt. omega (arith, lt, linked.0.1)) ps (later_ids q ps linked.1))

rest_linked : (p : Part) (ps : List Part) → Linked NextPart (p ∷ ps) → Linked NextPart ps
rest_linked p [] linked = tt
rest_linked p (q ∷ ps) linked = linked.1

ends_by_ids : (at marks : ℕ) (ps : List Part) (p q : FoundPart) → Linked NextPart ps → Contains (parts_at at marks ps) p → Contains (parts_at at marks ps) q → p.part.head.id ≤ q.part.head.id → p.end ≤ q.end
ends_by_ids at marks [] p q linked a b le = absurd (omega (arith, a.1))
ends_by_ids at marks (x ∷ ps) p q linked (zero, within, is) (zero, within2, is2) le = omega (arith, ap (λ (y : FoundPart). y.end) (sym is), ap (λ (y : FoundPart). y.end) (sym is2))
ends_by_ids at marks (x ∷ ps) p q linked (zero, within, is) (suc k, within2, is2) le =
    let end : p.end ≡ at + part_len x = ap (λ (y : FoundPart). y.end) (sym is) in
    let later = parts_amid (at + part_len x) (marks + part_marks x) ps q (k, omega (arith, within2), is2) in
    omega (arith, end, later.1, later.3)
ends_by_ids at marks (x ∷ ps) p q linked (suc k, within, is) (zero, within2, is2) le =
    let head : x.head.id ≡ q.part.head.id = ap (λ (y : FoundPart). y.part.head.id) is2 in
    let greater : x.head.id < p.part.head.id = All-contains (λ (y : Part). x.head.id < y.head.id) ps p.part (later_ids x ps linked) (found_part_is (at + part_len x) (marks + part_marks x) ps p (k, omega (arith, within), is)) in
    absurd (omega (arith, head, greater, le))
ends_by_ids at marks (x ∷ ps) p q linked (suc k, within, is) (suc j, within2, is2) le = ends_by_ids (at + part_len x) (marks + part_marks x) ps p q (rest_linked x ps linked) (k, omega (arith, within), is) (j, omega (arith, within2), is2) le

lies_closed : (d : DumpRecordFields) (p : TapePart) (items : List Item) (lies : LiesOn d p items) → IsClosedIn items lies.found
lies_closed d p items lies = record {
  tape = lies.tape;
  is = lies.is;
  there = lies.there;
  front = ap (λ (x : TapePart). take x.end items) lies.place ∙ lies.front;
}

-- of two dumps that lie on one tape the one of the greater id ends behind the other
pub ends_in_order : (d e : DumpRecordFields) (p q : TapePart) (items : List Item) → LiesOn d p items → LiesOn e q items → d.id ≤ e.id → p.end ≤ q.end
unfolding lies_closed
ends_in_order d e p q items a b le =
    let end_a : a.found.end ≡ p.end = ap (λ (x : TapePart). x.end) a.place in
    let end_b : b.found.end ≡ q.end = ap (λ (x : TapePart). x.end) b.place in
    let c = lies_closed d p items a in
    let f = lies_closed e q items b in
    let ids : a.found.part.head.id ≤ b.found.part.head.id = omega (arith, a.heads.id, b.heads.id, le) in
    elim (either a.found.end b.found.end) [
      | inl lt ↦ omega (arith, lt, end_a, end_b)
      | inr ge ↦
          (let both : a.found.end ≤ b.found.end = ends_by_ids 2 1 a.tape.parts a.found b.found a.is.linked a.there (in_longer items b.found a.found f c ge) ids in
          omega (arith, both, end_a, end_b))
    ]

-- ---- a dump's own contents

-- a volume's clone is what its dump gives next
pub clone_gives : (slots : List Slot) (contents : ℕ → List ℕ → Result VolumeFields Refusal) (d : DumpRecordFields) (name : List ℕ) (v : VolRecordFields) (clone : VolumeFields) (time : ℕ) → HasStream (all_here slots) d (called_for d name) (selected clone v.from time) → AreVolume clone.vnodes → IsClone contents d name v clone → GivesNext slots contents d name v
clone_gives slots contents d name v clone time stream good is = record {
  increment = selected clone v.from time;
  stream = stream;
  whole = λ none. (clone, subst (λ (f : ℕ). applied None (selected clone f time) ≡ Ok clone) (sym none) (whole_restores clone time good), is.whole none);
  follows = λ later old parent. (let o = is.follows later old parent in (clone, restores old clone v.from time o.0 good o.1, o.2));
  faulty = is.faulty;
}
