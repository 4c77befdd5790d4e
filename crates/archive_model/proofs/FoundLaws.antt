-- What is found whole lies on its tapes, which are held; and a closed part stands wherever the tape begins alike.
use Rattle.std.proofs.Common.{◌≡◌, ℕ, zero, suc, ◌<◌, true, false, Option, Some, List, [], ◌∷◌, ◌++◌, map, drop, refl, sym, ap, subst, ◌∙◌, arith, inl, inr}
use Rattle.std.specs.Prelude.{All, Contains, find, slice_get, ◌==◌}
use Rattle.std.proofs.lemmas.Bool.{cases_Bool, and_from, eqb-true, eq-eqb}
use Rattle.std.proofs.lemmas.List.{take-append-drop}
use Rattle.std.proofs.lemmas.List.Elements.{All-nil, All-cons, All-head, All-tail, All-contains}
use Rattle.tape_frames.specs.declared.frame.Frame.TheVariants as frames
use Rattle.budb_changes.specs.declared.records.TapePart.{TapePart}
use Rattle.budb_changes.specs.declared.records.DumpRecordFields.{DumpRecordFields}
use Rattle.tape_text.specs.Items.{Item, Says}
use Rattle.tape_text.specs.Texts.{Part, Tape, tape_items, Linked, IsPart}
use Rattle.tape_text.specs.Parts.{FoundPart}
use Rattle.tape_scan.specs.Scans.{closed}
use Rattle.tape_text.specs.Wholes.{tape_part, NextTape, IsWhole, record_with}
use Rattle.tape_scan.specs.Slots.{Slot, Located, IsClosedAt, IsFound}
use Rattle.archive_model.specs.Holding.{place_of, is_label_frame, is_head_frame, is_so, holds_at, holds, LiesOn}
use Rattle.archive_model.specs.Archives.{IsHeld}
use Rattle.archive_model.specs.Clones.{ArePlaced, part_in}
use Rattle.tape_scan.proofs.PlaceLaws.{found_part_is, head_stands}
use Rattle.tape_scan.proofs.ListLaws.{contains_map}
use Rattle.archive_model.proofs.WholeLaws.{whole_lies, later_of, tail_linked}
use Rattle.archive_model.proofs.ManyTapeLaws.{differs}

-- ---- closed parts

-- ---- what lies is held

label_so : (initial tape : ℕ) (items : List Item) (t : Tape) (more : List Item) → items ≡ tape_items t ++ more → t.label.initial ≡ initial → t.label.tape ≡ tape → is_so (is_label_frame initial tape) (slice_get items 0) ≡ true
label_so initial tape items t more same a b =
    ap (λ (l : List Item). is_so (is_label_frame initial tape) (slice_get l 0)) same ∙ and_from (t.label.initial == initial) (t.label.tape == tape) (eq-eqb t.label.initial initial a) (eq-eqb t.label.tape tape b)

-- what lies on a tape by a record's place for it is held there
pub lies_held : (d : DumpRecordFields) (tape : ℕ) (p : TapePart) (items : List Item) → place_of d tape ≡ Some p → p.tape ≡ tape → LiesOn d p items → holds d tape items ≡ true
lies_held d tape p items place number lies =
    let good : IsPart lies.tape.label lies.found.part = All-contains (IsPart lies.tape.label) lies.tape.parts lies.found.part lies.is.each (found_part_is 2 1 lies.tape.parts lies.found lies.there) in
    let whole : items ≡ tape_items lies.tape ++ drop p.end items = sym (take-append-drop p.end items) ∙ ap (λ (l : List Item). l ++ drop p.end items) lies.front in
    let at_tape : lies.found.part.head.tape ≡ tape = ap (λ (x : TapePart). x.tape) lies.place ∙ number in
    let label : is_so (is_label_frame d.initial tape) (slice_get items 0) ≡ true = label_so d.initial tape items lies.tape (drop p.end items) whole (sym good.initial ∙ lies.heads.initial) (sym good.tape ∙ at_tape) in
    let first : slice_get items p.first ≡ Some (Says (frames.DumpHead lies.found.part.head)) =
    ap (λ (n : ℕ). slice_get items n) (sym (ap (λ (x : TapePart). x.first) lies.place)) ∙ ap (λ (l : List Item). slice_get l lies.found.first) whole ∙ head_stands lies.tape lies.found (drop p.end items) lies.there in
    let head : is_so (is_head_frame d.id tape) (slice_get items p.first) ≡ true =
    ap (is_so (is_head_frame d.id tape)) first ∙ and_from (lies.found.part.head.id == d.id) (lies.found.part.head.tape == tape) (eq-eqb lies.found.part.head.id d.id lies.heads.id) (eq-eqb lies.found.part.head.tape tape at_tape) in
    ap (λ (o : Option TapePart). holds_at o d tape items) place ∙ and_from (is_so (is_label_frame d.initial tape) (slice_get items 0)) (is_so (is_head_frame d.id tape) (slice_get items p.first)) label head

-- ---- the places of a whole dump

-- where a record has a place for a tape, one of its parts has it
pub found_place : (qs : List FoundPart) (tape : ℕ) (p : TapePart) → find (λ x. x.tape == tape) (map tape_part qs) ≡ Some p → (r : FoundPart) × Contains qs r × (tape_part r ≡ p) × (p.tape ≡ tape)
found_place [] tape p is = absurd (cc)
found_place (q ∷ qs) tape p is = elim (cases_Bool (q.part.head.tape == tape)) [
  | inl hit ↦
      (let same : Some (tape_part q) ≡ Some p = rw hit at is in
      let part : tape_part q ≡ p = cc in
      (q, (0, omega arith, refl), part, sym (ap (λ (x : TapePart). x.tape) part) ∙ eqb-true q.part.head.tape tape hit))
  | inr miss ↦
      (let rest = found_place qs tape p (rw miss at is) in
      (rest.0, (suc rest.1.0, omega (arith, rest.1.1), rest.1.2), rest.2, rest.3))
]

-- and each part's place is the one that counts for its tape
pub own_place : (qs : List FoundPart) (r : FoundPart) → Linked NextTape (map part_in qs) → Contains qs r → find (λ x. x.tape == r.part.head.tape) (map tape_part qs) ≡ Some (tape_part r)
own_place [] r linked there = absurd (omega (arith, there.1))
own_place (q ∷ qs) r linked (zero, within, is) =
    let same : (q.part.head.tape == r.part.head.tape) ≡ true = eq-eqb q.part.head.tape r.part.head.tape (ap (λ (x : FoundPart). x.part.head.tape) is) in
    let part : Some (tape_part q) ≡ Some (tape_part r) = ap (λ (x : FoundPart). Some (tape_part x)) is in
    rw same part
own_place (q ∷ qs) r linked (suc k, within, is) =
    let there : Contains qs r = (k, omega (arith, within), is) in
    let later : q.part.head.tape < r.part.head.tape = All-contains (λ (x : FoundPart). q.part.head.tape < x.part.head.tape) qs r (later_of q qs linked) there in
    let miss : (q.part.head.tape == r.part.head.tape) ≡ false = differs q.part.head.tape r.part.head.tape (λ same. absurd (omega (arith, later, same))) in
    rw miss (own_place qs r (tail_linked q qs linked) there)

-- ---- found dumps

pub map_twice : (ls : List Located) → map (λ l. l.found.part) ls ≡ map part_in (map (λ l. l.found) ls)
map_twice [] = refl
map_twice (l ∷ ls) = ap (λ (t : List Part). l.found.part ∷ t) (map_twice ls)

pub contains_found : (parts : List Located) (l : Located) → Contains parts l → Contains (map (λ x. x.found) parts) l.found
contains_found [] l there = absurd (omega (arith, there.1))
contains_found (x ∷ parts) l (zero, within, is) = (0, omega arith, ap (λ (y : Located). y.found) is)
contains_found (x ∷ parts) l (suc k, within, is) =
    let rest = contains_found parts l (k, omega (arith, within), is) in
    (suc rest.0, omega (arith, rest.1), rest.2)

pub whole_linked : (slots : List Slot) (parts : List Located) (d : DumpRecordFields) → IsFound slots parts d → Linked NextTape (map part_in (map (λ l. l.found) parts))
whole_linked slots parts d found = subst (Linked NextTape) (map_twice parts) found.whole.linked

-- its record's tapes are its parts' places
pub tapes_of_found : (slots : List Slot) (parts : List Located) (d : DumpRecordFields) → IsFound slots parts d → d.tapes ≡ map tape_part (map (λ l. l.found) parts)
tapes_of_found slots [] d found = absurd found.whole.begins
tapes_of_found slots (l ∷ parts) d found =
    let same : record_with l.found.part.head (l.found ∷ map (λ x. x.found) parts) ≡ d = (let e = found.record_is in cc) in
    sym (ap (λ (x : DumpRecordFields). x.tapes) same)

pub is_placed : (slots : List Slot) (l : Located) → IsClosedAt slots l → ArePlaced (l.found ∷ [])
is_placed slots l c =
    let good : IsPart c.closed.tape.label l.found.part = All-contains (IsPart c.closed.tape.label) c.closed.tape.parts l.found.part c.closed.is.each (found_part_is 2 1 c.closed.tape.parts l.found c.closed.there) in
    All-cons (λ (q : FoundPart). (label : _) × IsPart label q.part) l.found [] (c.closed.tape.label, good) (All-nil (λ (q : FoundPart). (label : _) × IsPart label q.part))

pub all_placed : (slots : List Slot) (parts : List Located) → All (IsClosedAt slots) parts → ArePlaced (map (λ l. l.found) parts)
all_placed slots [] closed = All-nil (λ (q : FoundPart). (label : _) × IsPart label q.part)
all_placed slots (l ∷ parts) closed =
    All-cons (λ (q : FoundPart). (label : _) × IsPart label q.part) l.found (map (λ x. x.found) parts) (All-head (λ (q : FoundPart). (label : _) × IsPart label q.part) l.found [] (is_placed slots l (All-head (IsClosedAt slots) l parts closed)))
    (all_placed slots parts (All-tail (IsClosedAt slots) l parts closed))

-- a part of a dump that is found lies by its record
pub part_lies : (slots : List Slot) (parts : List Located) (d : DumpRecordFields) (l : Located) (c : IsClosedAt slots l) → IsFound slots parts d → Contains parts l → LiesOn d (tape_part l.found) c.here.items
part_lies slots [] d l c found there = absurd (omega (arith, there.1))
part_lies slots (q ∷ parts) d l c found there =
    let same : record_with q.found.part.head (q.found ∷ map (λ x. x.found) parts) ≡ d = (let e = found.record_is in cc) in
    let whole : IsWhole (map part_in (q.found ∷ map (λ x. x.found) parts)) = subst IsWhole (map_twice (q ∷ parts)) found.whole in
    subst (λ (x : DumpRecordFields). LiesOn x (tape_part l.found) c.here.items) same
    (whole_lies q.found (map (λ x. x.found) parts) (all_placed slots (q ∷ parts) found.closed) whole c.closed.tape l.found c.here.items c.closed.is c.closed.there (contains_found (q ∷ parts) l there) c.closed.front)

pub record FoundOn (slots : List Slot) (parts : List Located) (d : DumpRecordFields) (tape : ℕ) (p : TapePart) : Type 0 where
  pub part : Located
  pub there : Contains parts part
  pub closed : IsClosedAt slots part
  pub place : tape_part part.found ≡ p
  pub number : p.tape ≡ tape
  pub lies : LiesOn d p closed.here.items
  pub held : holds d tape closed.here.items ≡ true

-- wherever the record of a dump that is found has a place for a tape, the part lies there and is held
pub found_on : (slots : List Slot) (parts : List Located) (d : DumpRecordFields) (tape : ℕ) (p : TapePart) → IsFound slots parts d → place_of d tape ≡ Some p → FoundOn slots parts d tape p
found_on slots parts d tape p found place =
    let at = found_place (map (λ l. l.found) parts) tape p (ap (λ (ts : List TapePart). find (λ x. x.tape == tape) ts) (sym (tapes_of_found slots parts d found)) ∙ place) in
    let l = contains_map (λ (x : Located). x.found) parts at.0 at.1 in
    let c : IsClosedAt slots l.0 = All-contains (IsClosedAt slots) parts l.0 found.closed l.1 in
    let same : tape_part l.0.found ≡ p = ap tape_part l.2 ∙ at.2 in
    let lies : LiesOn d p c.here.items = subst (λ (x : TapePart). LiesOn d x c.here.items) same (part_lies slots parts d l.0 c found l.1) in
    record { part = l.0; there = l.1; closed = c; place = same; number = at.3; lies = lies; held = lies_held d tape p c.here.items place at.3 lies }

-- ---- scans

-- all tapes of a dump that is found whole are held
pub found_held : (slots : List Slot) (parts : List Located) (d : DumpRecordFields) → IsFound slots parts d → IsHeld d slots
found_held slots parts d found p named =
    let founds : List FoundPart = map (λ (y : Located). y.found) parts in
    let tapes : d.tapes ≡ map tape_part founds = tapes_of_found slots parts d found in
    let q = contains_map tape_part founds p (subst (λ (ts : List TapePart). Contains ts p) tapes named) in
    let l = contains_map (λ (y : Located). y.found) parts q.0 q.1 in
    let c : IsClosedAt slots l.0 = All-contains (IsClosedAt slots) parts l.0 found.closed l.1 in
    let number : l.0.found.part.head.tape ≡ p.tape = ap (λ (y : FoundPart). y.part.head.tape) l.2 ∙ ap (λ (y : TapePart). y.tape) q.2 in
    let place : place_of d l.0.found.part.head.tape ≡ Some (tape_part l.0.found) =
    ap (λ (ts : List TapePart). find (λ (x : TapePart). x.tape == l.0.found.part.head.tape) ts) tapes ∙ own_place founds l.0.found (whole_linked slots parts d found) (contains_found parts l.0 l.1) in
    let there : holds d l.0.found.part.head.tape c.here.items ≡ true = lies_held d l.0.found.part.head.tape (tape_part l.0.found) c.here.items place refl (part_lies slots parts d l.0 c found l.1) in
    (l.0.slot, c.here, c.at, subst (λ (n : ℕ). holds d n c.here.items ≡ true) number there)
