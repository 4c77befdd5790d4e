-- Slots that are tried for an append, one after the other, and the pieces of a place.
use Rattle.std.proofs.Common.{◌≡◌, inl, inr, ℕ, ◌+◌, ◌-◌, ◌<◌, ◌≤◌, Bool, true, false, List, length, take, refl, sym, ◌∙◌, ap}
use Rattle.std.specs.Prelude.{Option, Some, None, slice_get, nat_le, ◌==◌, ◌&&◌, if◌then◌else◌}
use Rattle.std.specs.List.{count_by}
use Rattle.std.proofs.lemmas.Bool.{cases_Bool, and_from, le-leb, lt-leb}
use Rattle.tape_config.specs.declared.port.PortFields.{PortFields}
use Rattle.tape_text.specs.Items.{Item}
use Rattle.tape_scan.specs.Slots.{Slot}
use Rattle.archive_model.specs.Holding.{holds, holds_at, is_so, is_label_frame, is_head_frame}
use Rattle.tape_choice.specs.declared.places.Place.{Place}
use Rattle.tape_choice.specs.Reads.{label_in}
use Rattle.tape_choice.specs.Choice.{is_among, permanent_in}
use Rattle.tape_choice.specs.Append.{is_mark, is_as_told, append_passes, append_slot, place_behind, LastPart}
use Rattle.tape_choice.specs.Surveys.{survey_of, IsPlace, name_of, front_of, stands_on, place_with, behind_with, place_at, place_in}
use Rattle.tape_choice.proofs.SlotLaws.{none_of_all, first_of_all}
use Rattle.tape_choice.proofs.Tries.{before_fails, among_fails}

-- ---- the slots

pub place_none : (l : LastPart) (whole : ℕ → Bool) (k : ℕ) (s : Slot) (o : Option Place) → ((p : Place) → o ≡ Some p → ⊥) → o ≡ place_at l whole k s → append_passes l.dump l.part whole k s ≡ false
place_none l whole k s o never is = elim (cases_Bool (append_passes l.dump l.part whole k s)) [
  | inl hit ↦ absurd (never (place_behind l.dump l.part k s.items) (rw hit at is))
  | inr miss ↦ miss
]

pub place_found : (l : LastPart) (port : PortFields) (whole : ℕ → Bool) (slots : List Slot) (k : ℕ) (s : Slot) (p : Place) → port.first ≤ k → k ≤ port.last → slice_get slots k ≡ Some s
    → Some p ≡ place_at l whole k s → ((j : ℕ) (t : Slot) → port.first ≤ j → j < k → slice_get slots j ≡ Some t → append_passes l.dump l.part whole j t ≡ false)
    → Some p ≡ place_in l (append_slot l.dump l.part port whole slots)
place_found l port whole slots k s p low high at is none = elim (cases_Bool (append_passes l.dump l.part whole k s)) [
  | inl hit ↦
      (let same : Some p ≡ Some (place_behind l.dump l.part k s.items) = rw hit at is in
      let among : is_among port k ≡ true = and_from (nat_le port.first k) (nat_le k port.last) (le-leb port.first k low) (le-leb k port.last high) in
      let found : append_slot l.dump l.part port whole slots ≡ Some (k, s) = first_of_all (λ (j : ℕ) (t : Slot). is_among port j && append_passes l.dump l.part whole j t) slots k s at (and_from (is_among port k) (append_passes l.dump l.part whole k s) among hit)
      (λ j t below here. before_fails port (append_passes l.dump l.part whole j t) j (λ first. none j t first below here)) in
      same ∙ ap (place_in l) (sym found))
  | inr miss ↦ (let same : Some p ≡ None = rw miss at is in absurd (cc))
]

pub none_placed : (l : LastPart) (port : PortFields) (whole : ℕ → Bool) (slots : List Slot) → ((k : ℕ) (s : Slot) → port.first ≤ k → k < port.last + 1 → slice_get slots k ≡ Some s → append_passes l.dump l.part whole k s ≡ false)
    → None ≡ place_in l (append_slot l.dump l.part port whole slots)
none_placed l port whole slots none =
    let found : append_slot l.dump l.part port whole slots ≡ None = none_of_all (λ (j : ℕ) (t : Slot). is_among port j && append_passes l.dump l.part whole j t) slots (λ k s at. among_fails port (append_passes l.dump l.part whole k s) k (λ low high. none k s low high at)) in
    ap (place_in l) (sym found)

-- ---- one slot

-- a tape is held where its label and the head are those of the record
held_is : (l : LastPart) → IsPlace l → (items : List Item) → holds l.dump l.part.tape items ≡ (is_so (is_label_frame l.dump.initial l.part.tape) (slice_get items 0) && is_so (is_head_frame l.dump.id l.part.tape) (slice_get items l.part.first))
held_is l place items = ap (λ o. holds_at o l.dump l.part.tape items) place

-- a slot that is here with the tape's label
pub same_label : (l : LastPart) (whole : ℕ → Bool) (k : ℕ) (s : Slot) (name : List ℕ) → IsPlace l → s.here ≡ true → Some name ≡ name_of l.dump.initial l.part.tape s.items
    → behind_with l k name (stands_on l (whole k) s.items) ≡ place_at l whole k s
same_label l whole k s name place here is =
    go (is_so (is_label_frame l.dump.initial l.part.tape) (slice_get s.items 0)) (is_so (is_head_frame l.dump.id l.part.tape) (slice_get s.items l.part.first)) (whole k && is_as_told l.part s.items) refl refl refl
  where
    go : (a b c : Bool) → is_so (is_label_frame l.dump.initial l.part.tape) (slice_get s.items 0) ≡ a → is_so (is_head_frame l.dump.id l.part.tape) (slice_get s.items l.part.first) ≡ b → whole k && is_as_told l.part s.items ≡ c
        → behind_with l k name (stands_on l (whole k) s.items) ≡ place_at l whole k s
    go false b c e f h = let none : Some name ≡ None = rw e at is in absurd (cc)
    go true false c e f h =
        let held : holds l.dump l.part.tape s.items ≡ false = rw (e, f) at (held_is l place s.items) in
        rw (f, here, held) refl
    go true true true e f h =
        let named : Some name ≡ Some (permanent_in (label_in s.items)) = rw e at is in
        let same : name ≡ permanent_in (label_in s.items) = cc in
        let held : holds l.dump l.part.tape s.items ≡ true = rw (e, f) at (held_is l place s.items) in
        rw (f, here, held, h) (ap (λ (n : List ℕ). Some (place_with l k (survey_of (take l.part.end s.items)) n)) same)
    go true true false e f h =
        let held : holds l.dump l.part.tape s.items ≡ true = rw (e, f) at (held_is l place s.items) in
        rw (f, here, held, h) refl

-- ---- the front of a tape

-- the head stands there, and so much as the record says
pub front_stands : (l : LastPart) (whole : Bool) (items : List Item) → is_so (is_head_frame l.dump.id l.part.tape) (slice_get items l.part.first) ≡ true → l.part.end ≤ length items → l.part.marks ≤ l.part.end - l.part.marks
    → front_of l.part.end l.part.marks whole items ≡ stands_on l whole items
front_stands l whole items head long few =
    let long_is = le-leb l.part.end (length items) long in
    let few_is = le-leb l.part.marks (l.part.end - l.part.marks) few in
    rw (head, long_is, few_is) (go whole (count_by is_mark (take l.part.end items) == l.part.marks) refl)
  where
    go : (a b : Bool) → (count_by is_mark (take l.part.end items) == l.part.marks) ≡ b
        → (if a && (count_by is_mark (take l.part.end items) == l.part.marks) then Some (survey_of (take l.part.end items)) else None)
        ≡ (if a && (true && ((count_by is_mark (take l.part.end items) == l.part.marks) && true)) then Some (survey_of (take l.part.end items)) else None)
    go true true e = rw e refl
    go true false e = rw e refl
    go false b e = refl

-- the tape ends too early
pub too_short : (l : LastPart) (whole : Bool) (items : List Item) → length items < l.part.end → None ≡ stands_on l whole items
too_short l whole items short =
    let long_is : nat_le l.part.end (length items) ≡ false = lt-leb l.part.end (length items) short in
    rw long_is (go (is_so (is_head_frame l.dump.id l.part.tape) (slice_get items l.part.first)) whole)
  where
    go : (a b : Bool) → None ≡ (if a && (b && false) then Some (survey_of (take l.part.end items)) else None)
    go true true = refl
    go true false = refl
    go false b = refl
