-- Slots that are tried one after the other.
use Rattle.std.proofs.Common.{◌≡◌, inl, inr, ℕ, ◌+◌, ◌<◌, ◌≤◌, true, false, List, sym, ◌∙◌, ap}
use Rattle.std.specs.Prelude.{Option, Some, None, slice_get, nat_le, ◌&&◌}
use Rattle.std.proofs.lemmas.Bool.{cases_Bool, and_from, le-leb}
use Rattle.tape_config.specs.declared.port.PortFields.{PortFields}
use Rattle.tape_scan.specs.Slots.{Slot}
use Rattle.tape_choice.specs.Choice.{is_among}
use Rattle.tape_choice.proofs.SlotLaws.{none_of_all, first_of_all}
use Rattle.tape_choice.proofs.Tries.{before_fails, among_fails}
use Rattle.budb_save.specs.declared.choosing.Wish.{Wish}
use Rattle.budb_save.specs.declared.choosing.Picked.{Picked}
use Rattle.budb_save.specs.Choice.{slot_fits, picked, picking, pick_of, pick_at}

pub pick_none : (wish : Wish) (k : ℕ) (s : Slot) (o : Option Picked) → ((c : Picked) → o ≡ Some c → ⊥) → o ≡ pick_at wish k s → slot_fits wish s ≡ false
pick_none wish k s o never is = elim (cases_Bool (slot_fits wish s)) [
  | inl hit ↦ absurd (never (picking k s.items) (rw hit at is))
  | inr miss ↦ miss
]

pub pick_found : (wish : Wish) (port : PortFields) (slots : List Slot) (k : ℕ) (s : Slot) (c : Picked) → port.first ≤ k → k ≤ port.last → slice_get slots k ≡ Some s
    → Some c ≡ pick_at wish k s → ((j : ℕ) (t : Slot) → port.first ≤ j → j < k → slice_get slots j ≡ Some t → slot_fits wish t ≡ false)
    → Some c ≡ pick_of (picked wish port slots)
pick_found wish port slots k s c low high at is none = elim (cases_Bool (slot_fits wish s)) [
  | inl hit ↦
      (let same : Some c ≡ Some (picking k s.items) = rw hit at is in
      let among : is_among port k ≡ true = and_from (nat_le port.first k) (nat_le k port.last) (le-leb port.first k low) (le-leb k port.last high) in
      let found : picked wish port slots ≡ Some (k, s) = first_of_all (λ (j : ℕ) (t : Slot). is_among port j && slot_fits wish t) slots k s at (and_from (is_among port k) (slot_fits wish s) among hit)
      (λ j t below here. before_fails port (slot_fits wish t) j (λ first. none j t first below here)) in
      same ∙ ap pick_of (sym found))
  | inr miss ↦ (let same : Some c ≡ None = rw miss at is in absurd (cc))
]

pub none_picked : (wish : Wish) (port : PortFields) (slots : List Slot) → ((k : ℕ) (s : Slot) → port.first ≤ k → k < port.last + 1 → slice_get slots k ≡ Some s → slot_fits wish s ≡ false)
    → None ≡ pick_of (picked wish port slots)
none_picked wish port slots none =
    let found : picked wish port slots ≡ None = none_of_all (λ (j : ℕ) (t : Slot). is_among port j && slot_fits wish t) slots (λ k s at. among_fails port (slot_fits wish s) k (λ low high. none k s low high at)) in
    ap pick_of (sym found)
