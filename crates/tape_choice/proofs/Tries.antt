-- Slots that are tried one after the other, and the chain of parents step by step.
use Rattle.std.proofs.Common.{suc, ◌≡◌, inl, inr, ℕ, ◌+◌, ◌-◌, ◌<◌, ◌≤◌, Bool, true, false, List, [], ◌∷◌, ◌++◌, length, map, refl, sym, ◌∙◌, ap, subst, arith, append_assoc}
use Rattle.std.specs.Prelude.{Option, Some, None, slice_get, nat_le, ◌&&◌}
use Rattle.std.proofs.lemmas.Bool.{cases_Bool, and_from, le-leb, leb-true}
use Rattle.tape_config.specs.declared.port.PortFields.{PortFields}
use Rattle.budb_changes.specs.declared.records.DumpRecordFields.{DumpRecordFields}
use Rattle.budb_fold.specs.Lookups.{record_of}
use Rattle.tape_scan.specs.Slots.{Slot}
use Rattle.tape_choice.specs.declared.wanting.Wanting.{Wanting}
use Rattle.tape_choice.specs.declared.choosing.Chosen.{Chosen}
use Rattle.tape_choice.specs.Choice.{slot_passes, is_among, chosen, taking, choice_of, choice_at, upwards}
use Rattle.tape_choice.proofs.SlotLaws.{none_of_all, first_of_all}

-- ---- tests of a coordinator's slots

and_false : (a : Bool) → (a && false) ≡ false
and_false true = refl
and_false false = refl

-- a slot that isn't below the first one, or doesn't pass
pub before_fails : (port : PortFields) (passes : Bool) (k : ℕ) → (port.first ≤ k → passes ≡ false) → (is_among port k && passes) ≡ false
before_fails port passes k fails = elim (cases_Bool (nat_le port.first k)) [
  | inl low ↦ ap (λ (b : Bool). is_among port k && b) (fails (leb-true port.first k low)) ∙ and_false (is_among port k)
  | inr not_low ↦ ap (λ (b : Bool). (b && nat_le k port.last) && passes) not_low
]

-- a slot of the coordinator that doesn't pass, or one that isn't the coordinator's
pub among_fails : (port : PortFields) (passes : Bool) (k : ℕ) → (port.first ≤ k → k < port.last + 1 → passes ≡ false) → (is_among port k && passes) ≡ false
among_fails port passes k fails = elim (cases_Bool (nat_le k port.last)) [
  | inl low ↦ before_fails port passes k (λ first. fails first (let last = leb-true k port.last low in omega arith))
  | inr past ↦ ap (λ (b : Bool). (nat_le port.first k && b) && passes) past ∙ ap (λ (b : Bool). b && passes) (and_false (nat_le port.first k))
]

-- ---- the choice

pub choice_none : (listed : List DumpRecordFields) (w : Wanting) (k : ℕ) (s : Slot) (o : Option Chosen) → ((c : Chosen) → o ≡ Some c → ⊥) → o ≡ choice_at listed w k s → slot_passes listed w k s ≡ false
choice_none listed w k s o never is = elim (cases_Bool (slot_passes listed w k s)) [
  | inl hit ↦ absurd (never (taking listed k s.items) (rw hit at is))
  | inr miss ↦ miss
]

pub choice_found : (listed : List DumpRecordFields) (w : Wanting) (port : PortFields) (slots : List Slot) (k : ℕ) (s : Slot) (c : Chosen) → port.first ≤ k → k ≤ port.last → slice_get slots k ≡ Some s
    → Some c ≡ choice_at listed w k s → ((j : ℕ) (t : Slot) → port.first ≤ j → j < k → slice_get slots j ≡ Some t → slot_passes listed w j t ≡ false)
    → Some c ≡ choice_of listed (chosen listed w port slots)
choice_found listed w port slots k s c low high at is none = elim (cases_Bool (slot_passes listed w k s)) [
  | inl hit ↦
      (let same : Some c ≡ Some (taking listed k s.items) = rw hit at is in
      let among : is_among port k ≡ true = and_from (nat_le port.first k) (nat_le k port.last) (le-leb port.first k low) (le-leb k port.last high) in
      let found : chosen listed w port slots ≡ Some (k, s) = first_of_all (λ (j : ℕ) (t : Slot). is_among port j && slot_passes listed w j t) slots k s at (and_from (is_among port k) (slot_passes listed w k s) among hit)
      (λ j t below here. before_fails port (slot_passes listed w j t) j (λ first. none j t first below here)) in
      same ∙ ap (choice_of listed) (sym found))
  | inr miss ↦ (let same : Some c ≡ None = rw miss at is in absurd (cc))
]

pub none_found : (listed : List DumpRecordFields) (w : Wanting) (port : PortFields) (slots : List Slot) → ((k : ℕ) (s : Slot) → port.first ≤ k → k < port.last + 1 → slice_get slots k ≡ Some s → slot_passes listed w k s ≡ false)
    → None ≡ choice_of listed (chosen listed w port slots)
none_found listed w port slots none =
    let found : chosen listed w port slots ≡ None = none_of_all (λ (j : ℕ) (t : Slot). is_among port j && slot_passes listed w j t) slots (λ k s at. among_fails port (slot_passes listed w k s) k (λ low high. none k s low high at)) in
    ap (choice_of listed) (sym found)

-- ---- the chain of parents

pub one_up : (listed : List DumpRecordFields) (initials pushed : List ℕ) (i next : ℕ) (d x y : DumpRecordFields) (all : List ℕ) → i < length listed → record_of listed next ≡ Some d → x ≡ d → y ≡ d → pushed ≡ initials ++ x.initial ∷ []
    → initials ++ map (λ (e : DumpRecordFields). e.initial) (upwards listed (length listed - i) (record_of listed next)) ≡ all
    → pushed ++ map (λ (e : DumpRecordFields). e.initial) (upwards listed (length listed - (i + 1)) (record_of listed y.parent)) ≡ all
one_up listed initials pushed i next d x y all below is same_x same_y grown so_far =
    let rest = λ (z : DumpRecordFields). map (λ (e : DumpRecordFields). e.initial) (upwards listed (length listed - (i + 1)) (record_of listed z.parent)) in
    let more : length listed - i ≡ suc (length listed - (i + 1)) = omega arith in
    let before : initials ++ map (λ (e : DumpRecordFields). e.initial) (upwards listed (suc (length listed - (i + 1))) (record_of listed next)) ≡ all = subst (λ (n : ℕ). initials ++ map (λ (e : DumpRecordFields). e.initial) (upwards listed n (record_of listed next)) ≡ all) more so_far in
    let here : initials ++ (d.initial ∷ rest d) ≡ all = subst (λ (o : Option DumpRecordFields). initials ++ map (λ (e : DumpRecordFields). e.initial) (upwards listed (suc (length listed - (i + 1))) o) ≡ all) is before in
    ap (λ (l : List ℕ). l ++ rest y) (grown ∙ ap (λ (z : DumpRecordFields). initials ++ z.initial ∷ []) same_x)
    ∙ ap (λ (z : DumpRecordFields). (initials ++ d.initial ∷ []) ++ rest z) same_y ∙ append_assoc initials (d.initial ∷ []) (rest d) ∙ here
