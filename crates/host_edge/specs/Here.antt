-- Which slots have a file: laws.
use Rattle.std.proofs.Common.{◌≡◌, inl, inr, ◌-◌, ℕ, zero, suc, ◌<◌, ◌≤◌, Option, List, [], ◌∷◌, ◌++◌, length, get_or, refl, sym, arith}
use Rattle.std.proofs.lemmas.Bool.{cases_eq}
use Rattle.std.proofs.lemmas.Bool.Decides.{nat_tests}
use Rattle.std.specs.Prelude.{IsTrue, is_some, None}
use Rattle.host_edge.specs.Slots.{slot_at, is_here}

pub slot_below : {F : Type 0} (slots : List (Option F)) (k : ℕ) → IsTrue (is_some (slot_at slots k)) → k < length slots
slot_below [] k here = absurd (cc)
slot_below (slot ∷ slots) zero here = omega arith
slot_below (slot ∷ slots) (suc k) here = omega (arith, slot_below slots k here)

pub slot_is : {F : Type 0} (slots : List (Option F)) (k : ℕ) (slot : Option F) → k < length slots → slot ≡ get_or slots k slot → slot_at slots k ≡ slot
slot_is [] k slot below is = absurd (omega arith)
slot_is (x ∷ slots) zero slot below is = sym is
slot_is (x ∷ slots) (suc k) slot below is = slot_is slots k slot (omega arith) is

pub slot_past : {F : Type 0} (slots : List (Option F)) (k : ℕ) → length slots ≤ k → slot_at slots k ≡ None
slot_past [] k past = refl
slot_past (slot ∷ slots) zero past = absurd (omega arith)
slot_past (slot ∷ slots) (suc k) past = slot_past slots k (omega arith)

-- A file that is here is one of the 257.
pub here_below : {F : Type 0} (slots : List (Option F)) → length slots ≡ 256 → (f : ℕ) → IsTrue (is_here slots f) → f < 257
here_below slots all f here = elim (cases_eq f 0) [
  | inl is ↦ omega (arith, is)
  | inr other ↦ omega (arith, all, slot_below slots (f - 1) (grind (arith, here, other, nat_tests)))
]

-- ---- one more at the end

pub slot_front : {F : Type 0} (slots : List (Option F)) (slot : Option F) (k : ℕ) → k < length slots → slot_at (slots ++ slot ∷ []) k ≡ slot_at slots k
slot_front [] slot k below = absurd (omega arith)
slot_front (x ∷ slots) slot zero below = refl
slot_front (x ∷ slots) slot (suc k) below = slot_front slots slot k (omega arith)

pub slot_last : {F : Type 0} (slots : List (Option F)) (slot : Option F) → slot_at (slots ++ slot ∷ []) (length slots) ≡ slot
slot_last [] slot = refl
slot_last (x ∷ slots) slot = slot_last slots slot
