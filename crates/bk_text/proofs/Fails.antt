-- How a place is shown.
use Rattle.std.proofs.Common.{◌≡◌, ℕ, ◌+◌, ◌<◌, ◌≤◌, List, [], ◌++◌, length, take, drop, sym, ◌∙◌, ap, subst, arith, append_assoc, inl, inr}
use Rattle.std.proofs.lemmas.Bool.{cases_lt}
use Rattle.std.proofs.lemmas.List.{take-append-drop, take-take, take_all, append-nil}
use Rattle.bk_text.specs.Places.{Begun, FailsAt}

-- what is whole begins itself
pub whole_begun : (Form : List ℕ → Type 0) (text : List ℕ) → Form text → Begun Form text
whole_begun Form text form = ([], subst Form (sym (append-nil text)) form)

-- a front of what begins a text begins one
pub front_begun : (Form : List ℕ → Type 0) (front more : List ℕ) → Begun Form (front ++ more) → Begun Form front
front_begun Form front more (rest, form) = (more ++ rest, subst Form (append_assoc front more rest) form)

-- a byte that no text of the form has there
pub stops_at : (Form : List ℕ → Type 0) (text : List ℕ) (at : ℕ) → at < length text → Begun Form (take at text) → (Begun Form (take (at + 1) text) → ⊥) → FailsAt Form text at
stops_at Form text at within before here = record {
  within = omega arith;
  before = before;
  here = λ _. here;
  not_whole = λ form. here (front_begun Form (take (at + 1) text) (drop (at + 1) text) (subst (Begun Form) (sym (take-append-drop (at + 1) text)) (whole_begun Form text form)));
}

-- a text that only begins one of the form
pub ends_early : (Form : List ℕ → Type 0) (text : List ℕ) → Begun Form text → (Form text → ⊥) → FailsAt Form text (length text)
ends_early Form text begun not_whole = record {
  within = omega arith;
  before = subst (Begun Form) (sym (take_all (length text) text (omega arith))) begun;
  here = λ lt. absurd (omega arith);
  not_whole = not_whole;
}

short : (a b n : ℕ) → a < b → b ≤ n → a < n
short a b n less within = omega arith

-- a place that is told is the only one
later : (Form : List ℕ → Type 0) (text : List ℕ) (a b : ℕ) → FailsAt Form text a → FailsAt Form text b → a < b → ⊥
later Form text a b first second less =
    let front : take (a + 1) (take b text) ≡ take (a + 1) text = take-take (a + 1) b text (omega arith) in
    let joined : take (a + 1) text ++ drop (a + 1) (take b text) ≡ take b text = ap (λ (l : List ℕ). l ++ drop (a + 1) (take b text)) (sym front) ∙ take-append-drop (a + 1) (take b text) in
    let in_text : a < length text = short a b (length text) less second.within in
    first.here in_text (front_begun Form (take (a + 1) text) (drop (a + 1) (take b text)) (subst (Begun Form) (sym joined) second.before))

pub one_place : (Form : List ℕ → Type 0) (text : List ℕ) (a b : ℕ) → FailsAt Form text a → FailsAt Form text b → a ≡ b
one_place Form text a b first second = elim (cases_lt a b) [
  | inl less ↦ absurd (later Form text a b first second less)
  | inr more ↦ elim (cases_lt b a) [
    | inl less ↦ absurd (later Form text b a second first less)
    | inr same ↦ omega arith
  ]
]
