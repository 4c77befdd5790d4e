-- Laws on fronts of what was told.
use Rattle.std.proofs.Common.{◌≡◌, inl, inr, ℕ, ◌+◌, ◌<◌, ◌≤◌, List, ◌++◌, length, take, sym, ◌∙◌, ap, arith}
use Rattle.std.proofs.lemmas.Bool.{cases_lt}
use Rattle.std.proofs.lemmas.List.{take_all, take-append-le, length-take-le}
use Rattle.std.proofs.Math.Seq.{take-append_seam, take-append-add}
use Rattle.crash_moments.specs.Telling.{IsFront}

-- the whole of it is one
pub whole_front : (front whole : List ℕ) → front ≡ whole → IsFront front whole
whole_front front whole is = (length whole, is ∙ sym (take_all (length whole) whole (omega arith)))

-- a front stays one where more is told
pub front_more : (front whole more : List ℕ) → IsFront front whole → IsFront front (whole ++ more)
front_more front whole more (n, is) = elim (cases_lt (length whole) n) [
  | inl past ↦ (length whole, is ∙ take_all n whole (omega arith) ∙ sym (take-append_seam whole more))
  | inr within ↦ (n, is ∙ sym (take-append-le n whole more within))
]

-- all that was told, with a front of a piece behind it
pub front_part : (whole piece : List ℕ) (n : ℕ) (front : List ℕ) → front ≡ whole ++ take n piece → IsFront front (whole ++ piece)
front_part whole piece n front is = (length whole + n, is ∙ sym (take-append-add whole piece n))

-- how long it is
pub front_size : (front whole : List ℕ) → IsFront front whole → front ≡ take (length front) whole
front_size front whole (n, is) = elim (cases_lt (length whole) n) [
  | inl past ↦
      let size : length front ≡ length whole = ap length (is ∙ take_all n whole (omega arith)) in
      is ∙ take_all n whole (omega arith) ∙ sym (take_all (length front) whole (omega (arith, size)))
  | inr within ↦
      let size : length front ≡ n = ap length is ∙ length-take-le n whole within in
      is ∙ ap (λ (m : ℕ). take m whole) (sym size)
]
