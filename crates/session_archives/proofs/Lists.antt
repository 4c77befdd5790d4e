-- Fronts and places of two lists, one behind the other.
use Rattle.std.proofs.Common.{◌≡◌, ℕ, zero, suc, ◌-◌, ◌<◌, ◌≤◌, Some, List, [], ◌∷◌, ◌++◌, length, take, ap, subst, ◌∙◌, arith}
use Rattle.std.specs.Prelude.{slice_get}

module _ {X : Type 0} where
  -- a front that reaches into the second list
  pub taken_behind : (xs ys : List X) (n : ℕ) → length xs ≤ n → take n (xs ++ ys) ≡ xs ++ take (n - length xs) ys
  taken_behind [] ys n le = (let same : n ≡ n - 0 = omega arith in ap (λ (k : ℕ). take k ys) same)
  taken_behind (x ∷ xs) ys zero le = absurd (omega (arith, le))
  taken_behind (x ∷ xs) ys (suc n) le =
      let same : n - length xs ≡ suc n - suc (length xs) = omega arith in
      ap (λ (l : List X). x ∷ l) (taken_behind xs ys n (omega (arith, le))) ∙ ap (λ (k : ℕ). x ∷ xs ++ take k ys) same

  -- what stands in the first list
  pub got_first : (xs ys : List X) (n : ℕ) (e : X) → n < length xs → slice_get (xs ++ ys) n ≡ Some e → slice_get xs n ≡ Some e
  got_first [] ys n e lt at = absurd (omega (arith, lt))
  got_first (x ∷ xs) ys zero e lt at = at
  got_first (x ∷ xs) ys (suc n) e lt at = got_first xs ys n e (omega (arith, lt)) at

  -- and in the second one
  pub got_second : (xs ys : List X) (n : ℕ) (e : X) → length xs ≤ n → slice_get (xs ++ ys) n ≡ Some e → slice_get ys (n - length xs) ≡ Some e
  got_second [] ys n e le at = (let same : n ≡ n - 0 = omega arith in subst (λ (k : ℕ). slice_get ys k ≡ Some e) same at)
  got_second (x ∷ xs) ys zero e le at = absurd (omega (arith, le))
  got_second (x ∷ xs) ys (suc n) e le at =
      let same : n - length xs ≡ suc n - suc (length xs) = omega arith in
      subst (λ (k : ℕ). slice_get ys k ≡ Some e) same (got_second xs ys n e (omega (arith, le)) at)
