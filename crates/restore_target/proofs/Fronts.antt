-- Fronts of lists.
use Rattle.std.proofs.Common.{zero, suc, ◌≡◌, ℕ, ◌+◌, List, [], ◌∷◌, ◌++◌, take, ◌∙◌, ap, arith}
use Rattle.std.specs.Prelude.{Some, None, slice_get}

-- a front with the next one behind it
pub front_more : {A : Type 0} (xs : List A) (i : ℕ) (x : A) → slice_get xs i ≡ Some x → take (i + 1) xs ≡ take i xs ++ x ∷ []
front_more [] i x is = let e : None ≡ Some x = is in cc
front_more (y ∷ ys) zero x is = let e : Some y ≡ Some x = is in let same : y ≡ x = cc in ap (λ z. z ∷ []) same
front_more {A} (y ∷ ys) (suc i) x is = ap (λ (n : ℕ). take n (y ∷ ys)) (next i) ∙ ap (λ (l : List A). y ∷ l) (front_more ys i x is)
  where
    next : (n : ℕ) → suc n + 1 ≡ suc (n + 1)
    next n = omega arith
