-- How long a list is with one more in its place.
use Rattle.std.proofs.Common.{suc, ◌≡◌, ◌+◌, ◌<◌, ◌≤◌, cond, List, [], ◌∷◌, length, arith}
use Rattle.std.specs.Prelude.{Some}
use Rattle.std.specs.declared.cmp.Ordering.{Ordering}
use Rattle.std.specs.declared.cmp.Ordering.TheVariants.{Less, Equal, Greater}
use Rattle.std.specs.Ordering.{is_lt, is_eq, is_gt}
use Rattle.std.proofs.lemmas.List.{length-append}
use Rattle.cell_core.specs.Orders.{of_key, before_key, behind_key, placed}

module _ {A K : Type 0} (order : K → K → Ordering) (key : A → K) where
  -- none stands both before a key and behind it
  sides_few : (k : K) (xs : List A) → length (before_key order key k xs) + length (behind_key order key k xs) ≤ length xs
  sides_few k [] = omega arith
  sides_few k (x ∷ xs) =
      let rest = sides_few k xs in
      elim (order (key x) k) as (λ o. length (cond (is_lt o) (x ∷ before_key order key k xs) (before_key order key k xs)) + length (cond (is_gt o) (x ∷ behind_key order key k xs) (behind_key order key k xs)) ≤ length (x ∷ xs)) [
        | Less ↦ omega (arith, rest)
        | Equal ↦ omega (arith, rest)
        | Greater ↦ omega (arith, rest)
      ]

  -- and one that has the key stands on neither side
  sides_fewer : (k : K) (xs : List A) (a : A) → of_key order key k xs ≡ Some a → length (before_key order key k xs) + length (behind_key order key k xs) < length xs
  sides_fewer k [] a h = absurd cc
  sides_fewer k (x ∷ xs) a h =
      elim (order (key x) k) as (λ o. cond (is_eq o) (Some x) (of_key order key k xs) ≡ Some a
      → length (cond (is_lt o) (x ∷ before_key order key k xs) (before_key order key k xs)) + length (cond (is_gt o) (x ∷ behind_key order key k xs) (behind_key order key k xs)) < length (x ∷ xs)) [
        | Less ↦ λ g. omega (arith, sides_fewer k xs a g)
        | Equal ↦ λ g. omega (arith, sides_few k xs)
        | Greater ↦ λ g. omega (arith, sides_fewer k xs a g)
      ] h

  pub placed_more : (a : A) (xs : List A) → length (placed order key a xs) ≤ suc (length xs)
  placed_more a xs = omega (arith, sides_few (key a) xs, length-append (before_key order key (key a) xs) (a ∷ behind_key order key (key a) xs))

  pub placed_over : (a b : A) (xs : List A) → of_key order key (key a) xs ≡ Some b → length (placed order key a xs) ≤ length xs
  placed_over a b xs h = omega (arith, sides_fewer (key a) xs b h, length-append (before_key order key (key a) xs) (a ∷ behind_key order key (key a) xs))
