-- A search in halves finds the place of a key.
use Rattle.std.proofs.Common.{◌≡◌, ℕ, List, length, arith}
use Rattle.std.specs.Prelude.{Result, Ok, Err, MatchResult}
use Rattle.std.specs.List.Sorted.{IsBinarySearchResult, IsSearchInRange}
use Rattle.std.specs.declared.cmp.Ordering.{Ordering}
use Rattle.std.specs.Cmp.{IsTotalOrder}
use Rattle.std.specs.Fn.{Called, ComputesKey}
use Rattle.std.proofs.lemmas.Fn.{always_returns_same}
use denote.Ref.{Bor}
use denote.Param.Members.{Mut}
use Rattle.cell_core.specs.Orders.{AreAscending}
use Rattle.cell_core.specs.Places.{FoundAt, FreeAt}
use Rattle.cell_core.proofs.OrderLaws.{found_at, free_at, answers_rise}

module _ {A K : Type 0} (order : K → K → Ordering) (key : A → K) (total : IsTotalOrder order) where
  pub place_searched : (k : K) (xs : List A) (r : Result ℕ ℕ) → AreAscending order key xs → IsSearchInRange r (length xs) → IsBinarySearchResult (λ a. order (key a) k) xs r → MatchResult r (FoundAt order key k xs) (FreeAt order key k xs)
  place_searched k xs (Ok i) asc within is = found_at order key total k xs i asc within is
  place_searched k xs (Err i) asc within is =
      let parts = is (answers_rise order key total k xs asc) in
      free_at order key total k xs i within (λ n d lt. parts.0 n d (omega arith) lt) (λ n d from lt. parts.1 n d from lt)

  -- by the clause of the search, where each call compares the element's key
  pub place_from_clause : {F : Type 0} {g : Mut F (Bor A × Unit {0}) Ordering} {f : F} (k : K) (xs : List A) (r : Result ℕ ℕ) → AreAscending order key xs → IsSearchInRange r (length xs)
      → ((ord : A → Ordering) → ComputesKey g ord f → IsBinarySearchResult ord xs r) → ((a : Bor A × Unit {0}) (o : Ordering) (f' : F) → Called g f a o f' → (o ≡ order (key a.0.now) k) × (f' ≡ f))
      → MatchResult r (FoundAt order key k xs) (FreeAt order key k xs)
  place_from_clause {g = g} {f = f} k xs r asc within clause calls =
      place_searched k xs r asc within (clause (λ (a : A). order (key a) k) (always_returns_same g (λ a o. o ≡ order (key a.0.now) k) f calls))
