-- Lists with one more behind them.
use Rattle.std.proofs.Common.{zero, suc, ◌≡◌, ◌⊎◌, ℕ, ◌<◌, List, [], ◌∷◌, ◌++◌, length, refl, arith, inl, inr}
use Rattle.std.specs.Prelude.{Some, slice_get}

pub get_more : {X : Type 0} (jobs : List X) (q : X) (k : ℕ) (r : X) → slice_get (jobs ++ q ∷ []) k ≡ Some r → ((k < length jobs) × (slice_get jobs k ≡ Some r)) ⊎ ((k ≡ length jobs) × (q ≡ r))
get_more [] q zero r at = (let same : q ≡ r = cc in inr (refl, same))
get_more [] q (suc k) r at = absurd (cc)
get_more (x ∷ jobs) q zero r at = inl (omega arith, at)
get_more (x ∷ jobs) q (suc k) r at = elim (get_more jobs q k r at) [
  | inl old ↦ inl (omega (arith, old.0), old.1)
  | inr new ↦ inr (omega (arith, new.0), new.1)
]

pub more_get : {X : Type 0} (jobs : List X) (q : X) (k : ℕ) (r : X) → slice_get jobs k ≡ Some r → slice_get (jobs ++ q ∷ []) k ≡ Some r
more_get [] q k r at = absurd (cc)
more_get (x ∷ jobs) q zero r at = at
more_get (x ∷ jobs) q (suc k) r at = more_get jobs q k r at
