-- What a clock has left after a look at it.
use Rattle.std.proofs.Common.{ℕ, ◌<◌, ◌≤◌, List, [], ◌∷◌, length, drop, arith, length-drop}

-- the first moment is taken off where it isn't the last one
abbrev pub later : List ℕ → List ℕ
later [] = []
later (m ∷ []) = m ∷ []
later (m ∷ n ∷ ms) = n ∷ ms

pub rest_some : (ms : List ℕ) (at : ℕ) → at < length ms → 1 ≤ length (drop at ms)
rest_some ms at within = omega (arith, within, length-drop at ms)
