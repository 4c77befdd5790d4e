-- What was told on an output.
use Rattle.std.specs.Prelude.{◌≡◌, ℕ, List, ◌++◌, take, Result, Ok, Err}

-- a front of a list
abbrev pub IsFront : List ℕ → List ℕ → Type 0
IsFront front whole = (n : ℕ) × (front ≡ take n whole)

-- a list with more behind it
abbrev pub Extends : List ℕ → List ℕ → Type 0
Extends old new = (more : List ℕ) × (new ≡ old ++ more)

-- a front of a piece more was told
abbrev pub ToldPart : List ℕ → List ℕ → List ℕ → Type 0
ToldPart piece old new = (n : ℕ) × (new ≡ old ++ take n piece)

-- what of a piece was in progress: what was taken of it, or all of it where the call failed
abbrev pub in_progress : {E : Type 0} → Result ℕ E → List ℕ → List ℕ
in_progress (Ok n) piece = take n piece
in_progress (Err e) piece = piece
