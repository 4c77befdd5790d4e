-- The names of a dump's tapes.
use Rattle.std.specs.Prelude.{ℕ, List, ◌∷◌, ◌++◌}
use Rattle.std.specs.Fmt.{decimal}

-- what the dump's names begin with, a period, and the number of the tape
abbrev pub numbered : List ℕ → ℕ → List ℕ
numbered base number = base ++ 46 ∷ decimal number
