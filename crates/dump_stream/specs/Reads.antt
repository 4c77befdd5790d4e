-- What reading bytes answers.
use Rattle.std.specs.Prelude.{◌≡◌, ◌↔◌, ◌⊎◌, ℕ, ◌+◌, ◌<◌, ◌≤◌, List, ◌∷◌, ◌++◌, length, take, Result, Ok, Err}
use Rattle.dump_stream.specs.declared.machine.Machine.{Machine}
use Rattle.dump_stream.specs.declared.machine.Ran.{Ran}
use Rattle.dump_stream.specs.declared.machine.Ran.TheVariants.{More, Ended, Stopped}
use Rattle.dump_stream.specs.declared.answers.StreamFault.{StreamFault}
use Rattle.dump_stream.specs.declared.answers.StreamFault.TheVariants.{Cut, Bad, Memory}
use Rattle.vnode_model.specs.declared.increments.Increment.{Increment}
use Rattle.dump_stream.specs.Stream.{Spells}
use Rattle.dump_stream.specs.Steps.{Ends, GoesOn, HasEnded, EndsWith}

-- these bytes begin a stream, or are one
abbrev pub Begins : List ℕ → Type 0
Begins bytes = (more : List ℕ) × (i : Increment) × Spells (bytes ++ more) i

-- they are a proper prefix of a stream
abbrev pub IsCut : List ℕ → Type 0
IsCut bytes = (b : ℕ) × (more : List ℕ) × (i : Increment) × Spells (bytes ++ b ∷ more) i

-- No prefix is a stream. The bytes before this place begin a stream, and with the next one they begin none.
pub record IsBad (bytes : List ℕ) (at : ℕ) : Type 0 where
  pub within : at < length bytes
  pub begins : Begins (take at bytes)
  pub stops : Begins (take (at + 1) bytes) → ⊥
  pub none : (n : ℕ) (i : Increment) → n ≤ length bytes → Spells (take n bytes) i → ⊥

-- the answer to these bytes, unless memory runs out
abbrev pub Answers : List ℕ → Result (Increment × ℕ) StreamFault → Type 0
Answers bytes (Ok found) = (found.1 ≤ length bytes) × Spells (take found.1 bytes) found.0
Answers bytes (Err Cut) = IsCut bytes
Answers bytes (Err (Bad at)) = IsBad bytes at
Answers bytes (Err Memory) = Unit {0}

-- ---- pieces

-- what ends a stream behind these bytes ends one from this machine
abbrev pub HasRead : List ℕ → Machine → Type 0
HasRead bytes m = GoesOn m × ((more : List ℕ) (i : Increment) → Spells (bytes ++ more) i ↔ Ends m more i)

-- a machine that has read these bytes, and no stream has ended
abbrev pub IsAt : List ℕ → Machine → Type 0
IsAt bytes m = HasRead bytes m × (HasEnded m → ⊥)

-- what a piece behind these bytes does
abbrev pub Runs : List ℕ → List ℕ → Ran → Machine → Type 0
Runs bytes piece More m = IsAt (bytes ++ piece) m
Runs bytes piece (Ended used) m = (used ≤ length piece) × (i : Increment) × Spells (bytes ++ take used piece) i × EndsWith m i
Runs bytes piece (Stopped at) m = (at < length piece) × Begins (bytes ++ take at piece) × (Begins (bytes ++ take (at + 1) piece) → ⊥)
    × ((n : ℕ) (i : Increment) → n ≤ length (bytes ++ piece) → Spells (take n (bytes ++ piece)) i → ⊥)

-- two answers that are one, unless memory ran out
abbrev pub Agree : Result (Increment × ℕ) StreamFault → Result (Increment × ℕ) StreamFault → Type 0
Agree a b = (a ≡ Err Memory) ⊎ ((b ≡ Err Memory) ⊎ (a ≡ b))
