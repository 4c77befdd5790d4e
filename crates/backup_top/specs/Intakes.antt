-- What was taken of an input.
use Rattle.std.specs.Prelude.{◌≡◌, ℕ, ◌+◌, ◌<◌, ◌≤◌, List, [], ◌++◌, length, Bool, true, false, Result, Ok, Err}
use Rattle.backup_top.specs.declared.input.ReadStop.{ReadStop}
use Rattle.backup_top.specs.declared.input.ReadStop.TheVariants.{Failed, TooLong, Memory}
use Rattle.backup_top.specs.Inputs.{TookUpTo, most_input}
use Rattle.dump_stream.specs.declared.input.InputReader.{InputReader}
use Rattle.dump_stream.specs.Inputs.{HasTaken}

-- a piece was taken behind these bytes
pub record TookPiece (tells : Type 0) (old new : List ℕ) (room : ℕ) (bytes : List ℕ) (input : InputReader) : Type 0 where
  pub piece : List ℕ
  pub some : 0 < length piece
  pub few : length piece ≤ room
  pub holds : HasTaken (bytes ++ piece) input
  pub is : tells → old ≡ piece ++ new

-- the next piece of a source was taken, or it has ended, or it is as the error says
abbrev pub TakesNext : Type 0 → List ℕ → List ℕ → ℕ → List ℕ → InputReader → Result Bool ReadStop → Type 0
TakesNext tells old new room bytes input (Ok true) = TookPiece tells old new room bytes input
TakesNext tells old new room bytes input (Ok false) = HasTaken bytes input × (tells → (old ≡ []) × (new ≡ []))
TakesNext tells old new room bytes input (Err e) = tells → TookUpTo room old new

-- all of a source was taken, or it is as the error says
abbrev pub TakesAll : Type 0 → List ℕ → List ℕ → InputReader → Result (Unit {0}) ReadStop → Type 0
TakesAll tells old new input (Ok done) = (bytes : List ℕ) × HasTaken bytes input × (length bytes ≤ most_input) × (tells → (old ≡ bytes) × (new ≡ []))
TakesAll tells old new input (Err TooLong) = tells → (most_input < length old) × TookUpTo (most_input + 1) old new
TakesAll tells old new input (Err Failed) = tells → TookUpTo (most_input + 1) old new
TakesAll tells old new input (Err Memory) = tells → TookUpTo (most_input + 1) old new
