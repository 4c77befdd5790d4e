-- What reading an input leaves of its source.
use Rattle.std.specs.Prelude.{◌≡◌, ℕ, ◌+◌, ◌<◌, ◌≤◌, List, [], ◌++◌, length, Result, Ok, Err}
use Rattle.dump_stream.specs.declared.input.Input.{Input}
use Rattle.backup_top.specs.declared.input.ReadStop.{ReadStop}
use Rattle.backup_top.specs.declared.input.ReadStop.TheVariants.{Failed, TooLong, Memory}
use Rattle.dump_stream.specs.Inputs.{IsInput}

-- the most bytes that an input may have
abbrev pub most_input : ℕ
most_input = 536870912

-- at most so many bytes were taken of what was left
pub record TookUpTo (most : ℕ) (old new : List ℕ) : Type 0 where
  pub piece : List ℕ
  pub few : length piece ≤ most
  pub is : old ≡ piece ++ new

-- An input was read to its end, and it is this; or it wasn't: it is longer than an input may be, or a read failed or
-- memory ran out before. At most one byte more was taken than an input may have.
abbrev pub ReadsInput : List ℕ → List ℕ → Result Input ReadStop → Type 0
ReadsInput old new (Ok examined) = (new ≡ []) × (length old ≤ most_input) × IsInput old examined
ReadsInput old new (Err TooLong) = (most_input < length old) × TookUpTo (most_input + 1) old new
ReadsInput old new (Err Failed) = TookUpTo (most_input + 1) old new
ReadsInput old new (Err Memory) = TookUpTo (most_input + 1) old new
