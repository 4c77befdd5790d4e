-- What a whole input is, read as one stream.
use Rattle.std.specs.Prelude.{◌≡◌, ⊤, ℕ, ◌<◌, ◌≤◌, List, ◌++◌, take}
use Rattle.std.specs.Prelude.{length as count}
use Rattle.vnode_model.specs.declared.increments.Increment.{Increment}
use Rattle.dump_stream.specs.Stream.{Spells}
use Rattle.dump_stream.specs.Reads.{IsCut, IsBad}
use Rattle.dump_stream.specs.Feeds.{HasFed, IsUnfinished, IsGoing, IsDone}
use Rattle.dump_stream.specs.declared.reader.Reader.{Reader}
use Rattle.dump_stream.specs.declared.input.Input.{Input}
use Rattle.dump_stream.specs.declared.input.Input.TheVariants.{Stream, Cut, Bad, Followed}
use Rattle.dump_stream.specs.declared.input.Judged.{Judged}
use Rattle.dump_stream.specs.declared.input.Judged.TheVariants as judgements
use Rattle.dump_stream.specs.declared.input.InputReader.{InputReader}

-- a stream of so many bytes with bytes behind it
abbrev pub IsFollowed : List ℕ → ℕ → Type 0
IsFollowed bytes at = (at < count bytes) × (i : Increment) × Spells (take at bytes) i

-- The bytes are one stream; or a proper prefix of one, told with its length; or they stop being the front of one at a
-- place; or a stream with bytes behind it, told with its length.
abbrev pub IsInput : List ℕ → Input → Type 0
IsInput bytes (Stream i) = Spells bytes i
IsInput bytes (Cut length) = IsCut bytes × (length ≡ count bytes)
IsInput bytes (Bad at) = IsBad bytes at
IsInput bytes (Followed at) = IsFollowed bytes at

-- ---- while the input comes

-- a stream of so many bytes ended in these, and the reader was fed a front of them with all of it
pub record IsEnded (bytes : List ℕ) (reader : Reader) (at : ℕ) : Type 0 where
  pub front : List ℕ
  pub more : List ℕ
  pub is : bytes ≡ front ++ more
  pub fed : HasFed front reader
  pub done : IsDone reader
  pub within : at ≤ count front
  pub says : Increment
  pub spells : Spells (take at front) says

-- how these bytes are judged
abbrev pub HoldsAt : List ℕ → Reader → Judged → Type 0
HoldsAt bytes reader judgements.Going = HasFed bytes reader × IsUnfinished reader × IsGoing reader
HoldsAt bytes reader (judgements.Ended at) = IsEnded bytes reader at
HoldsAt bytes reader (judgements.Bad at) = IsBad bytes at

-- nothing was refused that the judgement needs: what taking more and ending ask for
abbrev pub IsOpenAt : Reader → Judged → Type 0
IsOpenAt reader judgements.Going = IsUnfinished reader × IsGoing reader
IsOpenAt reader (judgements.Ended at) = IsDone reader
IsOpenAt reader (judgements.Bad at) = ⊤

-- a reader of a whole input that may take the next piece, or be asked what the input is
abbrev pub IsOpen : InputReader → Type 0
IsOpen input = IsOpenAt input.reader input.judged

-- these bytes were taken so far
abbrev pub HasTaken : List ℕ → InputReader → Type 0
HasTaken bytes input = (input.taken ≡ count bytes) × HoldsAt bytes input.reader input.judged
