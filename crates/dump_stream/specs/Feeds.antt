-- What feeding pieces answers.
use Rattle.std.specs.Prelude.{◌≡◌, ℕ, ◌+◌, ◌≤◌, List, ◌++◌, length, Result, Ok, Err}
use Rattle.vnode_model.specs.declared.increments.Increment.{Increment}
use Rattle.dump_stream.specs.declared.answers.StreamFault.{StreamFault}
use Rattle.dump_stream.specs.declared.answers.StreamFault.TheVariants.{Cut, Bad, Memory}
use Rattle.dump_stream.specs.declared.reader.Fed.{Fed}
use Rattle.dump_stream.specs.declared.reader.Fed.TheVariants.{More, Done}
use Rattle.dump_stream.specs.declared.reader.State.{State}
use Rattle.dump_stream.specs.declared.reader.State.TheVariants as states
use Rattle.dump_stream.specs.declared.reader.Reader.{Reader}
use Rattle.dump_stream.specs.declared.machine.Machine.{Machine}
use Rattle.dump_stream.specs.Sound.{IsSoundMachine}
use Rattle.dump_stream.specs.Reads.{Answers, IsAt}

-- A piece behind these bytes is answered as reading all of them is: More stands for Cut.
abbrev pub FeedAnswers : List ℕ → List ℕ → Result Fed StreamFault → Type 0
FeedAnswers bytes piece (Ok More) = Answers (bytes ++ piece) (Err Cut)
FeedAnswers bytes piece (Ok (Done used)) = (used ≤ length piece) × (i : Increment) × Answers (bytes ++ piece) (Ok (i, length bytes + used))
FeedAnswers bytes piece (Err Cut) = ⊥
FeedAnswers bytes piece (Err (Bad at)) = Answers (bytes ++ piece) (Err (Bad at))
FeedAnswers bytes piece (Err Memory) = Answers (bytes ++ piece) (Err Memory)

-- how a reader's machine, count of bytes and state stand after these bytes; of a lost one nothing is said
abbrev pub HasFedAt : List ℕ → Machine → ℕ → State → Type 0
HasFedAt bytes m count states.Going = IsAt bytes m × (count ≡ length bytes)
HasFedAt bytes m count (states.Finished i) = (n : ℕ) × Answers bytes (Ok (i, n))
HasFedAt bytes m count (states.Stuck at) = Answers bytes (Err (Bad at))
HasFedAt bytes m count states.Lost = Unit {0}

-- These bytes were fed so far. This word and those on how a reader stands are closed, so that a caller's proof sees no
-- more of a reader than they say.
unfoldable pub HasFed : List ℕ → Reader → Type 0
HasFed bytes r = HasFedAt bytes r.machine r.count r.state

-- What `finish` answers is what reading these bytes answers, but for the length of the stream.
abbrev pub FinishAnswers : List ℕ → Result Increment StreamFault → Type 0
FinishAnswers bytes (Ok i) = (n : ℕ) × Answers bytes (Ok (i, n))
FinishAnswers bytes (Err e) = Answers bytes (Err e)

-- ---- how a reader stands

-- no stream has ended, and nothing was refused
unfoldable pub IsGoing : Reader → Type 0
IsGoing r = r.state ≡ states.Going

-- a stream has ended
unfoldable pub IsDone : Reader → Type 0
IsDone r = (i : Increment) × (r.state ≡ states.Finished i)

-- a byte was refused, at this place
unfoldable pub IsStuck : ℕ → Reader → Type 0
IsStuck at r = r.state ≡ states.Stuck at

-- memory ran out
unfoldable pub IsLost : Reader → Type 0
IsLost r = r.state ≡ states.Lost

-- how a reader stands after an answer
abbrev pub Leaves : Result Fed StreamFault → Reader → Type 0
Leaves (Ok More) r = IsGoing r
Leaves (Ok (Done used)) r = IsDone r
Leaves (Err Cut) r = ⊥
Leaves (Err (Bad at)) r = IsStuck at r
Leaves (Err Memory) r = IsLost r

-- no stream has ended in this reader, and what it keeps is sound
abbrev pub IsUnfinishedAt : State → Machine → Type 0
IsUnfinishedAt states.Going m = IsSoundMachine m
IsUnfinishedAt (states.Finished i) m = ⊥
IsUnfinishedAt (states.Stuck at) m = Unit {0}
IsUnfinishedAt states.Lost m = Unit {0}

unfoldable pub IsUnfinished : Reader → Type 0
IsUnfinished r = IsUnfinishedAt r.state r.machine

-- After each answer but Done no stream has ended in the reader; after Done nothing is said.
abbrev pub StaysUnfinished : Result Fed StreamFault → Reader → Type 0
StaysUnfinished (Ok (Done used)) r = Unit {0}
StaysUnfinished (Ok More) r = IsUnfinished r
StaysUnfinished (Err e) r = IsUnfinished r
