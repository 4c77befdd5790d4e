use Rattle.std.proofs.Common.{ℕ, ◌-◌, ◌≤◌, List, ◌++◌, length, take}
use Rattle.dump_stream.specs.Reads.{IsAt}
use Rattle.dump_stream.specs.Sound.{IsSoundMachine}
use Rattle.dump_stream.proofs.pieces.run.Given as goal

abbrev pub invariant-loop-at : goal.invariant-loop-at
invariant-loop-at l = record {
  sound : IsSoundMachine l.machine;
  within : l.at ≤ length l.piece;
  at : (bytes : List ℕ) → IsAt bytes l.fn.machine → IsAt (bytes ++ take l.at l.piece) l.machine;
}

abbrev pub decreases-loop-at : goal.decreases-loop-at
decreases-loop-at l = length l.piece - l.at
