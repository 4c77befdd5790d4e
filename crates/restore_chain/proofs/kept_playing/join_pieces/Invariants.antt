use Rattle.std.proofs.Common.{take}
use Rattle.dump_stream.specs.Inputs.{IsOpen}
use Rattle.restore_chain.specs.Playing.{Joins}
use Rattle.restore_chain.proofs.kept_playing.join_pieces.Given as goal

abbrev pub invariant-loop-kept : goal.invariant-loop-kept
invariant-loop-kept l = record {
  joins : Joins (take l.kept-index l.pieces) l.fn.joined l.joined;
  is_open : IsOpen l.joined.input;
}
