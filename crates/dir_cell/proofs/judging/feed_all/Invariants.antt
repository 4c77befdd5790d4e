use Rattle.dump_stream.specs.Inputs.{IsOpen}
use Rattle.dir_cell.proofs.judging.feed_all.Given as goal

abbrev pub invariant-loop : goal.invariant-loop
invariant-loop g l = IsOpen l.input
