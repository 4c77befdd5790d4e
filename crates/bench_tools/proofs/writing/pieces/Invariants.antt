use Rattle.tape_writer.specs.Room.{HasRoom}
use Rattle.tape_writer.specs.Puts.{IsCounted, records_of}
use Rattle.bench_tools.proofs.writing.pieces.Given as goal

abbrev pub invariant-loop-number : goal.invariant-loop-number
invariant-loop-number g l = record { counted : IsCounted g.P.Plant (records_of l.writer) l.plant; room : HasRoom 2 2 l.writer }
