use Rattle.tape_frames.proofs.Blanks.{zeros_took, zeros_sticks}
use Rattle.tape_frames.proofs.reading.read_zeros.Goals as goal

pub returns-in-Some : goal.returns-in-Some
returns-in-Some c = zeros_sticks c.args.count c.args.bytes.now c.split.result.0.now c.in-Some.at c.requires c.split.ensures.front c.in-Some.ensures

pub returns-in-None : goal.returns-in-None
returns-in-None c = zeros_took c.args.count c.args.bytes.now c.split.result.0.now c.split.result.1.now c.requires c.split.ensures.front c.split.ensures.rest c.in-None.ensures
