use Rattle.std.proofs.Common.{arith}
use Rattle.tape_frames.proofs.Blanks.{used_took, used_sticks}
use Rattle.tape_frames.proofs.reading.read_used.Goals as goal

pub returns-in-Some : goal.returns-in-Some
returns-in-Some c = used_sticks c.args.count c.args.used c.in-Some.at c.args.bytes.now c.split.result.0.now c.split-2.result.1.now c.requires.room c.requires.few (λ i. omega (arith, c.type_inv.bytes i)) c.split.ensures.front c.split-2.ensures.rest c.in-Some.ensures

pub returns-in-None : goal.returns-in-None
returns-in-None c = used_took c.args.count c.args.used c.args.bytes.now c.split.result.0.now c.split-2.result.1.now c.split.result.1.now c.requires.room (λ i. omega (arith, c.type_inv.bytes i)) c.split.ensures.front c.split-2.ensures.rest c.split.ensures.rest c.in-None.ensures
