use Rattle.std.proofs.Common.{drop, arith, length-drop}
use Rattle.std.proofs.lemmas.List.{take_all}
use Rattle.tape_frames.proofs.decoding.body_of.Goals as goal

pub returns-clause-is : goal.returns-clause-is
returns-clause-is c = take_all 16376 (drop 8 c.args.block.now) (omega (arith, length-drop 8 c.args.block.now, c.told-block))
