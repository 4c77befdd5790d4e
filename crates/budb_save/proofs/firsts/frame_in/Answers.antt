use Rattle.tape_choice.proofs.ReadLaws.{frame_said}
use Rattle.budb_save.proofs.firsts.frame_in.Goals as goal

pub returns-in-Ok : goal.returns-in-Ok
returns-in-Ok c = frame_said c.one_frame.ensures c.args.block.now c.in-Ok.frame c.in-Ok.ensures.0 c.in-Ok.ensures.1
