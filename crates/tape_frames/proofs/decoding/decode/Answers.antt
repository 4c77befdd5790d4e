use Rattle.tape_frames.proofs.Places.{head_fails}
use Rattle.tape_frames.proofs.Uses.{refused}
use Rattle.tape_frames.proofs.decoding.decode.Goals as goal

pub returns-in-Err : goal.returns-in-Err
returns-in-Err c = head_fails c.args.block.now c.in-Err.at c.told-block c.in-Err.ensures

pub returns-in-Err-Bad : goal.returns-in-Err-Bad
returns-in-Err-Bad c = refused c.in-Ok.kind c.args.block.now c.body_of.result.now c.in-Err-Bad.left c.told-block c.in-Ok.ensures c.body_of.ensures.is c.body_of.ensures.long (rw c.in-Err-Bad.field-0-is at c.in-Err-Bad.ensures)
