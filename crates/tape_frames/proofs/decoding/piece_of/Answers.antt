use Rattle.std.proofs.Common.{refl}
use Rattle.tape_frames.specs.Views.{data_seen}
use Rattle.tape_frames.proofs.Uses.{data_took}
use Rattle.tape_frames.proofs.decoding.piece_of.Goals as goal

pub returns-in-Ok : goal.returns-in-Ok
returns-in-Ok c =
    let v = data_seen c.in-Ok.view in
    let here = data_took c.args.block.now c.body_of.result.now v (c.has_head.ensures.0 c.if-not-has_head.false) c.body_of.ensures.is c.body_of.ensures.long c.in-Ok.ensures in
    record { fields = v; fits = here.0; is = here.1; told = record { dump = refl; index = refl; used = refl } }
