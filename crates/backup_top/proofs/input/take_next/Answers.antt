use Rattle.dump_stream.proofs.InputLaws.{taken_open}
use Rattle.backup_top.proofs.input.take_next.Goals as goal

pub feed-requires : goal.feed-requires
feed-requires g c = taken_open c.requires.held.0 c.args.input.now c.requires.held.1
