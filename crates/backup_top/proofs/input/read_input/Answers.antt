use Rattle.dump_stream.proofs.InputLaws.{taken_open}
use Rattle.backup_top.proofs.input.read_input.Goals as goal

pub finish-requires : goal.finish-requires
finish-requires g c = let took = c.in-Ok-take_all.ensures.taken in taken_open took.0 c.take_all.new.input took.1
