use Rattle.tape_writer.proofs.Full.{on_one_tape}
use Rattle.tape_writer.proofs.laws.a_dump_on_one_tape_is_a_filling.Goals as goal

pub returns : goal.returns
returns c = on_one_tape
