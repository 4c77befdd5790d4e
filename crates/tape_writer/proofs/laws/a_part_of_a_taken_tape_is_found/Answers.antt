use Rattle.tape_writer.proofs.Placing.{found_there}
use Rattle.tape_writer.proofs.laws.a_part_of_a_taken_tape_is_found.Goals as goal

pub returns : goal.returns
returns c = found_there
