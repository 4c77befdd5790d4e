use Rattle.tape_writer.proofs.Standing.{smallest}
use Rattle.tape_writer.proofs.laws.smallest_part.Goals as goal

pub returns : goal.returns
returns c = smallest
