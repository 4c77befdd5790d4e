use Rattle.tape_writer.proofs.Standing.{stands}
use Rattle.tape_writer.proofs.laws.what_is_put_stands.Goals as goal

pub returns : goal.returns
returns c = stands
