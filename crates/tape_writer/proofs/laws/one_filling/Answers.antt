use Rattle.tape_writer.proofs.OneFilling.{one_filling}
use Rattle.tape_writer.proofs.laws.one_filling.Goals as goal

pub returns : goal.returns
returns c = one_filling
