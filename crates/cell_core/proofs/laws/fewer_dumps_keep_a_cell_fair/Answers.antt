use Rattle.cell_core.proofs.FairLaws.{fair_fewer}
use Rattle.cell_core.proofs.laws.fewer_dumps_keep_a_cell_fair.Goals as goal

pub returns : goal.returns
returns c = fair_fewer
