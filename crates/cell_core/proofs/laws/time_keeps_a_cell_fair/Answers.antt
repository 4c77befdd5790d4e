use Rattle.cell_core.proofs.FairLaws.{fair_later}
use Rattle.cell_core.proofs.laws.time_keeps_a_cell_fair.Goals as goal

pub returns : goal.returns
returns c = fair_later
