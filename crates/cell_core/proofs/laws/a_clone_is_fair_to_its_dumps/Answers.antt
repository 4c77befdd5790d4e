use Rattle.cell_core.proofs.DumpLaws.{clone_fair, dumped_volume}
use Rattle.cell_core.proofs.laws.a_clone_is_fair_to_its_dumps.Goals as goal

pub returns-clause-fair : goal.returns-clause-fair
returns-clause-fair c = λ cell dumped time i now clone d old is fair h cd dn di. clone_fair cell is dumped time i now clone d old fair h cd dn di

pub returns-clause-volume : goal.returns-clause-volume
returns-clause-volume c = dumped_volume
