use Rattle.cell_core.proofs.DumpLaws.{clone_dump_fair}
use Rattle.cell_core.proofs.laws.a_dump_keeps_a_cell_fair.Goals as goal

pub returns : goal.returns
returns c = λ cell dumped now i clone is fair made sources h. clone_dump_fair cell is dumped now i clone fair made sources h
