use Rattle.std.proofs.Common.{[], arith}
use Rattle.cell_core.proofs.KeepLaws.{removed_keeps, removed_made, removed_sources}
use Rattle.cell_core.proofs.laws.a_removed_volume_keeps_a_cell_fair.Goals as goal

pub returns-clause-fair : goal.returns-clause-fair
returns-clause-fair c = λ cell dumped now name new h fair fits. removed_keeps cell dumped now now name new fair (omega arith) (omega (arith, fits)) h

pub returns-clause-made : goal.returns-clause-made
returns-clause-made c = λ cell time name new h before. removed_made cell [] time 0 name new before h

pub returns-clause-named : goal.returns-clause-named
returns-clause-named c = λ cell name new h none. removed_sources cell name new none h
