use Rattle.std.proofs.Common.{[]}
use Rattle.cell_core.proofs.KeepLaws.{created_keeps, created_made, created_sources}
use Rattle.cell_core.proofs.laws.a_new_volume_keeps_a_cell_fair.Goals as goal

pub returns-clause-fair : goal.returns-clause-fair
returns-clause-fair c = λ cell dumped time now server partition name made h fair le before. created_keeps cell dumped time now server partition name made fair le before h

pub returns-clause-made : goal.returns-clause-made
returns-clause-made c = λ cell time now server partition name made h before le. created_made cell [] time now server partition name made before le h

pub returns-clause-named : goal.returns-clause-named
returns-clause-named c = λ cell now server partition name made h none apart. created_sources cell now server partition name made none apart h
