use Rattle.std.proofs.Common.{[], arith}
use Rattle.cell_core.proofs.KeepLaws.{backed_up_keeps, backed_up_made, backed_up_sources}
use Rattle.cell_core.proofs.laws.a_backup_volume_keeps_a_cell_fair.Goals as goal

pub returns-clause-fair : goal.returns-clause-fair
returns-clause-fair c = λ cell dumped time now name new h is fair le fits. backed_up_keeps cell dumped time now is name new fair le (omega (arith, fits)) h

pub returns-clause-made : goal.returns-clause-made
returns-clause-made c = λ cell time now name new h before le. backed_up_made cell [] time now name new before le h

pub returns-clause-named : goal.returns-clause-named
returns-clause-named c = λ cell now name new h none. backed_up_sources cell now name new none h
