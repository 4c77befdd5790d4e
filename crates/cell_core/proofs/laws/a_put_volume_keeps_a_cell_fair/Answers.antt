use Rattle.cell_core.proofs.KeepLaws.{put_keeps, put_made, put_sources}
use Rattle.cell_core.proofs.laws.a_put_volume_keeps_a_cell_fair.Goals as goal

pub returns-clause-fair : goal.returns-clause-fair
returns-clause-fair c = λ cell dumped time server partition volume new h fair le kind before. put_keeps cell dumped time server partition volume new fair le kind before h

pub returns-clause-made : goal.returns-clause-made
returns-clause-made c = λ cell time server partition volume new h before le. put_made cell time server partition volume new before le h

pub returns-clause-named : goal.returns-clause-named
returns-clause-named c = λ cell server partition volume new h none here. put_sources cell server partition volume new none here h
