use Rattle.std.proofs.Common.{[]}
use Rattle.cell_core.specs.Volumes.{written_volume}
use Rattle.cell_core.proofs.KeepLaws.{write_changes, changed_keeps, changed_made, changed_sources}
use Rattle.cell_core.proofs.laws.written_data_keeps_a_cell_fair.Goals as goal

pub returns-clause-fair : goal.returns-clause-fair
returns-clause-fair c = λ cell dumped time now number name body new h fair le. changed_keeps cell dumped time now name (written_volume number body now) new (write_changes number body now) fair le h

pub returns-clause-made : goal.returns-clause-made
returns-clause-made c = λ cell time now number name body new h before. changed_made cell [] time now name (written_volume number body now) new (write_changes number body now) before h

pub returns-clause-named : goal.returns-clause-named
returns-clause-named c = λ cell now number name body new h none. changed_sources cell now name (written_volume number body now) new (write_changes number body now) none h
