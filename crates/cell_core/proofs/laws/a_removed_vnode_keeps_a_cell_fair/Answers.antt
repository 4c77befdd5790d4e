use Rattle.std.proofs.Common.{[]}
use Rattle.cell_core.specs.Volumes.{volume_without}
use Rattle.cell_core.proofs.KeepLaws.{removal_changes, changed_keeps, changed_made, changed_sources}
use Rattle.cell_core.proofs.laws.a_removed_vnode_keeps_a_cell_fair.Goals as goal

pub returns-clause-fair : goal.returns-clause-fair
returns-clause-fair c = λ cell dumped time now number name new h fair le. changed_keeps cell dumped time now name (volume_without number now) new (removal_changes number now) fair le h

pub returns-clause-made : goal.returns-clause-made
returns-clause-made c = λ cell time now number name new h before. changed_made cell [] time now name (volume_without number now) new (removal_changes number now) before h

pub returns-clause-named : goal.returns-clause-named
returns-clause-named c = λ cell now number name new h none. changed_sources cell now name (volume_without number now) new (removal_changes number now) none h
