-- What a change keeps, by what was saved.
use Rattle.std.proofs.Common.{◌≡◌, ℕ, List, ◌∙◌}
use Rattle.std.specs.Prelude.{Result, Ok, Err, OnOk}
use Rattle.vnode_model.specs.declared.volumes.VolumeFields.{VolumeFields}
use Rattle.cell_core.specs.declared.fault.CellFault.{CellFault}
use Rattle.dir_cell.specs.declared.known.Known.{Known}
use Rattle.dir_cell.specs.Calls.{Keeps, KeepsNamed}

pub kept_named : (name server partition : List ℕ) (volume : VolumeFields) (old new : List Known) (r : Result (Unit {0}) CellFault) → volume.header.name ≡ name → OnOk r (Keeps server partition volume old new) → OnOk r (KeepsNamed name old new)
kept_named name server partition volume old new (Ok done) named k = record { known = k.known; named = k.is.name ∙ named; kept = k.kept }
kept_named name server partition volume old new (Err e) named k = tt
