-- What is said of a volume.
use Rattle.std.specs.Prelude.{ℕ, max, List, map, fold}
use Rattle.vnode_model.specs.declared.vnodes.Vnode.{Vnode}
use Rattle.vnode_model.specs.declared.increments.Entry.TheVariants.{Whole}
use Rattle.vnode_model.specs.declared.volumes.VolumeFields.{VolumeFields}
use Rattle.vnode_model.specs.declared.volumes.VolumeFault.{VolumeFault}
use Rattle.vnode_model.specs.declared.volumes.VolumeFault.TheVariants.{Order}
use Rattle.vnode_model.specs.Limits.{BreakAt}

-- the fault of vnodes that are no volume's: the first one that breaks the order, the parity or a limit
abbrev pub IsOrderFault : List Vnode → VolumeFault → Type 0
IsOrderFault vnodes (Order index) = BreakAt (map Whole vnodes) index

-- the greatest of the creation date and the times at which the server last changed a vnode
abbrev pub latest_of : VolumeFields → ℕ
latest_of volume = fold max volume.header.created (map (λ v. v.server_modified) volume.vnodes)
