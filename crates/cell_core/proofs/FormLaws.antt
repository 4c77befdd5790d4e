-- A volume is such as its types allow it, where its whole increment is.
use Rattle.std.proofs.Common.{ℕ, List, [], ◌∷◌, map}
use Rattle.std.specs.Prelude.{All}
use Rattle.std.proofs.lemmas.List.Elements.{All-nil, All-cons, All-head, All-tail}
use Rattle.vnode_model.specs.declared.vnodes.Vnode.{Vnode}
use Rattle.vnode_model.specs.declared.increments.Entry.TheVariants.{Whole}
use Rattle.vnode_model.specs.declared.volumes.VolumeFields.{VolumeFields}
use Rattle.vnode_model.specs.Limits.{AreVolume}
use Rattle.vnode_model.specs.Increments.{entry_from, selected}
use Rattle.dump_stream.specs.Allowed.{AllowedVnode, AllowedEntry, Allowed}
use Rattle.cell_core.specs.Forms.{IsVolumeForm}

vnodes_allowed : (vs : List Vnode) → All AllowedEntry (map (entry_from 0) vs) → All AllowedVnode vs
vnodes_allowed [] h = All-nil AllowedVnode
vnodes_allowed (v ∷ vs) h = All-cons AllowedVnode v vs (All-head AllowedEntry (Whole v) (map (entry_from 0) vs) h) (vnodes_allowed vs (All-tail AllowedEntry (Whole v) (map (entry_from 0) vs) h))

pub whole_is_formed : (volume : VolumeFields) → Allowed (selected volume 0 0) → AreVolume volume.vnodes → IsVolumeForm volume
whole_is_formed volume allowed fit = record { header = allowed.header; vnodes = vnodes_allowed volume.vnodes allowed.entries; fit = fit }
