-- The increment of a volume is one that its type allows.
use Rattle.std.proofs.Common.{ℕ, Bool, true, false, cond, List, [], ◌∷◌, map}
use Rattle.std.specs.Prelude.{All}
use Rattle.std.proofs.lemmas.List.Elements.{All-nil, All-cons, All-head, All-tail}
use Rattle.vnode_model.specs.declared.vnodes.Vnode.{Vnode}
use Rattle.vnode_model.specs.declared.increments.Entry.TheVariants.{Whole, Kept}
use Rattle.vnode_model.specs.declared.volumes.VolumeFields.{VolumeFields}
use Rattle.vnode_model.specs.Limits.{AreVolume}
use Rattle.vnode_model.specs.Increments.{is_whole_from, entry_from, selected}
use Rattle.vnode_model.proofs.IncrementLaws.{fit_entries}
use Rattle.dump_stream.specs.Allowed.{IsNumber, AllowedHeader, AllowedVnode, AllowedEntry, Allowed}

entry_allowed : (whole : Bool) (v : Vnode) → AllowedVnode v → AllowedEntry (cond whole (Whole v) (Kept v.number v.uniq))
entry_allowed true v h = h
entry_allowed false v h = (h.number, h.uniq)

entries_allowed : (since : ℕ) (vs : List Vnode) → All AllowedVnode vs → All AllowedEntry (map (entry_from since) vs)
entries_allowed since [] h = All-nil AllowedEntry
entries_allowed since (v ∷ vs) h =
    All-cons AllowedEntry (entry_from since v) (map (entry_from since) vs) (entry_allowed (is_whole_from since v) v (All-head AllowedVnode v vs h))
    (entries_allowed since vs (All-tail AllowedVnode v vs h))

pub selected_allowed : (volume : VolumeFields) (since until : ℕ) → IsNumber since → IsNumber until → AllowedHeader volume.header → All AllowedVnode volume.vnodes → AreVolume volume.vnodes
    → Allowed (selected volume since until)
selected_allowed volume since until s u header vs fit = record {
  dump_id = header.id;
  dump_name = header.name;
  from = s;
  to = u;
  header = header;
  entries = entries_allowed since volume.vnodes vs;
  fit = fit_entries since volume.vnodes fit;
}
