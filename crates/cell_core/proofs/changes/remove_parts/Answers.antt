use Rattle.std.proofs.Common.{◌∙◌, List, sym, subst}
use Rattle.vnode_model.specs.declared.vnodes.Vnode.{Vnode}
use Rattle.vnode_model.specs.Limits.{AreVolume}
use Rattle.cell_core.specs.Places.{FoundAt}
use Rattle.cell_core.specs.Vnodes.{number_order, number_of_vnode}
use Rattle.cell_core.proofs.ChangeLaws.{volume_removed}
use Rattle.cell_core.proofs.changes.remove_parts.Goals as goal

pub update_header-requires : goal.update_header-requires
update_header-requires c =
    let found : FoundAt number_order number_of_vnode c.args.number c.args.vnodes.now.items c.in-Ok.at = subst (λ (l : List Vnode). FoundAt number_order number_of_vnode c.args.number l c.in-Ok.at) c.deref.ensures.value c.in-Ok.ensures in
    subst AreVolume (sym (c.deref-in-Ok.ensures.value ∙ c.remove.ensures.items)) (volume_removed c.args.vnodes.now.items c.in-Ok.at c.args.number c.requires found)

pub returns-in-Ok-clause-volume : goal.returns-in-Ok-clause-volume
returns-in-Ok-clause-volume c =
    let found : FoundAt number_order number_of_vnode c.args.number c.args.vnodes.now.items c.in-Ok.at = subst (λ (l : List Vnode). FoundAt number_order number_of_vnode c.args.number l c.in-Ok.at) c.deref.ensures.value c.in-Ok.ensures in
    subst AreVolume (sym c.remove.ensures.items) (volume_removed c.args.vnodes.now.items c.in-Ok.at c.args.number c.requires found)
