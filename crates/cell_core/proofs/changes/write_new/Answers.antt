use Rattle.std.proofs.Common.{◌≡◌, ◌+◌, ◌≤◌, ◌<◌, ℕ, List, length, ap, subst, sym, ◌∙◌, arith}
use Rattle.std.specs.List.{insert}
use Rattle.vnode_model.specs.declared.vnodes.Vnode.{Vnode}
use Rattle.vnode_model.specs.Limits.{AreVolume, most_vnodes, most_data, all_data}
use Rattle.vnode_model.specs.Increments.{data_of}
use Rattle.cell_core.specs.Places.{FreeAt}
use Rattle.cell_core.specs.Vnodes.{number_order, number_of_vnode, made_vnode}
use Rattle.cell_core.proofs.ChangeLaws.{volume_made}
use Rattle.cell_core.proofs.changes.write_new.Goals as goal

made : (vs shown new : List Vnode) (at number uniq all : ℕ) (v : Vnode) (body copy : List ℕ) (now : ℕ) → AreVolume vs → FreeAt number_order number_of_vnode number vs at → 1 ≤ number → length vs < most_vnodes → shown ≡ vs → all ≡ data_of shown
    → copy ≡ body → v ≡ made_vnode number uniq copy now → length body ≤ most_data → all + length body ≤ all_data → new ≡ insert vs at v → AreVolume new
made vs shown new at number uniq all v body copy now fit free numbered few same all_is copied v_is short room new_is =
    let total : all ≡ data_of vs = all_is ∙ ap data_of same in
    let is : v ≡ made_vnode number uniq body now = v_is ∙ ap (λ (b : List ℕ). made_vnode number uniq b now) copied in
    subst AreVolume (sym (new_is ∙ ap (λ (x : Vnode). insert vs at x) is)) (volume_made vs at number uniq body now fit free numbered few short (omega (arith, total, room)))

pub update_header-requires : goal.update_header-requires
update_header-requires c =
    subst AreVolume (sym c.deref-2.ensures.value)
    (made c.args.vnodes.now.items c.deref.result.now c.insert_at.new.items.items c.args.at c.args.number c.args.header.now.uniq c.data_of.result c.made_vnode-vnode.result c.args.body.now c.in_ok-copy.copy c.args.now c.requires.volume c.requires.free
    c.requires.number (omega arith) c.deref.ensures.value c.data_of.ensures.value c.in_ok-copy.ensures c.made_vnode-vnode.ensures (omega arith) (omega arith) c.in_ok-insert_at.ensures.ok)

pub returns-clause-volume : goal.returns-clause-volume
returns-clause-volume c =
    made c.args.vnodes.now.items c.deref.result.now c.insert_at.new.items.items c.args.at c.args.number c.args.header.now.uniq c.data_of.result c.made_vnode-vnode.result c.args.body.now c.in_ok-copy.copy c.args.now c.requires.volume c.requires.free
    c.requires.number (omega arith) c.deref.ensures.value c.data_of.ensures.value c.in_ok-copy.ensures c.made_vnode-vnode.ensures (omega arith) (omega arith) c.in_ok-insert_at.ensures.ok
