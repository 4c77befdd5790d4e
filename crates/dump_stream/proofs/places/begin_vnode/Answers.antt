use Rattle.std.proofs.Common.{◌≡◌, ◌<◌, ◌≤◌, ◌^◌, ◌+◌, ℕ, List, length, get_or, ap, sym, subst, ◌∙◌, refl, arith}
use Rattle.vnode_model.specs.declared.vnodes.Vnode.{Vnode}
use Rattle.vnode_model.specs.Limits.{most_data}
use Rattle.vnode_model.specs.Increments.{entry_from}
use Rattle.dump_stream.specs.declared.places.Place.{Place}
use Rattle.dump_stream.specs.Parts.{head_of}
use Rattle.dump_stream.proofs.LeftLaws.{fit_at, vnode_begun}
use Rattle.dump_stream.proofs.places.begin_vnode.Goals as goal

pub put_vnode-requires : goal.put_vnode-requires
put_vnode-requires c =
    let at = c.index-vnodes-place.is in
    let small : length (get_or c.args.vnodes.now c.args.place.now.step c.index-vnodes-place.result).body ≤ most_data = fit_at c.args.vnodes.now c.args.place.now.step c.index-vnodes-place.result c.requires.volume c.requires.more in
    let len : length c.index-vnodes-place.result.body ≤ most_data = subst (λ (v : Vnode). length v.body ≤ most_data) (sym at) small in
    omega (arith, len)

pub returns-clause-left : goal.returns-clause-left
returns-clause-left c =
    let old = c.args.place.now in
    let d = c.index-vnodes-place.result in
    let new : Place = record { part = c.put_vnode.new.part; step = old.step + 1; taken = 0; given = 0 } in
    let part_is : c.put_vnode.new.part ≡ head_of (entry_from c.args.from (get_or c.args.vnodes.now old.step d)) = c.put_vnode.ensures ∙ ap (λ (v : Vnode). head_of (entry_from c.args.from v)) c.index-vnodes-place.is in
    vnode_begun c.args.vnodes.now c.args.from old new d c.requires.given c.requires.more part_is refl refl refl
