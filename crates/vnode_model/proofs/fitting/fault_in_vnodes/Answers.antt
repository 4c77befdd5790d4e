use Rattle.std.proofs.Common.{◌≡◌, ℕ, ◌<◌, List, length, map, get_or, ap, sym, ◌∙◌}
use Rattle.std.proofs.lemmas.Bool.{iff_false}
use Rattle.std.proofs.lemmas.List.{get_or-map, length-map}
use Rattle.vnode_model.specs.declared.increments.Entry.TheVariants.{Whole}
use Rattle.vnode_model.specs.declared.vnodes.Vnode.{Vnode}
use Rattle.vnode_model.proofs.FollowLaws.{stand_none, breaks_here, stands_on}
use Rattle.vnode_model.proofs.fitting.fault_in_vnodes.Goals as goal

within : (vs : List Vnode) (at : ℕ) → at < length vs → at < length (map Whole vs)
within vs at lt = rw (length-map vs Whole) lt

is_there : (vs : List Vnode) (at : ℕ) (v : Vnode) → at < length vs → v ≡ get_or vs at v → Whole v ≡ get_or (map Whole vs) at (Whole v)
is_there vs at v lt is = ap (λ (x : Vnode). Whole x) is ∙ sym (get_or-map Whole vs at v (Whole v) lt)

pub loop-at-init : goal.loop-at-init
loop-at-init c = stand_none

pub returns-then-not-vnode_may_follow : goal.returns-then-not-vnode_may_follow
returns-then-not-vnode_may_follow c =
    let vs = c.args.vnodes.now in
    let v = c.index-vnodes-at.result in
    breaks_here (map Whole vs) c.loop-at.at c.loop-at.last c.loop-at.room (Whole v) c.loop-at.invariant (within vs c.loop-at.at c.loop-at-test.true) (is_there vs c.loop-at.at v c.loop-at-test.true c.index-vnodes-at.is)
    (iff_false c.vnode_may_follow.ensures c.if-not-vnode_may_follow.true)

pub loop-at-preserved : goal.loop-at-preserved
loop-at-preserved c =
    let vs = c.args.vnodes.now in
    let v = c.index-vnodes-at.result in
    rw c.len-room.ensures
    (stands_on (map Whole vs) c.loop-at.at c.loop-at.last c.loop-at.room (Whole v) c.loop-at.invariant (within vs c.loop-at.at c.loop-at-test.true) (is_there vs c.loop-at.at v c.loop-at-test.true c.index-vnodes-at.is)
    (c.vnode_may_follow.ensures.0 c.if-not-vnode_may_follow.false))
