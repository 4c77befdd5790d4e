use Rattle.std.proofs.lemmas.Bool.{iff_false}
use Rattle.vnode_model.proofs.FollowLaws.{stand_none, breaks_here, stands_on}
use Rattle.vnode_model.proofs.fitting.fault_in.Goals as goal

pub loop-at-init : goal.loop-at-init
loop-at-init c = stand_none

pub returns-then-not-may_follow : goal.returns-then-not-may_follow
returns-then-not-may_follow c =
    breaks_here c.args.entries.now c.loop-at.at c.loop-at.last c.loop-at.room c.index-entries-at.result c.loop-at.invariant c.loop-at-test.true c.index-entries-at.is
    (iff_false c.may_follow.ensures c.if-not-may_follow.true)

pub loop-at-preserved : goal.loop-at-preserved
loop-at-preserved c =
    rw (c.number-last.ensures, c.data_len-room.ensures)
    (stands_on c.args.entries.now c.loop-at.at c.loop-at.last c.loop-at.room c.index-entries-at.result c.loop-at.invariant c.loop-at-test.true c.index-entries-at.is
    (c.may_follow.ensures.0 c.if-not-may_follow.false))
