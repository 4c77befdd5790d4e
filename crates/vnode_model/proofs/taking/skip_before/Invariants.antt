use Rattle.std.specs.VecDeque.{deque_len}
use Rattle.vnode_model.specs.Taking.{AreOrdered, SameAt, SameBehind}
use Rattle.vnode_model.proofs.taking.skip_before.Given as goal

abbrev pub invariant-loop-rest : goal.invariant-loop-rest
invariant-loop-rest l = record {
  ordered : AreOrdered l.rest.items;
  here : SameAt l.fn.rest.items l.rest.items l.number;
  behind : SameBehind l.number l.fn.rest.items l.rest.items;
}

abbrev pub decreases-loop-rest : goal.decreases-loop-rest
decreases-loop-rest l = deque_len l.rest
