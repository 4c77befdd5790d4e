use Rattle.std.proofs.Common.{◌≡◌, ◌+◌, take}
use Rattle.vnode_model.specs.Limits.{all_data}
use Rattle.vnode_model.specs.Increments.{data_of}
use Rattle.vnode_model.proofs.applying.is_small.Given as goal

abbrev pub invariant-loop-vnode : goal.invariant-loop-vnode
invariant-loop-vnode l = l.room + data_of (take l.vnode-index l.vnodes) ≡ all_data
