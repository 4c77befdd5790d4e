use Rattle.std.proofs.Common.{take, map}
use Rattle.vnode_model.specs.declared.increments.Entry.TheVariants.{Whole}
use Rattle.vnode_model.specs.Follows.{Stand}
use Rattle.vnode_model.proofs.fitting.fault_in_vnodes.Given as goal

abbrev pub invariant-loop-at : goal.invariant-loop-at
invariant-loop-at l = Stand (take l.at (map Whole l.vnodes)) l.last l.room
