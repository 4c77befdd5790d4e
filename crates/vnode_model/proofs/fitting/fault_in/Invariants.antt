use Rattle.std.proofs.Common.{take}
use Rattle.vnode_model.specs.Follows.{Stand}
use Rattle.vnode_model.proofs.fitting.fault_in.Given as goal

abbrev pub invariant-loop-at : goal.invariant-loop-at
invariant-loop-at l = Stand (take l.at l.entries) l.last l.room
