use Rattle.std.proofs.Common.{◌≡◌, ◌++◌}
use Rattle.vnode_model.specs.Increments.{entries_from}
use Rattle.vnode_model.proofs.selecting.entries_of.Given as goal

abbrev pub invariant-loop-entry : goal.invariant-loop-entry
invariant-loop-entry l = l.entries ++ l.entry-iterator ≡ entries_from l.volume l.from
