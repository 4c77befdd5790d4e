use Rattle.std.proofs.Common.{◌+◌, ◌≤◌}
use Rattle.budb_fold.specs.Chains.{Passes, HaveParentsBelow}
use Rattle.budb_index.proofs.index.Index.chain_of.Given as goal

-- these ids were passed, and each step has led downwards
abbrev pub invariant-loop-step : goal.invariant-loop-step
invariant-loop-step g l = record { passes : Passes l.self.listed l.name l.id l.upwards l.next; down : HaveParentsBelow l.self.listed → l.next + l._step ≤ l.id }
