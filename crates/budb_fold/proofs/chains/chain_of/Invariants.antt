use Rattle.std.proofs.Common.{◌+◌, ◌≤◌}
use Rattle.budb_fold.specs.Chains.{Passes, HaveParentsBelow}
use Rattle.budb_fold.proofs.chains.chain_of.Given as goal

-- these ids were passed, and each step has led downwards
abbrev pub invariant-loop-step : goal.invariant-loop-step
invariant-loop-step l = record { passes : Passes l.records l.name l.id l.upwards l.next; down : HaveParentsBelow l.records → l.next + l._step ≤ l.id }
