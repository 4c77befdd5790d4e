use Rattle.std.proofs.Common.{◌≡◌, take}
use Rattle.restore_commands.specs.Batches.{names_in}
use Rattle.restore_commands.proofs.batches.names_of.Given as goal

abbrev pub invariant-loop-choice : goal.invariant-loop-choice
invariant-loop-choice l = l.names.items ≡ names_in (take l.choice-index l.choices)
