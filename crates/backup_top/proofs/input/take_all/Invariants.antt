use Rattle.std.proofs.Common.{◌-◌, ◌+◌}
use Rattle.backup_top.specs.Inputs.{most_input}
use Rattle.backup_top.proofs.InputLaws.{Taking}
use Rattle.backup_top.proofs.input.take_all.Given as goal

abbrev pub invariant-loop-input : goal.invariant-loop-input
invariant-loop-input g l = Taking g.S.Source.tells g.S.Source.left g.S.Source.faults l.fn.source l.source l.input

abbrev pub decreases-loop-input : goal.decreases-loop-input
decreases-loop-input g l = (most_input + 1) - l.input.taken
