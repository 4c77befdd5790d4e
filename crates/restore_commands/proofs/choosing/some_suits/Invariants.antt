use Rattle.std.proofs.Common.{◌≡◌, take, false}
use Rattle.std.specs.List.{list_any}
use Rattle.restore_commands.specs.Choices.{suits}
use Rattle.restore_commands.proofs.choosing.some_suits.Given as goal

abbrev pub invariant-loop-entry : goal.invariant-loop-entry
invariant-loop-entry l = list_any (suits l.one) (take l.entry-index l.entries) ≡ false
