use Rattle.std.proofs.Common.{◌≡◌, ◌++◌, take}
use Rattle.std.specs.List.{flat_map}
use Rattle.restore_commands.specs.Steps.{tape_line}
use Rattle.restore_commands.proofs.lines.put_tapes.Given as goal

abbrev pub invariant-loop-need : goal.invariant-loop-need
invariant-loop-need l = l.lines ≡ l.initial.lines ++ flat_map tape_line (take l.need-index l.needs)
