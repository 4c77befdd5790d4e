use Rattle.std.proofs.Common.{◌≡◌, take}
use Rattle.std.specs.List.{flat_map}
use Rattle.backup_replies.specs.Sets.{set_lines}
use Rattle.backup_replies.proofs.sets.sets_lines.Given as goal

abbrev pub invariant-loop-at : goal.invariant-loop-at
invariant-loop-at l = l.lines ≡ flat_map set_lines (take l.at l.sets)
