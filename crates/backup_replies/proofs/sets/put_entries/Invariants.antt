use Rattle.std.proofs.Common.{◌≡◌, ◌++◌, take}
use Rattle.backup_replies.specs.Sets.{entries_lines}
use Rattle.backup_replies.proofs.sets.put_entries.Given as goal

abbrev pub invariant-loop-i : goal.invariant-loop-i
invariant-loop-i l = l.lines ≡ l.initial.lines ++ entries_lines 1 (take l.i l.entries)
