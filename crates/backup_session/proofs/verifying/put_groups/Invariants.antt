use Rattle.std.proofs.Common.{◌≡◌, ◌++◌, take}
use Rattle.std.specs.List.{flat_map}
use Rattle.backup_session.specs.Verified.{group_lines}
use Rattle.backup_session.proofs.verifying.put_groups.Given as goal

abbrev pub invariant-loop-group : goal.invariant-loop-group
invariant-loop-group l = l.lines ≡ l.initial.lines ++ flat_map group_lines (take l.group-index l.groups)
