use Rattle.std.proofs.Common.{◌≡◌, ◌++◌, take}
use Rattle.std.specs.List.{flat_map}
use Rattle.backup_session.specs.Scanning.{left_line}
use Rattle.backup_session.proofs.scanning.put_parts.Given as goal

abbrev pub invariant-loop-part : goal.invariant-loop-part
invariant-loop-part l = l.lines ≡ l.initial.lines ++ flat_map left_line (take l.part-index l.parts)
