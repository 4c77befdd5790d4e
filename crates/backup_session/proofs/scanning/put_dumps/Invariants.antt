use Rattle.std.proofs.Common.{◌≡◌, ◌++◌, take}
use Rattle.std.specs.List.{flat_map}
use Rattle.backup_replies.specs.Scans.{found_line}
use Rattle.backup_session.proofs.scanning.put_dumps.Given as goal

abbrev pub invariant-loop-dump : goal.invariant-loop-dump
invariant-loop-dump l = l.lines ≡ l.initial.lines ++ flat_map found_line (take l.dump-index l.dumps)
