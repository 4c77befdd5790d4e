use Rattle.std.proofs.Common.{◌≡◌, ◌++◌, take}
use Rattle.std.specs.List.{flat_map}
use Rattle.backup_session.specs.Scanning.{stopped_line}
use Rattle.backup_session.proofs.scanning.put_stops.Given as goal

abbrev pub invariant-loop-tape : goal.invariant-loop-tape
invariant-loop-tape l = l.lines ≡ l.initial.lines ++ flat_map stopped_line (take l.tape-index l.tapes)
