use Rattle.std.proofs.Common.{◌≡◌, ◌++◌, take}
use Rattle.std.specs.List.{flat_map}
use Rattle.backup_replies.specs.Dumps.{tape_line}
use Rattle.backup_replies.proofs.dumps.put_tapes.Given as goal

abbrev pub invariant-loop-tape : goal.invariant-loop-tape
invariant-loop-tape l = l.lines ≡ l.initial.lines ++ flat_map (tape_line l.base) (take l.tape-index l.tapes)
