use Rattle.std.proofs.Common.{◌≡◌, ◌++◌, take}
use Rattle.std.specs.List.{flat_map}
use Rattle.backup_replies.specs.Dumps.{dumped_line}
use Rattle.backup_replies.proofs.dumps.put_volumes.Given as goal

abbrev pub invariant-loop-volume : goal.invariant-loop-volume
invariant-loop-volume l = l.lines ≡ l.initial.lines ++ flat_map dumped_line (take l.volume-index l.volumes)
