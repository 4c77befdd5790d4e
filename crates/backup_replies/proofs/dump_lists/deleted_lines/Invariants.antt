use Rattle.std.proofs.Common.{◌≡◌, take}
use Rattle.std.specs.List.{flat_map}
use Rattle.backup_replies.specs.Dumps.{deleted_line}
use Rattle.backup_replies.proofs.dump_lists.deleted_lines.Given as goal

abbrev pub invariant-loop-id : goal.invariant-loop-id
invariant-loop-id l = l.lines ≡ flat_map deleted_line (take l.id-index l.ids)
