use Rattle.std.proofs.Common.{◌≡◌, take}
use Rattle.std.specs.List.{flat_map}
use Rattle.budb_fold.specs.Lookups.{record_of}
use Rattle.backup_replies.specs.Dumps.{history_line}
use Rattle.backup_session.proofs.dumps.history_of.Given as goal

abbrev pub invariant-loop-id : goal.invariant-loop-id
invariant-loop-id l = l.lines ≡ flat_map (λ id. history_line l.name id (record_of l.budb.database.listed id)) (take l.id-index l.ids)
