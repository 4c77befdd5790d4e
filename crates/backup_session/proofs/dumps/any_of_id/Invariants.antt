use Rattle.std.proofs.Common.{◌≡◌, take, false}
use Rattle.budb_fold.specs.Database.{has_dump}
use Rattle.backup_session.proofs.dumps.any_of_id.Given as goal

abbrev pub invariant-loop-dump : goal.invariant-loop-dump
invariant-loop-dump l = has_dump (take l.dump-index l.listed) l.id ≡ false
