use Rattle.std.proofs.Common.{◌≡◌, take}
use Rattle.std.specs.List.{filter}
use Rattle.budb_fold.specs.Database.{is_initial}
use Rattle.budb.specs.Histories.{ids_of}
use Rattle.backup_session.proofs.dumps.ids_in_set.Given as goal

abbrev pub invariant-loop-dump : goal.invariant-loop-dump
invariant-loop-dump l = l.ids ≡ ids_of (filter (is_initial l.id) (take l.dump-index l.listed))
