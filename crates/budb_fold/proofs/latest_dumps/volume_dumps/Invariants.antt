use Rattle.std.proofs.Common.{◌≡◌, take}
use Rattle.budb_fold.specs.Lookups.{volume_dumps}
use Rattle.budb_fold.proofs.latest_dumps.volume_dumps.Given as goal

abbrev pub invariant-loop-dump : goal.invariant-loop-dump
invariant-loop-dump l = l.dumps.items ≡ volume_dumps (take l.dump-index l.listed) l.name l.before
