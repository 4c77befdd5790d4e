use Rattle.std.proofs.Common.{◌≡◌, take}
use Rattle.std.specs.List.{fold}
use Rattle.backup_session.specs.Opening.{with_clones}
use Rattle.backup_session.proofs.opening.database_time.Given as goal

abbrev pub invariant-loop-dump : goal.invariant-loop-dump
invariant-loop-dump l = l.greatest ≡ fold with_clones l.initial.greatest (take l.dump-index l.dump-items)
