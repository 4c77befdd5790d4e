use Rattle.std.proofs.Common.{◌≡◌, take}
use Rattle.budb_fold.specs.Database.{after_from}
use Rattle.budb_fold.proofs.database.Database.with.Given as goal

abbrev pub invariant-loop-change : goal.invariant-loop-change
invariant-loop-change l = l.db ≡ after_from (take l.change-index l.changes) l.self
