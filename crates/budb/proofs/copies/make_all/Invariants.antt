use Rattle.std.proofs.Common.{◌≡◌}
use Rattle.budb_fold.specs.Database.{after_from}
use Rattle.budb.proofs.copies.make_all.Given as goal

abbrev pub invariant-loop-change : goal.invariant-loop-change
invariant-loop-change l = l.database ≡ after_from l.yielded l.initial.database
