use Rattle.std.proofs.Common.{◌≡◌}
use Rattle.budb_fold.specs.Database.{after}
use Rattle.budb_fold.proofs.folding.fold.Given as goal

abbrev pub invariant-loop-change : goal.invariant-loop-change
invariant-loop-change l = l.db ≡ after l.yielded
