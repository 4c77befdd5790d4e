use Rattle.budb_fold.specs.Database.{after}
use Rattle.budb_fold.proofs.FoldKeeps.{kept_after}
use Rattle.budb_fold.proofs.FoldLaws.{orderly}
use Rattle.budb_fold.proofs.fold_laws.database_of_a_log_is_orderly.Goals as goal

pub returns : goal.returns
returns c = λ log. orderly c.pattern_test.ensures (after log) (kept_after log)
