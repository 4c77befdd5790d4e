use Rattle.budb_fold.specs.Database.{blank}
use Rattle.budb_fold.proofs.Folds.{fold_more}
use Rattle.budb_fold.proofs.folding.fold_of_more.Goals as goal

pub returns : goal.returns
returns c = record { from = fold_more; log = λ log more. fold_more log more blank }
