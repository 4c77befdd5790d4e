use Rattle.budb_fold.specs.Database.{after}
use Rattle.budb_fold.proofs.FoldKeeps.{kept_after}
use Rattle.budb_fold.proofs.CheckpointLaws.{checkpoint_folds}
use Rattle.budb_fold.proofs.fold_laws.checkpoint_makes_the_same_database.Goals as goal

pub returns : goal.returns
returns c = λ log. checkpoint_folds (after log) (kept_after log)
