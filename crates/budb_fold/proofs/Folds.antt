-- The fold of a log, change by change.
use Rattle.std.proofs.Common.{◌≡◌, List, [], ◌∷◌, ◌++◌, refl}
use Rattle.budb_changes.specs.declared.change.Change.{Change}
use Rattle.budb_fold.specs.declared.database.Database.{Database}
use Rattle.budb_fold.specs.Database.{after_change, after_from}

pub fold_more : (first more : List Change) (db : Database) → after_from (first ++ more) db ≡ after_from more (after_from first db)
fold_more [] more db = refl
fold_more (change ∷ first) more db = fold_more first more (after_change change db)
