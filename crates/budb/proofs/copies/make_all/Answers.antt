use Rattle.std.proofs.Common.{◌∷◌, [], ◌∙◌, ap, sym}
use Rattle.budb_fold.specs.Database.{after_change}
use Rattle.budb_fold.proofs.Folds.{fold_more}
use Rattle.budb.proofs.copies.make_all.Goals as goal

pub loop-change-preserved : goal.loop-change-preserved
loop-change-preserved c =
    c.in_ok-make.ensures.ok ∙ ap (after_change c.in-Some.change) c.loop-change.invariant ∙ sym (fold_more c.loop-change.yielded (c.in-Some.change ∷ []) c.args.database.now)
