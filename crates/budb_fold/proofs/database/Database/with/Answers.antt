use Rattle.std.proofs.Common.{◌∙◌, ap, arith}
use Rattle.budb_changes.specs.declared.change.Change.{Change}
use Rattle.budb_fold.specs.Database.{after_change}
use Rattle.budb_fold.proofs.SetSteps.{change_more}
use Rattle.budb_fold.proofs.database.Database.with.Goals as goal

pub loop-change-preserved : goal.loop-change-preserved
loop-change-preserved c =
    c.in_ok-make.ensures.ok ∙ ap (λ (change : Change). after_change change c.loop-change.db) c.in_ok-clone.ensures.cases ∙ change_more c.args.changes.now c.loop-change.change-index c.change-item.result c.args.self.now c.loop-change.db (omega (arith, c.loop-change-test.true)) c.change-item.is c.loop-change.invariant
