use Rattle.std.proofs.Common.{arith}
use Rattle.budb_fold.proofs.SetSteps.{set_more}
use Rattle.budb_fold.proofs.checkpoints.push_sets.Goals as goal

pub loop-at-preserved : goal.loop-at-preserved
loop-at-preserved c =
    set_more c.args.changes.now c.loop-at.changes c.push_set.new.changes c.args.sets.now c.loop-at.at c.name_at.result.now c.entries_at.result.now (omega (arith, c.loop-at-test.true, c.len-at-end.ensures)) c.loop-at.invariant c.name_at.ensures c.entries_at.ensures c.in_ok-push_set.ensures
