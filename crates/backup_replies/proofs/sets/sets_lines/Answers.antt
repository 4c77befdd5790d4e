use Rattle.std.proofs.Common.{arith}
use Rattle.backup_replies.proofs.SetLines.{set_step}
use Rattle.backup_replies.proofs.sets.sets_lines.Goals as goal

pub loop-at-preserved : goal.loop-at-preserved
loop-at-preserved c =
    set_step c.loop-at.lines c.put_set_at.new.lines c.args.sets.now c.loop-at.at (omega (arith, c.loop-at-test.true, c.len-at-end.ensures)) c.loop-at.invariant c.in_ok-put_set_at.ensures
