use Rattle.std.proofs.Common.{arith}
use Rattle.backup_replies.proofs.SetLines.{entry_step}
use Rattle.backup_replies.proofs.sets.put_entries.Goals as goal

pub loop-i-preserved : goal.loop-i-preserved
loop-i-preserved c =
    entry_step c.args.lines.now c.loop-i.lines c.put_entry.new.line c.args.entries.now c.loop-i.i c.index-entries-i.result (omega arith) c.loop-i.invariant c.index-entries-i.is c.in_ok-put_entry.ensures
