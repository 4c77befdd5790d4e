use Rattle.std.proofs.Common.{sym, ◌∙◌, ap, List}
use Rattle.cell_core.specs.declared.stored.Stored.{Stored}
use Rattle.cell_core.specs.Calls.{entry_at}
use Rattle.backup_session.proofs.Entries.{lines_more}
use Rattle.backup_session.proofs.vos.listed.Goals as goal

pub loop-i-preserved : goal.loop-i-preserved
loop-i-preserved g c =
    let C = g.C.Cell in
    let e = c.in_ok-entry.ensures in
    let so_far = c.loop-i.invariant in
    record {
      lines = λ told. c.in_ok-told.ensures ∙ lines_more (C.list c.args.cell.now) c.loop-i.i c.in_ok-entry.entry c.loop-i.lines (ap (λ (l : List Stored). entry_at l c.loop-i.i) (sym (so_far.list told)) ∙ e.entry told) (so_far.lines told);
      list = λ told. e.list told ∙ so_far.list told;
      size = e.size ∙ so_far.size;
      faults = e.cause.stays (λ failed. cc) ∙ so_far.faults;
    }
