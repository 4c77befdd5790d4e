use Rattle.std.proofs.Common.{◌∷◌, [], length, length-append, sym, ◌∙◌, ap, List, arith}
use Rattle.cell_core.specs.declared.stored.Stored.{Stored}
use Rattle.cell_core.specs.Calls.{entry_at}
use Rattle.dump_commands.proofs.EntryLaws.{entries_more}
use Rattle.dump_commands.proofs.entries.entries_of.Goals as goal

pub loop-i-preserved : goal.loop-i-preserved
loop-i-preserved g c =
    let C = g.C.Cell in
    let e = c.in_ok-entry.ensures in
    let so_far = c.loop-i.invariant in
    record {
      entries = λ told. c.in_ok-push.ensures.ok ∙ entries_more (C.list c.args.cell.now) c.loop-i.i c.in_ok-entry.entry c.loop-i.entries (ap (λ (l : List Stored). entry_at l c.loop-i.i) (sym (so_far.list told)) ∙ e.entry told) (so_far.entries told);
      count = ap length c.in_ok-push.ensures.ok ∙ length-append c.loop-i.entries (c.in_ok-entry.entry ∷ []) ∙ (omega (arith, so_far.count));
      list = λ told. e.list told ∙ so_far.list told;
      size = e.size ∙ so_far.size;
      faults = e.cause.stays (λ failed. cc) ∙ so_far.faults;
    }
