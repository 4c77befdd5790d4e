use Rattle.std.proofs.Common.{◌≡◌, take}
use Rattle.std.specs.List.{fold}
use Rattle.backup_session.specs.Opening.{with_stored}
use Rattle.backup_session.proofs.opening.cell_time.Given as goal

abbrev pub invariant-loop-i : goal.invariant-loop-i
invariant-loop-i g l =
    let C = g.C.Cell in
    record {
      time : C.tells → l.greatest ≡ fold with_stored l.time (take l.i (C.list l.fn.cell));
      list : C.tells → C.list l.cell ≡ C.list l.fn.cell;
      size : C.size l.cell ≡ C.size l.fn.cell;
      faults : C.faults l.cell ≡ C.faults l.fn.cell;
    }
