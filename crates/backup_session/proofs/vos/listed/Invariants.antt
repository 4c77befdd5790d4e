use Rattle.std.proofs.Common.{◌≡◌, take}
use Rattle.std.specs.Prelude.{map}
use Rattle.std.specs.List.{flat_map}
use Rattle.cell_core.specs.Calls.{entry_of_stored}
use Rattle.backup_replies.specs.Volumes.{listed_line}
use Rattle.backup_session.proofs.vos.listed.Given as goal

abbrev pub invariant-loop-i : goal.invariant-loop-i
invariant-loop-i g l =
    let C = g.C.Cell in
    record {
      lines : C.tells → l.lines ≡ flat_map listed_line (map entry_of_stored (take l.i (C.list l.fn.cell)));
      list : C.tells → C.list l.cell ≡ C.list l.fn.cell;
      size : C.size l.cell ≡ C.size l.fn.cell;
      faults : C.faults l.cell ≡ C.faults l.fn.cell;
    }
