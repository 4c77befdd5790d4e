use Rattle.std.proofs.Common.{◌≡◌, take}
use Rattle.std.specs.Prelude.{map}
use Rattle.restore_target.specs.Seen.{seen_of}
use Rattle.restore_target.proofs.looking.look.Given as goal

abbrev pub invariant-loop-i : goal.invariant-loop-i
invariant-loop-i g l =
    let C = g.C.Cell in
    record {
      seen : C.tells → l.all ≡ take l.i (map seen_of (C.list l.fn.cell));
      list : C.tells → C.list l.cell ≡ C.list l.fn.cell;
      size : C.size l.cell ≡ C.size l.fn.cell;
      faults : C.faults l.cell ≡ C.faults l.fn.cell;
    }
