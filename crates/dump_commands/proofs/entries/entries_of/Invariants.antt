use Rattle.std.proofs.Common.{◌≡◌, take, length}
use Rattle.std.specs.Prelude.{map}
use Rattle.cell_core.specs.Calls.{entry_of_stored}
use Rattle.dump_commands.proofs.entries.entries_of.Given as goal

abbrev pub invariant-loop-i : goal.invariant-loop-i
invariant-loop-i g l =
    let C = g.C.Cell in
    record {
      entries : C.tells → l.entries ≡ map entry_of_stored (take l.i (C.list l.fn.cell));
      count : length l.entries ≡ l.i;
      list : C.tells → C.list l.cell ≡ C.list l.fn.cell;
      size : C.size l.cell ≡ C.size l.fn.cell;
      faults : C.faults l.cell ≡ C.faults l.fn.cell;
    }
