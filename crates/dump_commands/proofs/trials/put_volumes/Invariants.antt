use Rattle.std.proofs.Common.{◌≡◌, ◌++◌, take}
use Rattle.std.specs.Option.{option_copied}
use Rattle.dump_commands.specs.Trials.{volume_lines}
use Rattle.dump_commands.proofs.trials.put_volumes.Given as goal

abbrev pub invariant-loop-i : goal.invariant-loop-i
invariant-loop-i g l =
    let C = g.C.Cell in
    record {
      lines : C.tells → l.lines ≡ l.fn.lines ++ volume_lines (option_copied l.fn.parent) (C.list l.fn.cell) l.time (take l.i l.places);
      list : C.tells → C.list l.cell ≡ C.list l.fn.cell;
      size : C.size l.cell ≡ C.size l.fn.cell;
      faults : C.faults l.cell ≡ C.faults l.fn.cell;
    }
