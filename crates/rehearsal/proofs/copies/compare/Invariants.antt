use Rattle.std.proofs.Common.{◌≡◌, ◌+◌, ◌-◌, ◌*◌, ◌≤◌}
use Rattle.rehearsal.specs.Copies.{counted}
use Rattle.rehearsal.proofs.copies.compare.Given as goal

abbrev pub invariant-loop-volume : goal.invariant-loop-volume
invariant-loop-volume g l =
    let C = g.C.Cell in
    record {
      list : C.tells → C.list l.cell ≡ C.list l.fn.cell;
      few : l.copies.equal + 1 ≤ l.volume;
      small : l.copies.bytes + 268435456 ≤ l.volume * 268435456;
      so_far : C.tells → l.copies ≡ counted (C.list l.fn.cell) (l.volume - 1);
    }
