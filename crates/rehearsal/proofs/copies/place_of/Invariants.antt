use Rattle.std.proofs.Common.{◌≡◌, take, find, None}
use Rattle.bk_text.specs.Blanks.{is_same_text}
use Rattle.rehearsal.proofs.copies.place_of.Given as goal

abbrev pub invariant-loop-i : goal.invariant-loop-i
invariant-loop-i g l =
    let C = g.C.Cell in
    record {
      list : C.tells → C.list l.cell ≡ C.list l.fn.cell;
      size : C.size l.cell ≡ C.size l.fn.cell;
      none : C.tells → find (λ s. is_same_text s.name l.name) (take l.i (C.list l.fn.cell)) ≡ None;
    }
