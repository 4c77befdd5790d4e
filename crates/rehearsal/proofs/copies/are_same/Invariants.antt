use Rattle.std.proofs.Common.{◌≡◌, take, true}
use Rattle.rehearsal.specs.Copies.{are_same}
use Rattle.rehearsal.proofs.copies.are_same.Given as goal

abbrev pub invariant-loop-i : goal.invariant-loop-i
invariant-loop-i l = are_same (take l.i l.a) (take l.i l.b) ≡ true
