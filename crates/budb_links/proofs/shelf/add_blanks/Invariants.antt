use Rattle.std.proofs.Common.{◌≡◌, ◌+◌, ◌++◌, None, replicate, vec_len}
use Rattle.std.specs.Prelude.{vec_capacity}
use Rattle.budb_links.proofs.shelf.add_blanks.Given as goal

abbrev pub invariant-loop-more : goal.invariant-loop-more
invariant-loop-more g l = record {
  items : l.slots.items ≡ l.fn.slots.items ++ replicate l._more None;
  long : vec_len l.slots ≡ vec_len l.fn.slots + l._more;
  capacity : vec_capacity l.slots ≡ vec_capacity l.fn.slots;
}
