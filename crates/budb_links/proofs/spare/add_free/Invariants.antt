use Rattle.std.proofs.Common.{◌≡◌, ◌+◌, ◌++◌, vec_len}
use Rattle.std.specs.Prelude.{vec_capacity}
use Rattle.budb_links.specs.Stored.{numbers_from}
use Rattle.budb_links.proofs.spare.add_free.Given as goal

abbrev pub invariant-loop-more : goal.invariant-loop-more
invariant-loop-more l = record {
  items : l.free.items ≡ l.fn.free.items ++ numbers_from l.first l.more;
  long : vec_len l.free ≡ vec_len l.fn.free + l.more;
  capacity : vec_capacity l.free ≡ vec_capacity l.fn.free;
}
