use Rattle.std.proofs.Common.{◌≡◌}
use Rattle.std.specs.Vec.Iter.{into_iter_items}
use Rattle.budb_index.specs.Relistings.{relisted_from, HasRoom}
use Rattle.budb_index.proofs.index.Index.follow.Given as goal

abbrev pub invariant-loop-one : goal.invariant-loop-one
invariant-loop-one g l = record {
  listed : relisted_from (into_iter_items l.one-iterator) l.self.listed ≡ relisted_from l.fn.coming l.fn.self.listed;
  room : HasRoom l.self (into_iter_items l.one-iterator);
}
