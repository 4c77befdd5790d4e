use Rattle.std.proofs.Common.{◌≡◌, drop}
use Rattle.budb_fold.specs.Lookups.{parent_at, parent_of}
use Rattle.budb_index.proofs.index.Index.parent_of.Given as goal

abbrev pub invariant-loop-upper : goal.invariant-loop-upper
invariant-loop-upper g l = parent_at l.self.listed l.set (drop l.upper-index l.upper-items) ≡ parent_of l.self.listed l.set l.level
