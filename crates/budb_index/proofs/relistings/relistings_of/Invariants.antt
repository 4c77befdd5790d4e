use Rattle.std.proofs.Common.{◌≡◌, take}
use Rattle.budb_index.specs.Relistings.{relistings_of}
use Rattle.budb_index.proofs.relistings.relistings_of.Given as goal

abbrev pub invariant-loop-change : goal.invariant-loop-change
invariant-loop-change l = l.relistings ≡ relistings_of (take l.change-index l.changes)
