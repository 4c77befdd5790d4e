use Rattle.std.proofs.Common.{◌≡◌, take}
use Rattle.budb_index.specs.Relistings.{fragments_in}
use Rattle.budb_index.proofs.following.fragments_in.Given as goal

abbrev pub invariant-loop-one : goal.invariant-loop-one
invariant-loop-one l = l.count ≡ fragments_in (take l.one-index l.coming)
