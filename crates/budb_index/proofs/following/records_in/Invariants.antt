use Rattle.std.proofs.Common.{◌≡◌, ◌≤◌, take}
use Rattle.budb_index.specs.Relistings.{records_in}
use Rattle.budb_index.proofs.following.records_in.Given as goal

abbrev pub invariant-loop-one : goal.invariant-loop-one
invariant-loop-one l = record { count : l.count ≡ records_in (take l.one-index l.coming); small : l.count ≤ l.one-index }
