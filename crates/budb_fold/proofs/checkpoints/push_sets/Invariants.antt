use Rattle.std.proofs.Common.{◌≡◌, ◌++◌, take}
use Rattle.std.specs.List.{flat_map}
use Rattle.budb_fold.specs.Checkpoints.{set_changes}
use Rattle.budb_fold.proofs.checkpoints.push_sets.Given as goal

abbrev pub invariant-loop-at : goal.invariant-loop-at
invariant-loop-at l = l.changes ≡ l.initial.changes ++ flat_map set_changes (take l.at l.sets)
