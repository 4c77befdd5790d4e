use Rattle.std.proofs.Common.{◌≡◌, ◌++◌, take}
use Rattle.std.specs.Prelude.{map}
use Rattle.budb_fold.specs.Checkpoints.{level_change}
use Rattle.budb_fold.proofs.checkpoints.push_levels.Given as goal

abbrev pub invariant-loop-level : goal.invariant-loop-level
invariant-loop-level l = l.changes ≡ l.initial.changes ++ map level_change (take l.level-index l.levels)
