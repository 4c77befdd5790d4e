use Rattle.std.proofs.Common.{◌≡◌, take, false}
use Rattle.dump_levels.specs.Trees.{has_level}
use Rattle.dump_levels.proofs.levels.any_of_path.Given as goal

abbrev pub invariant-loop-level : goal.invariant-loop-level
invariant-loop-level l = has_level (take l.level-index l.levels) l.path ≡ false
