use Rattle.std.proofs.Common.{◌≡◌}
use Rattle.dump_levels.specs.Trees.{expiring}
use Rattle.dump_levels.proofs.TreeLaws.{map_front}
use Rattle.dump_levels.proofs.levels.set_each_of_path.Given as goal

abbrev pub invariant-loop-level : goal.invariant-loop-level
invariant-loop-level l = l.levels ≡ map_front (expiring l.path l.expiry) l.level-index l.initial.levels
