use Rattle.std.proofs.Common.{◌≡◌, ◌++◌}
use Rattle.dump_levels.specs.Elements.{paths_above}
use Rattle.dump_levels.proofs.AboveLaws.{paths_from, elements_left}
use Rattle.dump_levels.proofs.above.all_above.Given as goal

abbrev pub invariant-loop-next : goal.invariant-loop-next
invariant-loop-next l = l.paths ++ paths_from l.next ≡ paths_above l.path

abbrev pub decreases-loop-next : goal.decreases-loop-next
decreases-loop-next l = elements_left l.next
