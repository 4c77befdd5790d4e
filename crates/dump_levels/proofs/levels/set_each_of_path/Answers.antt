use Rattle.std.proofs.Common.{arith}
use Rattle.dump_levels.specs.Trees.{expiring}
use Rattle.dump_levels.proofs.TreeLaws.{map_set}
use Rattle.dump_levels.proofs.levels.set_each_of_path.Goals as goal

pub loop-level-preserved : goal.loop-level-preserved
loop-level-preserved c = map_set (expiring c.args.path.now c.args.expiry) c.args.levels.now c.loop-level.levels c.loop-level.level-index c.set_if_of_path.new.level c.level-item.result (omega (arith, c.loop-level-test.true)) c.loop-level.invariant c.set_if_of_path.ensures
