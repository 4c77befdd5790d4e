use Rattle.std.proofs.Common.{arith}
use Rattle.bk_text.proofs.LevelParts.{more_left, found}
use Rattle.bk_text.proofs.level_path.last_slash.Goals as goal

pub overflow_sub-at-in-loop-at : goal.overflow_sub-at-in-loop-at
overflow_sub-at-in-loop-at c = omega (arith, more_left c.args.path.now c.loop-at.at c.requires c.loop-at-test.true)

pub loop-at-smaller : goal.loop-at-smaller
loop-at-smaller c = omega (arith, more_left c.args.path.now c.loop-at.at c.requires c.loop-at-test.true)

pub returns-clause-last : goal.returns-clause-last
returns-clause-last c = found c.args.path.now c.loop-at.at c.loop-at.invariant c.loop-at-test.false
