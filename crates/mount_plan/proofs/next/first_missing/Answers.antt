use Rattle.std.proofs.Common.{◌<◌, ◌≤◌, length, sym, ◌∙◌, arith}
use Rattle.mount_plan.proofs.CourseLaws.{first_later, first_now, first_none}
use Rattle.mount_plan.proofs.next.first_missing.Goals as goal

pub loop-kept-preserved : goal.loop-kept-preserved
loop-kept-preserved c = c.loop-kept.invariant ∙ first_later c.args.all.now c.loop-kept.kept-index c.kept-item.result (omega (arith, c.loop-kept-test.true)) c.kept-item.is (sym c.in-None.ensures)

pub returns-in-Some : goal.returns-in-Some
returns-in-Some c = sym (c.loop-kept.invariant ∙ first_now c.args.all.now c.loop-kept.kept-index c.kept-item.result c.in-Some.tape (omega (arith, c.loop-kept-test.true)) c.kept-item.is (sym c.in-Some.ensures))

pub returns : goal.returns
returns c = sym (c.loop-kept.invariant ∙ first_none c.args.all.now c.loop-kept.kept-index (omega (arith, c.loop-kept-test.false)))
