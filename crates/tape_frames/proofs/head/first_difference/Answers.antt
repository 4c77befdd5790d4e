use Rattle.std.proofs.Common.{◌∙◌, sym, arith}
use Rattle.std.proofs.lemmas.List.{take_all, take_more_same}
use Rattle.tape_frames.proofs.head.first_difference.Goals as goal

pub returns-then-byte-b : goal.returns-then-byte-b
returns-then-byte-b c = (c.loop-at-test.true, c.loop-at.invariant, c.if-byte-b.true)

pub loop-at-preserved : goal.loop-at-preserved
loop-at-preserved c = take_more_same c.args.a.now c.args.b.now c.loop-at.at 0 c.loop-at-test.true (omega (arith, c.requires)) c.loop-at.invariant c.if-byte-b.false

pub returns : goal.returns
returns c = sym (take_all c.loop-at.at c.args.a.now (omega arith)) ∙ c.loop-at.invariant ∙ take_all c.loop-at.at c.args.b.now (omega (arith, c.requires))
