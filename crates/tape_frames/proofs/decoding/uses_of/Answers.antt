use Rattle.std.proofs.lemmas.Bool.{iff_false}
use Rattle.tape_frames.specs.Views.{head_seen}
use Rattle.tape_frames.proofs.Uses.{without_head, head_took, same_uses, no_head}
use Rattle.tape_frames.proofs.decoding.uses_of.Goals as goal

pub returns-then-not-has_head-clause-head : goal.returns-then-not-has_head-clause-head
returns-then-not-has_head-clause-head c a fits is = without_head c.args.block.now a (λ e. iff_false c.has_head.ensures c.if-not-has_head.true e) is

pub returns-in-Ok-clause-head : goal.returns-in-Ok-clause-head
returns-in-Ok-clause-head c a fits is = same_uses c.args.block.now c.body_of.result.now (head_seen c.in-Ok.view) a (c.has_head.ensures.0 c.if-not-has_head.false) c.body_of.ensures.is c.body_of.ensures.long c.in-Ok.ensures fits is

pub returns-in-Ok-clause-other : goal.returns-in-Ok-clause-other
returns-in-Ok-clause-other c none =
    let here = head_took c.args.block.now c.body_of.result.now (head_seen c.in-Ok.view) (c.has_head.ensures.0 c.if-not-has_head.false) c.body_of.ensures.is c.body_of.ensures.long c.in-Ok.ensures in
    absurd (none (head_seen c.in-Ok.view) here.0 here.1)

pub returns-in-Err-clause-head : goal.returns-in-Err-clause-head
returns-in-Err-clause-head c a fits is =
    absurd (no_head c.args.block.now c.body_of.result.now c.in-Err.field-0 a c.told-block (c.has_head.ensures.0 c.if-not-has_head.false) c.body_of.ensures.is c.body_of.ensures.long c.in-Err.ensures fits is)
