use Rattle.std.proofs.Common.{take, sym, ◌∙◌}
use Rattle.std.proofs.lemmas.Bool.{false≢true}
use Rattle.tape_frames.proofs.Heads.{differs_not}
use Rattle.tape_frames.proofs.head.has_head.Goals as goal

pub returns-in-Some : goal.returns-in-Some
returns-in-Some c = (λ t. absurd (false≢true t), λ e. absurd (differs_not c.head_of.result (take 8 c.args.block.now) c.in-Some.field-0 c.in-Some.ensures (c.head_of.ensures ∙ sym e)))
