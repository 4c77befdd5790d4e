use Rattle.std.proofs.Common.{◌∙◌, sym, length, arith}
use Rattle.std.proofs.lemmas.List.Sums.{position_or_len_is}
use Rattle.bk_text.specs.Blanks.{is_blank}
use Rattle.bk_text.proofs.blanks.word_end.Goals as goal

pub returns-then-is_space-clause-is : goal.returns-then-is_space-clause-is
returns-then-is_space-clause-is c = sym (position_or_len_is is_blank c.args.line.now c.loop-at.at 0 (omega arith) c.loop-at.invariant (λ _. sym c.is_space.ensures ∙ c.if-is_space.true))

pub returns-clause-is : goal.returns-clause-is
returns-clause-is c = sym (position_or_len_is is_blank c.args.line.now (length c.args.line.now) 0 (omega arith) (λ k below. c.loop-at.invariant k (omega arith)) (λ above. absurd (omega arith)))
