use Rattle.std.proofs.Common.{◌==◌, sym, length, arith}
use Rattle.std.proofs.lemmas.Bool.{eq-eqb}
use Rattle.std.proofs.lemmas.List.Sums.{position_or_len_is}
use Rattle.bk_text.proofs.blanks.place_of.Goals as goal

pub returns-then-text-at-clause-is : goal.returns-then-text-at-clause-is
returns-then-text-at-clause-is c = sym (position_or_len_is (λ b. b == c.args.byte) c.args.text.now c.loop-at.at 0 (omega arith) c.loop-at.invariant (λ _. eq-eqb _ c.args.byte c.if-text-at.true))

pub returns-clause-is : goal.returns-clause-is
returns-clause-is c = sym (position_or_len_is (λ b. b == c.args.byte) c.args.text.now (length c.args.text.now) 0 (omega arith) (λ k below. c.loop-at.invariant k (omega arith)) (λ above. absurd (omega arith)))
