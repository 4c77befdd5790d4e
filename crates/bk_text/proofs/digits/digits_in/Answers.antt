use Rattle.std.proofs.Common.{lit<}
use Rattle.std.proofs.Math.Facts.{Fits-lt}
use Rattle.bk_text.proofs.DigitLaws.{digits_is, digits_within, digits_small}
use Rattle.bk_text.proofs.digits.digits_in.Goals as goal

pub returns-clause-is : goal.returns-clause-is
returns-clause-is c = digits_is c.args.word.now c.args.least c.args.most c.in_ok-number.number c.requires c.if-word-least.false c.if-most-word.false c.in_ok-number.ensures.0 c.in_ok-number.ensures.1

pub returns-clause-within : goal.returns-clause-within
returns-clause-within c = digits_within c.args.word.now c.args.most c.in_ok-number.number c.requires c.if-most-word.false c.in_ok-number.ensures.0 c.in_ok-number.ensures.1

pub returns-clause-small : goal.returns-clause-small
returns-clause-small c = λ four. digits_small c.args.word.now c.args.most c.in_ok-number.number four c.if-most-word.false c.in_ok-number.ensures.0 c.in_ok-number.ensures.1

pub overflow_cast-result : goal.overflow_cast-result
overflow_cast-result c = Fits-lt (digits_within c.args.word.now c.args.most c.in_ok-number.number c.requires c.if-most-word.false c.in_ok-number.ensures.0 c.in_ok-number.ensures.1) (record { fits = lit< tt })
