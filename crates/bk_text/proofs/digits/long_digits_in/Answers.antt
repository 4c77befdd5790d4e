use Rattle.bk_text.proofs.DigitLaws.{long_digits, long_within}
use Rattle.bk_text.proofs.digits.long_digits_in.Goals as goal

pub returns-clause-is : goal.returns-clause-is
returns-clause-is c = long_digits c.args.word.now c.args.least c.args.most c.capped_number.result c.requires c.if-word-least.false c.if-most-word.false c.capped_number.ensures

pub returns-clause-within : goal.returns-clause-within
returns-clause-within c = long_within c.args.word.now c.args.most c.capped_number.result c.requires c.if-most-word.false c.capped_number.ensures
