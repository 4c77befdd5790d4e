use Rattle.std.proofs.Common.{◌∙◌, sym, refl, get_or}
use Rattle.bk_text.proofs.DigitLaws.{digit_breaks, number_more}
use Rattle.bk_text.proofs.digits.capped_number.Goals as goal

pub returns-then-not-is_ascii_digit : goal.returns-then-not-is_ascii_digit
returns-then-not-is_ascii_digit c = digit_breaks c.args.word.now c.loop-byte.byte-index c.loop-byte-test.true (sym c.is_ascii_digit.ensures.value ∙ c.if-not-is_ascii_digit.true)

pub loop-byte-preserved : goal.loop-byte-preserved
loop-byte-preserved c = number_more c.args.word.now c.loop-byte.byte-index c.loop-byte.number (get_or c.args.word.now c.loop-byte.byte-index 0) c.min-number.result c.loop-byte-test.true c.loop-byte.invariant refl (sym c.is_ascii_digit.ensures.value ∙ c.if-not-is_ascii_digit.false) c.min-number.ensures
