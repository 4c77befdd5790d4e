use Rattle.bk_text.proofs.DigitLaws.{NumberSoFar}
use Rattle.bk_text.proofs.digits.capped_number.Given as goal

abbrev pub invariant-loop-byte : goal.invariant-loop-byte
invariant-loop-byte l = NumberSoFar l.word l.byte-index l.number
