use Rattle.std.proofs.Common.{◌≡◌, drop}
use Rattle.bk_text.specs.Blanks.{words_of}
use Rattle.bk_text.proofs.blanks.skip_blanks.Given as goal

abbrev pub invariant-loop-at : goal.invariant-loop-at
invariant-loop-at l = words_of (drop l.at l.line) ≡ words_of l.line
