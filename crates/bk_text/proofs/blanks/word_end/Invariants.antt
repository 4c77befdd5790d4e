use Rattle.std.proofs.Common.{ℕ, ◌≡◌, ◌<◌, get_or, false}
use Rattle.bk_text.specs.Blanks.{is_blank}
use Rattle.bk_text.proofs.blanks.word_end.Given as goal

abbrev pub invariant-loop-at : goal.invariant-loop-at
invariant-loop-at l = (k : ℕ) → k < l.at → is_blank (get_or l.line k 0) ≡ false
