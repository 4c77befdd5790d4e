use Rattle.bk_text.proofs.LevelParts.{SlashUpTo}
use Rattle.bk_text.proofs.level_path.last_slash.Given as goal

abbrev pub invariant-loop-at : goal.invariant-loop-at
invariant-loop-at l = SlashUpTo l.path l.at

abbrev pub decreases-loop-at : goal.decreases-loop-at
decreases-loop-at l = l.at
