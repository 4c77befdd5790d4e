use Rattle.bk_text.proofs.LevelLaws.{GoesPath}
use Rattle.bk_text.proofs.level_path.fault_in_path.Given as goal

abbrev pub invariant-loop-at : goal.invariant-loop-at
invariant-loop-at l = GoesPath l.count l.at l.text
