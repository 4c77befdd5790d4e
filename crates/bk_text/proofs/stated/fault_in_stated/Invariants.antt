use Rattle.bk_text.proofs.WordLaws.{Goes}
use Rattle.bk_text.proofs.stated.fault_in_stated.Given as goal

abbrev pub invariant-loop-at : goal.invariant-loop-at
invariant-loop-at l = Goes l.alphabet l.most l.at l.front
