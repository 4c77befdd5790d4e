use Rattle.std.proofs.Common.{◌≤◌}
use Rattle.bk_text.proofs.StatedLaws.{GoesOn}
use Rattle.bk_text.proofs.stated.fault_in_stated_path.Given as goal

abbrev pub invariant-loop-at : goal.invariant-loop-at
invariant-loop-at l = (1 ≤ l.at) × GoesOn l.count l.in_element l.at l.front
