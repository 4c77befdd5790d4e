use Rattle.tape_scan.specs.AssembledSteps.{IsGreatestBelow, seen}
use Rattle.tape_scan.proofs.assembling_flags.greatest_below.Given as goal

abbrev pub invariant-loop-i : goal.invariant-loop-i
invariant-loop-i l = IsGreatestBelow (seen l.parts) l.bound l.i l.greatest
