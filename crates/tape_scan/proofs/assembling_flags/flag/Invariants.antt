use Rattle.tape_scan.specs.AssembledSteps.{AreKnownAbove, seen}
use Rattle.tape_scan.proofs.AssemblingSteps.{steps_left}
use Rattle.tape_scan.proofs.assembling_flags.flag.Given as goal

abbrev pub invariant-numbers : goal.invariant-numbers
invariant-numbers l = AreKnownAbove (seen l.parts) l.good l.greatest

abbrev pub decreases-numbers : goal.decreases-numbers
decreases-numbers l = steps_left l.greatest
