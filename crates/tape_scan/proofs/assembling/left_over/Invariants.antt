use Rattle.tape_scan.specs.AssembledSteps.{seen}
use Rattle.tape_scan.specs.AssembledRecords.{AreLeft}
use Rattle.tape_scan.proofs.assembling.left_over.Given as goal

abbrev pub invariant-loop-i : goal.invariant-loop-i
invariant-loop-i l = AreLeft (seen l.parts) l.chains l.i l.ids
