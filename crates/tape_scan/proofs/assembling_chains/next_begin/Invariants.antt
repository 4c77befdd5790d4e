use Rattle.tape_scan.specs.AssembledSteps.{seen}
use Rattle.tape_scan.specs.AssembledPaths.{IsNextBegin}
use Rattle.tape_scan.proofs.AssemblingPaths.{IsBest}
use Rattle.tape_scan.proofs.assembling_chains.next_begin.Given as goal

abbrev pub invariant-loop-i : goal.invariant-loop-i
invariant-loop-i l = IsNextBegin (seen l.parts) l.good l.least l.i l.best × IsBest (seen l.parts) l.i l.best l.below
