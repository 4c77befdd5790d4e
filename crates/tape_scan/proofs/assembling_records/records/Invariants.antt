use Rattle.std.proofs.Common.{take}
use Rattle.tape_scan.specs.AssembledSteps.{seen}
use Rattle.tape_scan.specs.AssembledRecords.{AreRecords}
use Rattle.tape_scan.proofs.assembling_records.records.Given as goal

abbrev pub invariant-loop-i : goal.invariant-loop-i
invariant-loop-i l = AreRecords (seen l.parts) (take l.i l.chains) l.whole
