use Rattle.std.proofs.Common.{◌≡◌, map, take}
use Rattle.tape_scan.specs.AssembledSteps.{seen}
use Rattle.tape_scan.specs.AssembledRecords.{told_tape}
use Rattle.tape_scan.proofs.assembling_records.tapes_of.Given as goal

abbrev pub invariant-loop-i : goal.invariant-loop-i
invariant-loop-i l = l.tapes ≡ map told_tape (seen (take l.i l.parts))
