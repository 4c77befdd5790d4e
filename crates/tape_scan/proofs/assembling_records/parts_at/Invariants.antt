use Rattle.std.proofs.Common.{take}
use Rattle.tape_scan.specs.AssembledSteps.{seen}
use Rattle.tape_scan.specs.AssembledRecords.{ArePlaced}
use Rattle.tape_scan.proofs.assembling_records.parts_at.Given as goal

abbrev pub invariant-loop-place : goal.invariant-loop-place
invariant-loop-place l = ArePlaced (seen l.parts) (take l.place-index l.places) (seen l.chosen.items)
