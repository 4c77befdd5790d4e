use Rattle.std.proofs.Common.{◌≡◌, ◌++◌, take}
use Rattle.tape_scan.specs.AssembledSteps.{seen}
use Rattle.tape_scan.proofs.assembling.add_parts.Given as goal

abbrev pub invariant-loop-part : goal.invariant-loop-part
invariant-loop-part l = seen l.parts.items ≡ seen l.initial.parts.items ++ take l.part-index l.part-items
