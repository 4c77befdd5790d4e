use Rattle.std.proofs.Common.{◌≡◌, take}
use Rattle.std.specs.List.{flat_map}
use Rattle.tape_scan.specs.AssembledSteps.{seen}
use Rattle.tape_scan.proofs.assembling.gather.Given as goal

abbrev pub invariant-loop-i : goal.invariant-loop-i
invariant-loop-i l = seen l.parts.items ≡ flat_map (λ t. t.parts) (take l.i l.tapes)
