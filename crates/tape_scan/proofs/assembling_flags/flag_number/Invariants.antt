use Rattle.std.proofs.Common.{ℕ, ◌<◌, ◌≤◌, ◌+◌}
use Rattle.tape_scan.specs.declared.sections.PartFound.{PartFound}
use Rattle.tape_scan.specs.AssembledSteps.{Stands, IsKnown, AreKnownFrom, seen}
use Rattle.tape_scan.proofs.assembling_flags.flag_number.Given as goal

abbrev pub invariant-loop-i : goal.invariant-loop-i
invariant-loop-i l =
    AreKnownFrom (seen l.parts) l.good (l.number + 1)
    × ((k : ℕ) (p : PartFound) → k < l.i → Stands (seen l.parts) k p → l.number ≤ p.head.part → IsKnown (seen l.parts) l.good k p)
