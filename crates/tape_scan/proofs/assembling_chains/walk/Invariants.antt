use Rattle.std.proofs.Common.{◌-◌, ◌≡◌, ◌<◌, length}
use Rattle.tape_scan.specs.declared.sections.PartFound.{PartFound}
use Rattle.tape_scan.specs.AssembledSteps.{Stands, seen}
use Rattle.tape_scan.specs.AssembledPaths.{IsWalkTo}
use Rattle.tape_scan.proofs.assembling_chains.walk.Given as goal

abbrev pub invariant-steps : goal.invariant-steps
invariant-steps l =
    IsWalkTo (seen l.parts) l.good l.begin l.places l.at
    × (l.at < length l.parts)
    × ((p : PartFound) → Stands (seen l.parts) l.at p → p.head.part ≡ l.number)

abbrev pub decreases-steps : goal.decreases-steps
decreases-steps l = 4294967296 - l.number
