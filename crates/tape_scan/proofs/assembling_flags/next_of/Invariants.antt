use Rattle.std.proofs.Common.{ℕ, ◌<◌}
use Rattle.tape_scan.specs.declared.sections.PartFound.{PartFound}
use Rattle.tape_scan.specs.AssembledSteps.{Stands, IsFlagged, ToldNext, seen}
use Rattle.tape_scan.proofs.assembling_flags.next_of.Given as goal

abbrev pub invariant-loop-i : goal.invariant-loop-i
invariant-loop-i l = (k : ℕ) (r : PartFound) → k < l.i → Stands (seen l.parts) k r → IsFlagged l.good k → ToldNext l.part r → ⊥
