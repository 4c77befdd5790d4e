use Rattle.std.proofs.Common.{◌-◌}
use Rattle.tape_scan.specs.AssembledSteps.{seen}
use Rattle.tape_scan.specs.AssembledPaths.{AreChainsBelow}
use Rattle.tape_scan.proofs.assembling_chains.choose.Given as goal

abbrev pub invariant-dumps : goal.invariant-dumps
invariant-dumps l = AreChainsBelow (seen l.parts) l.good l.least l.chains

abbrev pub decreases-dumps : goal.decreases-dumps
decreases-dumps l = 4294967296 - l.least
