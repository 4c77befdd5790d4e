use Rattle.std.proofs.Common.{◌≡◌, ◌-◌, ◌++◌, ◌∷◌, map}
use Rattle.rehearsal.specs.Names.{volumes}
use Rattle.rehearsal.specs.Commands.{restoring, scanning}
use Rattle.rehearsal.proofs.commands.scanning.Given as goal

abbrev pub invariant-loop-volume : goal.invariant-loop-volume
invariant-loop-volume l = l.commands ≡ l.fn.commands ++ scanning ∷ map restoring (volumes (l.volume - 1))
