use Rattle.std.proofs.Common.{◌≡◌, ◌-◌, ◌++◌}
use Rattle.std.specs.List.{flat_map}
use Rattle.rehearsal.specs.Names.{volumes}
use Rattle.rehearsal.specs.Commands.{adding, making}
use Rattle.rehearsal.proofs.commands.making.Given as goal

abbrev pub invariant-loop-volume : goal.invariant-loop-volume
invariant-loop-volume l = l.commands ≡ adding ++ flat_map making (volumes (l.volume - 1))
