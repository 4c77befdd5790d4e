use Rattle.std.proofs.Common.{◌≡◌, ◌-◌}
use Rattle.rehearsal.specs.Commands.{changing}
use Rattle.rehearsal.proofs.commands.changing.Given as goal

abbrev pub invariant-loop-volume : goal.invariant-loop-volume
invariant-loop-volume l = l.commands ≡ changing (l.volume - 1) l.round
