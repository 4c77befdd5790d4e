use Rattle.std.proofs.Common.{◌-◌, length}
use Rattle.plant_effects.proofs.OutputCalls.{Telling}
use Rattle.plant_effects.proofs.telling.tell_whole.Given as goal

abbrev pub invariant-loop-at : goal.invariant-loop-at
invariant-loop-at g l = Telling g.P.Plant l.at l.text l.fn.plant l.plant

abbrev pub decreases-loop-at : goal.decreases-loop-at
decreases-loop-at g l = length l.text - l.at
