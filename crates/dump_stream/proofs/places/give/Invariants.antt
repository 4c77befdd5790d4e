use Rattle.std.proofs.Common.{◌+◌, ◌-◌, length}
use Rattle.dump_stream.specs.Left.{left, Gives}
use Rattle.dump_stream.proofs.places.give.Given as goal

abbrev pub invariant-loop-count : goal.invariant-loop-count
invariant-loop-count l = Gives (left l.vnodes l.from l.fn.place) (left l.vnodes l.from l.place) l.fn.into l.into l.count

abbrev pub decreases-loop-count : goal.decreases-loop-count
decreases-loop-count l = (length l.initial.into - l.count) + (length l.vnodes + 1 - l.place.step)
