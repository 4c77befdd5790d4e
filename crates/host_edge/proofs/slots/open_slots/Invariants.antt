use Rattle.std.proofs.Common.{◌≡◌, length}
use Rattle.host_edge.proofs.slots.open_slots.Given as goal

abbrev pub invariant-loop-slot : goal.invariant-loop-slot
invariant-loop-slot g l = length l.slots.items ≡ l.slot
