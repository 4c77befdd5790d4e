use Rattle.std.proofs.Common.{ℕ, ◌<◌}
use Rattle.host_edge.specs.Slots.{slot_at}
use Rattle.host_edge.specs.Nodes.{IsApart}
use Rattle.host_edge.proofs.apart.same_before.Given as goal

abbrev pub invariant-loop-j : goal.invariant-loop-j
invariant-loop-j l = (j : ℕ) → j < l.j → IsApart (slot_at l.nodes j) (slot_at l.nodes l.k)
