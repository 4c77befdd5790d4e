use Rattle.std.proofs.Common.{ℕ, ◌<◌}
use Rattle.host_edge.specs.Slots.{slot_at}
use Rattle.host_edge.specs.Nodes.{IsApart}
use Rattle.host_edge.proofs.apart.first_same.Given as goal

abbrev pub invariant-loop-k : goal.invariant-loop-k
invariant-loop-k l = (k : ℕ) → k < l.k → (j : ℕ) → j < k → IsApart (slot_at l.nodes j) (slot_at l.nodes k)
