use Rattle.std.proofs.Common.{◌≡◌, ℕ, ◌<◌, length}
use Rattle.host_edge.specs.Slots.{slot_at, file_among}
use Rattle.host_edge.specs.Nodes.{IsToldAs}
use Rattle.host_edge.proofs.apart.nodes_of.Given as goal

abbrev pub invariant-loop-f : goal.invariant-loop-f
invariant-loop-f g l = (length l.nodes.items ≡ l.f) × ((k : ℕ) → k < l.f → IsToldAs g.F.DiskFile.is_node (file_among l.journal l.slots k) (slot_at l.nodes.items k))
