use Rattle.std.proofs.Common.{◌≡◌, ℕ, ◌+◌, ◌<◌, Option, List, [], ◌∷◌, length, sym, subst, arith, length-append}
use Rattle.host_edge.specs.declared.node.Node.{Node}
use Rattle.host_edge.specs.Slots.{slot_at, file_among}
use Rattle.host_edge.specs.Nodes.{IsToldAs}
use Rattle.host_edge.proofs.NodeLaws.{told_more}
use Rattle.host_edge.proofs.apart.nodes_of.Goals as goal

pub loop-f-preserved : goal.loop-f-preserved
loop-f-preserved g c =
    let so_far = c.loop-f.invariant in
    let nodes = c.loop-f.nodes.items in
    let node = c.in_ok-node.node in
    let file = file_among c.args.journal.now c.args.slots.now in
    subst (λ (l : List (Option Node)). (length l ≡ c.loop-f.f + 1) × ((k : ℕ) → k < c.loop-f.f + 1 → IsToldAs g.F.DiskFile.is_node (file k) (slot_at l k)))
    (sym c.in_ok-add.ensures.ok)
    (omega (arith, length-append nodes (node ∷ []), so_far.0), told_more g.F.DiskFile.is_node file nodes node c.loop-f.f so_far.0 so_far.1 c.in_ok-node.ensures.told)
