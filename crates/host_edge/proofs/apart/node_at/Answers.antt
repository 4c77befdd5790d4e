use Rattle.std.proofs.Common.{sym}
use Rattle.host_edge.specs.Here.{slot_is, slot_past}
use Rattle.host_edge.proofs.apart.node_at.Goals as goal

pub returns-in-Some : goal.returns-in-Some
returns-in-Some c =
    let l = c.in-Some.ensures.lookup in
    sym (slot_is c.args.nodes.now c.args.k c.in-Some.node.now l.3.0 l.1)

pub returns-in-None : goal.returns-in-None
returns-in-None c = sym (slot_past c.args.nodes.now c.args.k c.in-None.ensures.lookup.3)
