use Rattle.std.proofs.Common.{◌≡◌, ◌+◌, ◌*◌, ◌≤◌, ◌++◌, length, map}
use Rattle.budb_links.specs.Frags.{frag_places, of_volume}
use Rattle.budb_links.specs.Linked.{listed}
use Rattle.budb_index.specs.Walks.{StandsIn, volume_left, frags_named, runs_behind}
use Rattle.budb_index.specs.Holders.{holders}
use Rattle.budb_index.proofs.holders.met.Given as goal

abbrev pub invariant-loop-frag : goal.invariant-loop-frag
invariant-loop-frag g l = record {
  stands : StandsIn l.at (frag_places (of_volume l.name l.links.frags));
  ids : l.ids ++ runs_behind l.last (map (λ w. w.id) (volume_left l.name l.at l.links.frags)) ≡ holders (listed l.links) l.name;
  cost : l.steps + 2 * length (volume_left l.name l.at l.links.frags) ≤ l.fn.steps + 2 * length (frags_named l.name (listed l.links)) + 1;
}

abbrev pub decreases-loop-frag : goal.decreases-loop-frag
decreases-loop-frag g l = length (volume_left l.name l.at l.links.frags)
