use Rattle.std.proofs.Common.{◌≡◌, ◌+◌, ◌*◌, ◌≤◌, length}
use Rattle.budb_fold.specs.Lookups.{greatest_id, greatest_at}
use Rattle.budb_links.specs.Entries.{places_of, of_set}
use Rattle.budb_links.specs.Linked.{listed}
use Rattle.budb_index.specs.Walks.{StandsIn, set_left, dumps_of_set, greater}
use Rattle.budb_index.proofs.Greatest.{at_level}
use Rattle.budb_index.proofs.lookups.greatest_in.Given as goal

abbrev pub invariant-loop-dump : goal.invariant-loop-dump
invariant-loop-dump g l = record {
  stands : StandsIn l.at (places_of (of_set l.key l.links.entries));
  greatest : greater l.greatest (greatest_id (at_level l.level (set_left l.key l.at l.links.entries))) ≡ greatest_at (listed l.links) l.key l.level;
  cost : l.steps + 2 * length (set_left l.key l.at l.links.entries) ≤ l.fn.steps + 2 * length (dumps_of_set l.key (listed l.links)) + 1;
}

abbrev pub decreases-loop-dump : goal.decreases-loop-dump
decreases-loop-dump g l = length (set_left l.key l.at l.links.entries)
