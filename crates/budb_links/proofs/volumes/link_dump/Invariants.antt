use Rattle.std.proofs.Common.{◌≡◌, ◌+◌, ◌*◌, ◌≤◌, ◌++◌, List, length, take}
use Rattle.budb_links.specs.Frags.{Placed, volumes_frags, fragments}
use Rattle.budb_links.specs.Filing.{Files}
use Rattle.budb_links.proofs.volumes.link_dump.Given as goal

abbrev pub invariant-loop-volume : goal.invariant-loop-volume
invariant-loop-volume g l = record {
  files : (ps : List Placed) → Files l.fn.frags ps → (more : List Placed) × Files l.frags (ps ++ more) × (fragments more ≡ volumes_frags l.dump.id 0 (take l.volume l.dump.volumes));
  spare : length l.frags.free.items + length (volumes_frags l.dump.id 0 (take l.volume l.dump.volumes)) ≡ length l.fn.frags.free.items;
  cost : l.steps ≤ l.fn.steps + 4 * length (volumes_frags l.dump.id 0 (take l.volume l.dump.volumes));
}
