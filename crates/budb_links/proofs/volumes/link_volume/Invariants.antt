use Rattle.std.proofs.Common.{◌≡◌, ◌+◌, ◌*◌, ◌≤◌, ◌++◌, List, length}
use Rattle.budb_links.specs.Frags.{Placed, volume_frags, fragments}
use Rattle.budb_links.specs.Filing.{Files}
use Rattle.budb_links.proofs.volumes.link_volume.Given as goal

abbrev pub invariant-loop-frag : goal.invariant-loop-frag
invariant-loop-frag g l = record {
  files : (ps : List Placed) → Files l.fn.frags ps → (more : List Placed) × Files l.frags (ps ++ more) × (fragments more ≡ volume_frags l.id l.volume l.name 0 l.frag);
  spare : length l.frags.free.items + l.frag ≡ length l.fn.frags.free.items;
  cost : l.steps ≤ l.fn.steps + 4 * l.frag;
}
