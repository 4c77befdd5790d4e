use Rattle.std.proofs.Common.{◌≡◌, ◌+◌, ◌-◌, ◌*◌, ◌≤◌, List, length}
use Rattle.budb_links.specs.Frags.{Placed, dump_frags, fragments, without_dump}
use Rattle.budb_links.specs.Filing.{Files, with_dump, AreOfDump}
use Rattle.budb_links.proofs.volumes.unlink_dump.Given as goal

abbrev pub invariant-loop-place : goal.invariant-loop-place
invariant-loop-place g l = record {
  files : (ps : List Placed) → Files l.fn.frags ps → fragments (with_dump l.dump.id ps) ≡ dump_frags l.dump → (now : List Placed) × Files l.frags now × AreOfDump l.dump now × (without_dump l.dump.id now ≡ without_dump l.dump.id ps);
  places : length l.frags.marks.items ≡ length l.fn.frags.marks.items;
  cost : l.steps + 4 * length l.fn.frags.free.items ≤ l.fn.steps + 4 * length l.frags.free.items;
}

abbrev pub decreases-loop-place : goal.decreases-loop-place
decreases-loop-place g l = length l.frags.marks.items - length l.frags.free.items
