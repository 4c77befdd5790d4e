use Rattle.std.proofs.Common.{◌≡◌, ◌+◌, ◌*◌, ◌≤◌, length, take}
use Rattle.budb_links.specs.Frags.{frags_of}
use Rattle.budb_index.proofs.index.Index.fill.Given as goal

abbrev pub invariant-loop-dump : goal.invariant-loop-dump
invariant-loop-dump g l = record {
  listed : l.self.listed ≡ take l.dump-index l.listed;
  records : length l.listed ≤ l.self.spare_records + l.dump-index;
  frags : length (frags_of l.listed) ≤ l.self.spare_frags + length (frags_of (take l.dump-index l.listed));
  cost : l.steps ≤ l.fn.steps + 4 * length (frags_of (take l.dump-index l.listed)) + 10 * l.dump-index;
}
