use Rattle.std.proofs.Common.{◌≡◌, ◌*◌, ◌≤◌, length, take}
use Rattle.budb_links.specs.Frags.{volumes_frags}
use Rattle.budb_links.proofs.volumes.frag_count.Given as goal

abbrev pub invariant-loop-volume : goal.invariant-loop-volume
invariant-loop-volume l = record {
  count : l.count ≡ length (volumes_frags l.dump.id 0 (take l.volume l.dump.volumes));
  small : l.count ≤ 65535 * l.volume;
}
