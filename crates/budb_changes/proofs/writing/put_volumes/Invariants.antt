use Rattle.std.proofs.Common.{◌≡◌, ◌++◌, take}
use Rattle.std.specs.Prelude.{All}
use Rattle.std.specs.List.{flat_map}
use Rattle.budb_changes.specs.Bytes.{volume_bytes}
use Rattle.budb_changes.specs.Forms.{IsVolRecord}
use Rattle.budb_changes.proofs.writing.put_volumes.Given as goal

abbrev pub invariant-loop-volume : goal.invariant-loop-volume
invariant-loop-volume l = record {
  bytes : l.out ≡ l.fn.out ++ flat_map volume_bytes (take l.volume-index l.volumes);
  form : All IsVolRecord (take l.volume-index l.volumes);
}
