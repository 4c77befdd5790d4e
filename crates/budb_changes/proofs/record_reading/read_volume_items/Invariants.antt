use Rattle.std.proofs.Common.{◌≡◌, ◌++◌, length}
use Rattle.std.specs.Prelude.{All}
use Rattle.std.specs.List.{flat_map}
use Rattle.budb_changes.specs.Bytes.{volume_bytes}
use Rattle.budb_changes.specs.Forms.{IsVolRecord}
use Rattle.budb_changes.proofs.record_reading.read_volume_items.Given as goal

abbrev pub invariant-loop : goal.invariant-loop
invariant-loop l = record {
  long : length l.items ≡ l.counter;
  each : All IsVolRecord l.items;
  joined : l.bytes ≡ flat_map volume_bytes l.items ++ l.rest;
}
