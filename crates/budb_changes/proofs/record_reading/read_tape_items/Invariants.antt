use Rattle.std.proofs.Common.{◌≡◌, ◌++◌, length}
use Rattle.std.specs.Prelude.{All}
use Rattle.std.specs.List.{flat_map}
use Rattle.budb_changes.specs.Bytes.{tape_bytes}
use Rattle.budb_changes.specs.Formats.{IsTape}
use Rattle.budb_changes.proofs.record_reading.read_tape_items.Given as goal

abbrev pub invariant-loop : goal.invariant-loop
invariant-loop l = record {
  long : length l.items ≡ l.counter;
  each : All (IsTape l.version) l.items;
  joined : l.bytes ≡ flat_map (tape_bytes l.version) l.items ++ l.rest;
}
