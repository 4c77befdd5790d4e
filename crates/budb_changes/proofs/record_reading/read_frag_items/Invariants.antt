use Rattle.std.proofs.Common.{◌≡◌, ◌++◌, length}
use Rattle.std.specs.Prelude.{All}
use Rattle.std.specs.List.{flat_map}
use Rattle.budb_changes.specs.Bytes.{frag_bytes}
use Rattle.budb_changes.specs.Forms.{IsFrag}
use Rattle.budb_changes.proofs.record_reading.read_frag_items.Given as goal

abbrev pub invariant-loop : goal.invariant-loop
invariant-loop l = record {
  long : length l.items ≡ l.counter;
  each : All IsFrag l.items;
  joined : l.bytes ≡ flat_map frag_bytes l.items ++ l.rest;
}
