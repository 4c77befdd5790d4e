use Rattle.std.proofs.Common.{◌≡◌, ◌++◌, length}
use Rattle.std.specs.List.{flat_map}
use Rattle.budb_changes.specs.Bytes.{encoded_change}
use Rattle.budb_changes.specs.Forms.{AreChanges}
use Rattle.budb_changes.proofs.decoding.decode.Given as goal

abbrev pub invariant-loop-rest : goal.invariant-loop-rest
invariant-loop-rest l = record {
  each : AreChanges l.changes;
  joined : l.bytes ≡ flat_map encoded_change l.changes ++ l.rest;
}

abbrev pub decreases-loop-rest : goal.decreases-loop-rest
decreases-loop-rest l = length l.rest
