use Rattle.std.proofs.Common.{◌≡◌, ◌++◌, take}
use Rattle.std.specs.Prelude.{All}
use Rattle.std.specs.List.{flat_map}
use Rattle.budb_changes.specs.Bytes.{encoded_change}
use Rattle.budb_changes.specs.Forms.{IsChange}
use Rattle.budb_changes.proofs.writing.put_changes.Given as goal

abbrev pub invariant-loop-change : goal.invariant-loop-change
invariant-loop-change l = record {
  bytes : l.out ≡ l.fn.out ++ flat_map encoded_change (take l.change-index l.changes);
  form : All IsChange (take l.change-index l.changes);
}
