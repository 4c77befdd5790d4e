use Rattle.std.proofs.Common.{◌≡◌, ◌++◌, take}
use Rattle.std.specs.Prelude.{All}
use Rattle.std.specs.List.{flat_map}
use Rattle.budb_changes.specs.Bytes.{frag_bytes}
use Rattle.budb_changes.specs.Forms.{IsFrag}
use Rattle.budb_changes.proofs.writing.put_frags.Given as goal

abbrev pub invariant-loop-frag : goal.invariant-loop-frag
invariant-loop-frag l = record {
  bytes : l.out ≡ l.fn.out ++ flat_map frag_bytes (take l.frag-index l.frags);
  form : All IsFrag (take l.frag-index l.frags);
}
