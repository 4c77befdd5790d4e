use Rattle.std.proofs.Common.{◌≡◌, ◌++◌, take}
use Rattle.std.specs.Prelude.{All}
use Rattle.std.specs.List.{flat_map}
use Rattle.budb_changes.specs.Bytes.{tape_bytes}
use Rattle.budb_changes.specs.Forms.{IsTapePart}
use Rattle.budb_changes.proofs.writing.put_tapes.Given as goal

abbrev pub invariant-loop-tape : goal.invariant-loop-tape
invariant-loop-tape l = record {
  bytes : l.out ≡ l.fn.out ++ flat_map (tape_bytes l.version) (take l.tape-index l.tapes);
  form : All IsTapePart (take l.tape-index l.tapes);
}
