use Rattle.std.proofs.Common.{◌≡◌, ℕ, List, get_or}
use Rattle.budb_changes.specs.declared.records.TapePart.{TapePart}
use Rattle.budb_changes.specs.Bytes.{tape_bytes}
use Rattle.budb_changes.specs.Forms.{IsTapePart}
use Rattle.byte_formats.proofs.Puts.{more_bytes, more_form}
use Rattle.budb_changes.proofs.writing.put_tapes.Goals as goal

pub loop-tape-preserved : goal.loop-tape-preserved
loop-tape-preserved c =
    let xs : List TapePart = c.args.tapes.now in
    let i : ℕ = c.loop-tape.tape-index in
    let x : TapePart = c.tape-item.result in
    let is : x ≡ get_or xs i x = c.tape-item.is in
    record {
      bytes = more_bytes (tape_bytes c.args.version) xs i x c.args.out.now c.loop-tape.out c.put_tape.new.out c.loop-tape-test.true is c.loop-tape.invariant.bytes c.in_ok-put_tape.ensures.bytes;
      form = more_form IsTapePart xs i x c.loop-tape-test.true is c.loop-tape.invariant.form c.in_ok-put_tape.ensures.form;
    }
