use Rattle.std.proofs.Common.{◌≡◌, ℕ, List, get_or}
use Rattle.budb_changes.specs.declared.change.Change.{Change}
use Rattle.budb_changes.specs.Bytes.{encoded_change}
use Rattle.budb_changes.specs.Forms.{IsChange}
use Rattle.byte_formats.proofs.Puts.{more_bytes, more_form}
use Rattle.budb_changes.proofs.writing.put_changes.Goals as goal

pub loop-change-preserved : goal.loop-change-preserved
loop-change-preserved c =
    let xs : List Change = c.args.changes.now in
    let i : ℕ = c.loop-change.change-index in
    let x : Change = c.change-item.result in
    let is : x ≡ get_or xs i x = c.change-item.is in
    record {
      bytes = more_bytes encoded_change xs i x c.args.out.now c.loop-change.out c.put_change.new.out c.loop-change-test.true is c.loop-change.invariant.bytes c.in_ok-put_change.ensures.bytes;
      form = more_form IsChange xs i x c.loop-change-test.true is c.loop-change.invariant.form c.in_ok-put_change.ensures.form;
    }
