use Rattle.std.proofs.Common.{◌≡◌, ℕ, List, get_or}
use Rattle.budb_changes.specs.declared.records.VolRecordFields.{VolRecordFields}
use Rattle.budb_changes.specs.Bytes.{volume_bytes}
use Rattle.budb_changes.specs.Forms.{IsVolRecord}
use Rattle.byte_formats.proofs.Puts.{more_bytes, more_form}
use Rattle.budb_changes.proofs.writing.put_volumes.Goals as goal

pub loop-volume-preserved : goal.loop-volume-preserved
loop-volume-preserved c =
    let xs : List VolRecordFields = c.args.volumes.now in
    let i : ℕ = c.loop-volume.volume-index in
    let x : VolRecordFields = c.volume-item.result in
    let is : x ≡ get_or xs i x = c.volume-item.is in
    record {
      bytes = more_bytes volume_bytes xs i x c.args.out.now c.loop-volume.out c.put_volume.new.out c.loop-volume-test.true is c.loop-volume.invariant.bytes c.in_ok-put_volume.ensures.bytes;
      form = more_form IsVolRecord xs i x c.loop-volume-test.true is c.loop-volume.invariant.form c.in_ok-put_volume.ensures.form;
    }
