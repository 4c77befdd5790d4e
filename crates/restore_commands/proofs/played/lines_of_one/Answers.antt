use Rattle.std.proofs.Common.{◌≡◌, ℕ, List, length, ap, ◌∙◌}
use Rattle.std.proofs.lemmas.Result.{IfOk-weaker}
use Rattle.budb_changes.specs.declared.records.VolRecordFields.{VolRecordFields}
use Rattle.budb_changes.specs.declared.records.DumpRecordFields.{DumpRecordFields}
use Rattle.budb_fold.specs.Lookups.{VolumeDump}
use Rattle.backup_replies.specs.Restores.{restored_line}
use Rattle.restore_commands.proofs.BatchLaws.{line_along, no_line_for}
use Rattle.restore_commands.proofs.played.lines_of_one.Goals as goal

pub returns-in-Ok : goal.returns-in-Ok
returns-in-Ok c = λ low.
    let id = c.fields.result.now.id in
    let name = c.bytes.result.now in
    let target = c.args.target.now in
    let id_is = ap (λ (d : DumpRecordFields). d.id) c.fields.ensures.value ∙ ap (λ (o : VolumeDump). o.dump.id) c.one.view_is in
    let name_is = c.bytes.ensures.value ∙ ap (λ (v : VolRecordFields). v.name) c.fields-2.ensures.value ∙ ap (λ (o : VolumeDump). o.volume.name) c.one.view_is in
    IfOk-weaker c.restored_line.result _ _
    (λ line is. is ∙ ap (λ (ids : List ℕ). restored_line target id (length ids)) c.as_slice.ensures ∙ line_along c.args.budb.now.database.listed target c.args.one.now id name id_is name_is low c.in-Ok.ids c.in-Ok.ensures)
    c.restored_line.ensures

pub returns-in-Err-Missing : goal.returns-in-Err-Missing
returns-in-Err-Missing c = λ low.
    let id = c.fields.result.now.id in
    let name = c.bytes.result.now in
    let id_is = ap (λ (d : DumpRecordFields). d.id) c.fields.ensures.value ∙ ap (λ (o : VolumeDump). o.dump.id) c.one.view_is in
    let name_is = c.bytes.ensures.value ∙ ap (λ (v : VolRecordFields). v.name) c.fields-2.ensures.value ∙ ap (λ (o : VolumeDump). o.volume.name) c.one.view_is in
    c.new.ensures ∙ no_line_for c.args.budb.now.database.listed c.args.target.now c.args.one.now id name id_is name_is low c.in-Err-Missing.field-0 c.in-Err-Missing.field-0-0 c.in-Err-Missing.field-0-is c.in-Err-Missing.ensures
