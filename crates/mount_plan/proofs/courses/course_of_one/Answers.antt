use Rattle.std.proofs.Common.{◌≡◌, ℕ, Err, ap, ◌∙◌, sym, subst}
use Rattle.budb_changes.specs.declared.records.VolRecordFields.{VolRecordFields}
use Rattle.budb_changes.specs.declared.records.DumpRecordFields.{DumpRecordFields}
use Rattle.budb_fold.specs.Lookups.{VolumeDump}
use Rattle.budb_fold.specs.Chains.{IsChain, HaveParentsBelow, Chains}
use Rattle.budb_fold.specs.declared.fault.ChainFault.{ChainFault}
use Rattle.mount_plan.proofs.CourseLaws.{begins, misses_dump}
use Rattle.mount_plan.proofs.courses.course_of_one.Goals as goal

pub returns-in-Err-Missing : goal.returns-in-Err-Missing
returns-in-Err-Missing c = λ slots.
    subst (λ (k : ℕ). HaveParentsBelow c.args.budb.now.database.listed → IsChain c.args.budb.now.database.listed c.args.one.now.dump.id c.args.one.now.volume.name (Err k)) (sym c.in-Err-Missing.id-is)
    (misses_dump c.args.budb.now.database.listed c.args.one.now c.fields-2.result.now.id c.bytes.result.now c.in-Err-Missing.id
    (ap (λ (d : DumpRecordFields). d.id) c.fields-2.ensures.value ∙ ap (λ (o : VolumeDump). o.dump.id) c.one.view_is)
    (c.bytes.ensures.value ∙ ap (λ (v : VolRecordFields). v.name) c.fields.ensures.value ∙ ap (λ (o : VolumeDump). o.volume.name) c.one.view_is)
    (subst (λ (f : ChainFault). Chains c.args.budb.now.database.listed c.fields-2.result.now.id c.bytes.result.now (Err f)) c.in-Err-Missing.field-0-is c.in-Err-Missing.ensures))

pub returns-in-Ok-clone : goal.returns-in-Ok-clone
returns-in-Ok-clone c = λ slots.
    let e = c.begin.ensures in
    begins slots c.args.budb.now.database.listed c.args.one.now c.fields-2.result.now.id c.bytes.result.now c.in-Ok.dumps c.begin.result
    (ap (λ (d : DumpRecordFields). d.id) c.fields-2.ensures.value ∙ ap (λ (o : VolumeDump). o.dump.id) c.one.view_is)
    (c.bytes.ensures.value ∙ ap (λ (v : VolRecordFields). v.name) c.fields.ensures.value ∙ ap (λ (o : VolumeDump). o.volume.name) c.one.view_is)
    (e.name ∙ c.in-Ok-clone.ensures.cases ∙ sym c.bytes.ensures.value)
    e.dumps e.played e.volume e.fault e.missing e.kept c.in-Ok.ensures
