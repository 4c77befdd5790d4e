use Rattle.std.proofs.Common.{ap, ◌∙◌}
use Rattle.budb_changes.specs.declared.records.VolRecordFields.{VolRecordFields}
use Rattle.budb_changes.specs.declared.records.DumpRecordFields.{DumpRecordFields}
use Rattle.budb_fold.specs.Lookups.{VolumeDump}
use Rattle.restore_chain.proofs.PlanSteps.{answers_one, chained_one, told_missing, told_memory}
use Rattle.restore_chain.proofs.planning.plan_one.Goals as goal

pub returns-in-Ok-clause-planned : goal.returns-in-Ok-clause-planned
returns-in-Ok-clause-planned g c = λ told slots has.
    answers_one slots c.args.budb.now.database.listed c.args.one.now c.fields-2.result.now.id c.fields.result.now.name c.bytes.result.now c.in-Ok.dumps c.plan_chain.result
    (ap (λ (d : DumpRecordFields). d.id) c.fields-2.ensures.value ∙ ap (λ (o : VolumeDump). o.dump.id) c.one.view_is)
    (ap (λ (v : VolRecordFields). v.name) c.fields.ensures.value ∙ ap (λ (o : VolumeDump). o.volume.name) c.one.view_is)
    c.bytes.ensures.value c.in-Ok.ensures (c.plan_chain.ensures.planned told slots has)

pub returns-in-Ok-clause-chained : goal.returns-in-Ok-clause-chained
returns-in-Ok-clause-chained g c =
    chained_one c.args.budb.now.database.listed c.args.one.now c.fields-2.result.now.id c.fields.result.now.name c.bytes.result.now
    c.in-Ok.dumps c.plan_chain.result
    (ap (λ (d : DumpRecordFields). d.id) c.fields-2.ensures.value ∙ ap (λ (o : VolumeDump). o.dump.id) c.one.view_is)
    (ap (λ (v : VolRecordFields). v.name) c.fields.ensures.value ∙ ap (λ (o : VolumeDump). o.volume.name) c.one.view_is)
    c.bytes.ensures.value c.in-Ok.ensures c.plan_chain.ensures.kept

pub returns-in-Err-Missing-clause-looks : goal.returns-in-Err-Missing-clause-looks
returns-in-Err-Missing-clause-looks g c = told_missing g.P.Plant c.args.plant.now c.requires (λ told survives x left. g.met.P.Plant.left c.args.plant.now x told c.requires survives left) _

pub returns-in-Err-Memory-clause-looks : goal.returns-in-Err-Memory-clause-looks
returns-in-Err-Memory-clause-looks g c = told_memory g.P.Plant c.args.plant.now c.requires (λ told survives x left. g.met.P.Plant.left c.args.plant.now x told c.requires survives left)
