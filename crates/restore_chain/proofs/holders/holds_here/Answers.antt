use Rattle.std.proofs.Common.{◌≡◌, List, Bool, Ok, false, sym, subst, ap}
use Rattle.std.specs.Prelude.{slice_get}
use Rattle.std.proofs.lemmas.Result.{IfOk-weaker}
use Rattle.budb_changes.specs.declared.records.DumpRecordFields.{DumpRecordFields}
use Rattle.plant_core.specs.Records.{Record}
use Rattle.plant_effects.specs.Runs.{state_of}
use Rattle.tape_text.specs.Items.{Read}
use Rattle.archive_model.specs.Holding.{is_so, is_head_frame, holds}
use Rattle.restore_chain.specs.declared.fault.LookFault.TheVariants.{Failed}
use Rattle.restore_chain.proofs.Items.{holds_by}
use Rattle.restore_chain.proofs.ReadLaws.{where_true}
use Rattle.tape_scan.proofs.Looking.{looks_none, looks_after, loads_keep_tape}
use Rattle.restore_chain.proofs.holders.holds_here.Goals as goal

pub returns-in_default-clause-looks : goal.returns-in_default-clause-looks
returns-in_default-clause-looks g c =
    looks_none g.P.Plant Failed c.args.plant.now (Ok false) c.requires.sound (λ told survives x left. g.met.P.Plant.left c.args.plant.now x told c.requires.sound survives left) (λ is. absurd (cc))

pub returns-in-Ok-true-clause-is : goal.returns-in-Ok-true-clause-is
returns-in-Ok-true-clause-is g c = λ told items read.
    let P = g.P.Plant in
    let old = c.args.plant.now in
    let mid = c.has_label.new.plant in
    let d = c.args.dump.now in
    let tape = c.args.tape in
    let p = c.in-Some.part.now in
    let e = c.in-Ok-true.ensures in
    let later : Read ((state_of P mid).tape c.args.slot) items = subst (λ (t : List Record). Read t items) (sym (loads_keep_tape P old mid (e.looks.done (λ is. absurd (cc))) told c.args.slot)) read in
    IfOk-weaker c.has_head.result (λ is. is ≡ is_so (is_head_frame c.fields-in-Ok-true.result.now.id tape) (slice_get items p.first)) (λ is. is ≡ holds d tape items)
    (λ (head : Bool) head_is. holds_by d tape items p c.fields.result.now.initial c.fields-in-Ok-true.result.now.id c.in-Ok-true.field-0 head (sym c.in-Some.ensures)
    (ap (λ (x : DumpRecordFields). x.initial) c.fields.ensures.value) (ap (λ (x : DumpRecordFields). x.id) c.fields-in-Ok-true.ensures.value) (e.is told items read) c.in-Ok-true.field-0-test head_is)
    (c.has_head.ensures.is told items later)

pub returns-in-Ok-true-clause-looks : goal.returns-in-Ok-true-clause-looks
returns-in-Ok-true-clause-looks g c =
    let e = c.in-Ok-true.ensures.looks in
    looks_after g.P.Plant Failed c.args.plant.now c.has_label.new.plant c.has_head.new.plant c.has_head.result (e.done (λ is. absurd (cc))) e.stays (e.cause.stays (λ is. absurd (cc))) c.has_head.ensures.looks

pub returns-in-Ok-true-clause-loaded : goal.returns-in-Ok-true-clause-loaded
returns-in-Ok-true-clause-loaded g c = where_true c.has_head.result _ c.has_head.ensures.loaded
