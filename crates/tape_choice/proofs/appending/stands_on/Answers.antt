use Rattle.std.proofs.Common.{◌≡◌, ◌<◌, ◌≤◌, ◌-◌, [], List, length, sym, ◌∙◌, ap, subst, arith}
use Rattle.std.specs.Prelude.{Option, slice_get, IfOk, IsTrue, ◌↔◌}
use Rattle.plant_core.specs.Records.{Record, NoBad}
use Rattle.plant_effects.specs.Runs.{state_of}
use Rattle.plant_effects.proofs.Joining.{leaves_both}
use Rattle.budb_changes.specs.declared.records.DumpRecordFields.{DumpRecordFields}
use Rattle.tape_text.specs.Items.{Read}
use Rattle.archive_model.specs.Holding.{is_so, is_head_frame}
use Rattle.tape_choice.specs.declared.survey.Survey.{Survey}
use Rattle.tape_choice.specs.Append.{LastPart}
use Rattle.tape_choice.specs.Surveys.{stands_on}
use Rattle.tape_choice.proofs.SurveyLaws.{read_length}
use Rattle.tape_choice.proofs.PlaceLaws.{front_stands, too_short}
use Rattle.tape_choice.proofs.appending.stands_on.Goals as goal

pub returns-clause-leaves : goal.returns-clause-leaves
returns-clause-leaves g c =
    leaves_both g.P.Plant [] [] c.args.plant.now c.is_head_at.new.plant c.count_front.new.plant c.in_ok-is_head_at.ensures.done c.is_head_at.ensures.leaves c.count_front.ensures.leaves

pub returns-then-part-tape_len-clause-is : goal.returns-then-part-tape_len-clause-is
returns-then-part-tape_len-clause-is g c = λ told k items whole at read are.
    let P = g.P.Plant in
    let old = c.args.plant.now in
    let l : LastPart = record { dump = c.last.inside.dump.now; part = c.last.inside.part.now } in
    let long = read_length ((state_of P old).tape k) items read in
    let records = g.met.P.Plant.records_told old k told c.requires.sound at in
    let same = c.in_ok-is_head_at.ensures.numbers.tape.records in
    let short : length items < c.last.inside.part.now.end = omega (arith, long, records, same, c.tape_len.ensures, c.if-part-tape_len.true) in
    too_short l whole items short ∙ ap (λ (m : LastPart). stands_on m whole items) c.last.view_is

pub returns-clause-is : goal.returns-clause-is
returns-clause-is g c = λ told k items whole at read are.
    let P = g.P.Plant in
    let old = c.args.plant.now in
    let mid = c.is_head_at.new.plant in
    let e = c.in_ok-is_head_at.ensures in
    let l : LastPart = record { dump = c.last.inside.dump.now; part = c.last.inside.part.now } in
    let tape = (e.done.state told).tape k in
    let read_mid = subst (λ (t : List Record). Read t items) (sym tape) read in
    let are_mid = subst (λ (t : List Record). IsTrue whole ↔ NoBad t) (sym tape) are in
    let long = read_length ((state_of P old).tape k) items read in
    let records = g.met.P.Plant.records_told old k told c.requires.sound at in
    let enough : c.last.inside.part.now.end ≤ length items = omega (arith, long, records, e.numbers.tape.records, c.tape_len.ensures, c.if-part-tape_len.false) in
    let few : c.last.inside.part.now.marks ≤ c.last.inside.part.now.end - c.last.inside.part.now.marks = omega (arith, c.saturating_sub.ensures, c.if-part-saturating_sub.false) in
    let part = c.last.inside.part.now in
    let head = ap (λ (d : DumpRecordFields). is_so (is_head_frame d.id part.tape) (slice_get items part.first)) (sym c.fields.ensures.value) ∙ sym (e.is told k items at read) ∙ c.if-not-branch.false in
    let counted = c.count_front.ensures.is told k items whole (e.numbers.tape.loaded ∙ at) read_mid are_mid in
    subst (λ (m : LastPart). IfOk c.count_front.result (λ seen. seen ≡ stands_on m whole items)) c.last.view_is
    (subst (λ (o : Option Survey). IfOk c.count_front.result (λ seen. seen ≡ o)) (front_stands l whole items head enough few) counted)
