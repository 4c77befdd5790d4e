use Rattle.std.proofs.Common.{List, [], ◌∙◌, ap, subst, arith}
use Rattle.plant_core.specs.Records.{Record, ShowsAt}
use Rattle.plant_effects.specs.Runs.{state_of}
use Rattle.plant_effects.proofs.Joining.{numbers_both, done_both, leaves_both, quiet_both}
use Rattle.tape_choice.specs.declared.survey.Survey.{Survey}
use Rattle.tape_choice.specs.Surveys.{with_item}
use Rattle.tape_choice.proofs.SurveyLaws.{read_at, survey_more}
use Rattle.tape_choice.proofs.survey.count_records.Goals as goal

pub returns-in_err-kind-clause-leaves : goal.returns-in_err-kind-clause-leaves
returns-in_err-kind-clause-leaves g c =
    let so_far = c.loop-place.invariant in
    leaves_both g.P.Plant [] [] c.args.plant.now c.loop-place.plant c.get_record.new.plant so_far.done so_far.leaves c.get_record.ensures.leaves

pub loop-place-preserved : goal.loop-place-preserved
loop-place-preserved g c =
    let P = g.P.Plant in
    let old = c.args.plant.now in
    let mid = c.loop-place.plant in
    let new = c.get_record.new.plant in
    let so_far = c.loop-place.invariant in
    let e = c.in_ok-kind.ensures in
    let place = c.loop-place.place in
    let into = c.get_record.new.into in
    record {
      seen = λ told k items at read.
          let tape = (state_of P old).tape k in
          let shown = subst (λ (l : List Record). ShowsAt l place c.in_ok-kind.kind into) ((so_far.done.state told).tape k) (e.found told k (so_far.numbers.tape.loaded ∙ at)) in
          let item = read_at tape items place shown.found read shown.is in
          c.with_record-seen.ensures.is shown.found item.item shown.shown item.reads
          ∙ ap (λ (s : Survey). with_item s item.item) (so_far.seen told k items at read)
          ∙ survey_more items place item.item item.at;
      few = omega (arith, c.with_record-seen.ensures.few, so_far.few);
      done = done_both P [] [] old mid new so_far.done e.done;
      leaves = leaves_both P [] [] old mid new so_far.done so_far.leaves c.get_record.ensures.leaves;
      numbers = numbers_both P old mid new so_far.numbers e.numbers;
      stays = quiet_both P old mid new so_far.stays e.stays;
      faults = e.cause.stays ∙ so_far.faults;
    }
