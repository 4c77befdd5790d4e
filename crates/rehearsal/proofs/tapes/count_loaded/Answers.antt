use Rattle.std.proofs.Common.{◌+◌, ◌≤◌, List, [], length, ◌∙◌, ap, subst, arith}
use Rattle.std.specs.List.{count_by}
use Rattle.std.proofs.lemmas.List.{take_all}
use Rattle.plant_core.specs.Records.{Record, ShowsAt}
use Rattle.plant_effects.specs.Runs.{state_of}
use Rattle.plant_effects.proofs.Joining.{numbers_both, done_both, quiet_both}
use Rattle.rehearsal.specs.declared.tapes.Records.{Records}
use Rattle.rehearsal.specs.Counts.{is_block, is_mark}
use Rattle.rehearsal.proofs.RecordLaws.{more_blocks, more_marks}
use Rattle.rehearsal.proofs.tapes.count_loaded.Goals as goal

pub loop-place-preserved : goal.loop-place-preserved
loop-place-preserved g c =
    let P = g.P.Plant in
    let so_far = c.loop-place.invariant in
    let e = c.in_ok-kind.ensures in
    let old = c.args.plant.now in
    let mid = c.loop-place.plant in
    let new = c.get_record.new.plant in
    let place = c.loop-place.place in
    let kind = c.in_ok-kind.kind in
    let into = c.get_record.new.into in
    let one = c.one_of.ensures in
    let sum = c.with-records.ensures in
    record {
      blocks = λ told k at.
          sum.blocks ∙ ap (λ (r : Records). c.loop-place.records.blocks + r.blocks) one.is
          ∙ more_blocks ((state_of P old).tape k) place kind into c.loop-place.records.blocks
          (subst (λ (l : List Record). ShowsAt l place kind into) ((so_far.done.state told).tape k) (e.found told k (so_far.numbers.tape.loaded ∙ at))) (so_far.blocks told k at);
      marks = λ told k at.
          sum.marks ∙ ap (λ (r : Records). c.loop-place.records.marks + r.marks) one.is
          ∙ more_marks ((state_of P old).tape k) place kind into c.loop-place.records.marks
          (subst (λ (l : List Record). ShowsAt l place kind into) ((so_far.done.state told).tape k) (e.found told k (so_far.numbers.tape.loaded ∙ at))) (so_far.marks told k at);
      few_blocks = omega (arith, sum.blocks, so_far.few_blocks, one.few.0);
      few_marks = omega (arith, sum.marks, so_far.few_marks, one.few.1);
      done = done_both P [] [] old mid new so_far.done e.done;
      numbers = numbers_both P old mid new so_far.numbers e.numbers;
      stays = quiet_both P old mid new so_far.stays e.stays;
    }

pub returns-clause-blocks : goal.returns-clause-blocks
returns-clause-blocks g c = λ told k at.
    let P = g.P.Plant in
    let old = c.args.plant.now in
    let tape = (state_of P old).tape k in
    let past : length tape ≤ c.loop-place.place = omega (arith, c.loop-place-test.false, c.tape_len-place-end.ensures, g.met.P.Plant.records_told old k told c.requires.sound at) in
    c.loop-place.invariant.blocks told k at ∙ ap (count_by is_block) (take_all c.loop-place.place tape past)

pub returns-clause-marks : goal.returns-clause-marks
returns-clause-marks g c = λ told k at.
    let P = g.P.Plant in
    let old = c.args.plant.now in
    let tape = (state_of P old).tape k in
    let past : length tape ≤ c.loop-place.place = omega (arith, c.loop-place-test.false, c.tape_len-place-end.ensures, g.met.P.Plant.records_told old k told c.requires.sound at) in
    c.loop-place.invariant.marks told k at ∙ ap (count_by is_mark) (take_all c.loop-place.place tape past)
