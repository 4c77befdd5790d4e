use Rattle.std.proofs.Common.{◌≢◌, ◌≤◌, List, [], length, refl, sym, ◌∙◌, subst, arith, rules}
use Rattle.plant_core.specs.declared.record.Kind.TheVariants.{Bad}
use Rattle.plant_core.specs.Records.{Record, ShowsAt, NoBad}
use Rattle.plant_effects.specs.Runs.{state_of}
use Rattle.plant_effects.proofs.Joining.{numbers_both, done_both, leaves_both, quiet_both}
use Rattle.plant_effects.proofs.Wholes.{one_more, all_whole}
use Rattle.plant_effects.proofs.whole.is_whole.Goals as goal

pub returns-in_err-get_record-clause-leaves : goal.returns-in_err-get_record-clause-leaves
returns-in_err-get_record-clause-leaves g c =
    let so_far = c.loop-place.invariant in
    leaves_both g.P.Plant [] [] c.args.plant.now c.loop-place.plant c.get_record.new.plant so_far.done so_far.leaves c.get_record.ensures.leaves

pub returns-then-eq-clause-leaves : goal.returns-then-eq-clause-leaves
returns-then-eq-clause-leaves g c =
    let so_far = c.loop-place.invariant in
    leaves_both g.P.Plant [] [] c.args.plant.now c.loop-place.plant c.get_record.new.plant so_far.done so_far.leaves c.get_record.ensures.leaves

pub loop-place-preserved : goal.loop-place-preserved
loop-place-preserved g c =
    let P = g.P.Plant in
    let so_far = c.loop-place.invariant in
    let e = c.in_ok-get_record.ensures in
    let old = c.args.plant.now in
    let mid = c.loop-place.plant in
    let new = c.get_record.new.plant in
    let fine : c.in_ok-get_record.field-0 ≢ Bad = λ is. absurd (search rules) in
    record {
      none = λ told k at. one_more ((state_of P old).tape k) c.loop-place.place c.in_ok-get_record.field-0 c.get_record.new.into (so_far.none told k at)
          (subst (λ (l : List Record). ShowsAt l c.loop-place.place c.in_ok-get_record.field-0 c.get_record.new.into) ((so_far.done.state told).tape k) (e.found told k (so_far.numbers.tape.loaded ∙ at))) fine;
      done = done_both P [] [] old mid new so_far.done e.done;
      leaves = leaves_both P [] [] old mid new so_far.done so_far.leaves c.get_record.ensures.leaves;
      numbers = numbers_both P old mid new so_far.numbers e.numbers;
      stays = quiet_both P old mid new so_far.stays e.stays;
      faults = e.cause.stays ∙ so_far.faults;
    }

pub returns-clause-whole : goal.returns-clause-whole
returns-clause-whole g c = λ told k at.
    let P = g.P.Plant in
    let old = c.args.plant.now in
    let tape = (state_of P old).tape k in
    let past : length tape ≤ c.loop-place.place = omega (arith, c.loop-place-test.false, c.tape_len-place-end.ensures, g.met.P.Plant.records_told old k told c.requires.sound at) in
    (λ is. all_whole tape c.loop-place.place past (c.loop-place.invariant.none told k at), λ whole. refl)

pub returns-clause-now : goal.returns-clause-now
returns-clause-now g c = λ is told k at.
    let so_far = c.loop-place.invariant in
    subst NoBad (sym ((so_far.done.state told).tape k)) ((returns-clause-whole g c told k (sym so_far.numbers.tape.loaded ∙ at)).0 is)
