use Rattle.std.proofs.Common.{ℕ, ◌+◌, ◌≤◌, length, take, drop, refl, sym, ◌∙◌, arith, List, [], ◌∷◌, subst}
use Rattle.std.proofs.lemmas.List.{append-nil, take_all}
use Rattle.plant_core.specs.Effects.{tells}
use Rattle.plant_effects.specs.Runs.{state_of, Done}
use Rattle.plant_effects.proofs.Joining.{same_numbers, numbers_both, nothing_left, nothing_telling, telling_both, telling_call}
use Rattle.plant_effects.proofs.OutputCalls.{grows_part, told_more, told_part, tells_step, parts_ok, parts_err, taken_more, rest_length}
use Rattle.plant_effects.proofs.telling.tell_whole.Goals as goal

pub loop-at-init : goal.loop-at-init
loop-at-init g c =
    let P = g.P.Plant in
    let laws = g.met.P.Plant in
    let old = c.args.plant.now in
    record {
      within = omega arith;
      done = record {
        sound = c.requires;
        survives = λ told survives. survives;
        state = λ told. record { log = refl; tape = λ k. refl; told = sym (append-nil _); log_settled = refl; settled = λ k. refl };
      };
      leaves = nothing_left P _ old (λ told survives image left. laws.left old image told c.requires survives left);
      stays = nothing_telling P old;
      numbers = same_numbers P old;
      tell_faults = refl;
    }

pub loop-at-preserved : goal.loop-at-preserved
loop-at-preserved g c =
    let P = g.P.Plant in
    let laws = g.met.P.Plant in
    let so_far = c.loop-at.invariant in
    let e = c.in_ok-count.ensures in
    let text = c.args.text.now in
    let at = c.loop-at.at in
    let n = c.in_ok-count.count in
    let mid = c.loop-at.plant in
    let within : at + n ≤ length text = omega (arith, e.front, rest_length at text, so_far.within) in
    record {
      within = within;
      done = record {
        sound = e.sound;
        survives = λ told survives. e.survives told (so_far.done.survives told survives);
        state = λ told. told_more P (take at text) _ (take (at + n) text) c.args.plant.now mid c.tell.new.self (taken_more at n text) (so_far.done.state told) (e.only.state told);
      };
      leaves = record {
        crash = tells_step P text (take at text) _ (drop (at + n) text) c.args.plant.now mid c.tell.new.self (parts_ok at n text within)
            (λ told survives image left. laws.left mid image told so_far.done.sound survives left) so_far.done so_far.leaves.crash e.crash;
        told = λ told. told_part text at n (state_of P c.args.plant.now).told (state_of P mid).told (state_of P c.tell.new.self).told (so_far.done.state told).told (e.only.state told).told;
        grows = λ told. grows_part (state_of P c.args.plant.now).told (state_of P mid).told (state_of P c.tell.new.self).told _ (so_far.leaves.grows told) (e.only.state told).told;
      };
      stays = telling_both P c.args.plant.now mid c.tell.new.self so_far.stays (telling_call P mid c.tell.new.self e.stays e.cause.later);
      numbers = numbers_both P c.args.plant.now mid c.tell.new.self so_far.numbers (record { tape = record { loaded = e.only.loaded; records = e.only.records; loads = e.stays.loads }; log_size = e.only.log_size });
      tell_faults = e.cause.stays ∙ so_far.tell_faults;
    }

pub returns-in_err-count-clause-leaves : goal.returns-in_err-count-clause-leaves
returns-in_err-count-clause-leaves g c =
    let P = g.P.Plant in
    let laws = g.met.P.Plant in
    let so_far = c.loop-at.invariant in
    let e = c.in_err-count.ensures in
    let text = c.args.text.now in
    let at = c.loop-at.at in
    let mid = c.loop-at.plant in
    record {
      crash = tells_step P text (take at text) _ [] c.args.plant.now mid c.tell.new.self (parts_err at text)
          (λ told survives image left. laws.left mid image told so_far.done.sound survives left) so_far.done so_far.leaves.crash e.crash;
      told = λ told. told_part text at (e.part told).0 (state_of P c.args.plant.now).told (state_of P mid).told (state_of P c.tell.new.self).told (so_far.done.state told).told (e.part told).1;
      grows = λ told. grows_part (state_of P c.args.plant.now).told (state_of P mid).told (state_of P c.tell.new.self).told _ (so_far.leaves.grows told) (e.part told).1;
    }

pub returns-in_err-count-clause-stays : goal.returns-in_err-count-clause-stays
returns-in_err-count-clause-stays g c =
    let e = c.in_err-count.ensures in
    telling_both g.P.Plant c.args.plant.now c.loop-at.plant c.tell.new.self c.loop-at.invariant.stays (telling_call g.P.Plant c.loop-at.plant c.tell.new.self e.stays e.cause.later)

pub returns-clause-done : goal.returns-clause-done
returns-clause-done g c =
    let so_far = c.loop-at.invariant in
    subst (λ (l : List ℕ). Done g.P.Plant (tells l ∷ []) c.args.plant.now c.loop-at.plant) (take_all c.loop-at.at c.args.text.now (omega (arith, c.loop-at-test.false))) so_far.done
