use Rattle.std.proofs.Common.{◌≡◌, ◌+◌, ◌≤◌, ℕ, List, [], length, take, sym, ◌∙◌, ap, subst, arith}
use Rattle.std.specs.Prelude.{Err}
use Rattle.std.proofs.lemmas.Result.{err_from_is_err_and}
use Rattle.plant_core.specs.Records.{Record}
use Rattle.plant_effects.specs.Runs.{state_of, Done, SameNumbers}
use Rattle.plant_effects.proofs.Joining.{numbers_both, done_both, leaves_both, quiet_both}
use Rattle.tape_scan.specs.declared.sections.ScanFault.TheVariants as faults
use Rattle.tape_scan.specs.declared.scanning_walk.Walk.{Walk}
use Rattle.tape_scan.specs.declared.scanning_walk.Walk.TheVariants as walks
use Rattle.tape_scan.specs.Steps.{IsOf, IsReadAt, ReadsAt, marks_in, Walks, Walked}
use Rattle.tape_scan.proofs.ScanningLaws.{handed_at, some_item, marks_after, taken_more, stopped, ended}
use Rattle.tape_scan.proofs.scanning.walk_tape.Goals as goal

pub returns-in_err-item-clause-leaves : goal.returns-in_err-item-clause-leaves
returns-in_err-item-clause-leaves g c =
    let so_far = c.loop-place.invariant in
    leaves_both g.P.Plant [] [] c.args.plant.now c.loop-place.plant c.read_item.new.plant so_far.done so_far.leaves c.read_item.ensures.leaves

pub returns-in_err-item-clause-memory : goal.returns-in_err-item-clause-memory
returns-in_err-item-clause-memory g c = λ memory.
    let P = g.P.Plant in
    let mid = c.loop-place.plant in
    let new = c.read_item.new.plant in
    let e = err_from_is_err_and c.from_residual.result c.from_residual.ensures.1 in
    done_both P [] [] c.args.plant.now mid new c.loop-place.invariant.done
    (handed_at faults.Memory _ c.from_residual.result (Done P [] mid new) (e.1 ∙ ap Err e.2) c.in_err-item.ensures.memory memory)

pub returns-in_err-item-clause-memory_numbers : goal.returns-in_err-item-clause-memory_numbers
returns-in_err-item-clause-memory_numbers g c = λ memory.
    let P = g.P.Plant in
    let mid = c.loop-place.plant in
    let new = c.read_item.new.plant in
    let e = err_from_is_err_and c.from_residual.result c.from_residual.ensures.1 in
    numbers_both P c.args.plant.now mid new c.loop-place.invariant.numbers
    (handed_at faults.Memory _ c.from_residual.result (SameNumbers P mid new) (e.1 ∙ ap Err e.2) c.in_err-item.ensures.memory_numbers memory)

pub returns-in_err-longer-clause-memory : goal.returns-in_err-longer-clause-memory
returns-in_err-longer-clause-memory g c = λ memory.
    done_both g.P.Plant [] [] c.args.plant.now c.loop-place.plant c.read_item.new.plant c.loop-place.invariant.done c.in_ok-item.ensures.done

pub returns-in_err-longer-clause-memory_numbers : goal.returns-in_err-longer-clause-memory_numbers
returns-in_err-longer-clause-memory_numbers g c = λ memory.
    numbers_both g.P.Plant c.args.plant.now c.loop-place.plant c.read_item.new.plant c.loop-place.invariant.numbers c.in_ok-item.ensures.numbers

pub returns-in_err-longer-clause-leaves : goal.returns-in_err-longer-clause-leaves
returns-in_err-longer-clause-leaves g c =
    let so_far = c.loop-place.invariant in
    leaves_both g.P.Plant [] [] c.args.plant.now c.loop-place.plant c.read_item.new.plant so_far.done so_far.leaves c.read_item.ensures.leaves

pub returns-in-Stopped-clause-leaves : goal.returns-in-Stopped-clause-leaves
returns-in-Stopped-clause-leaves g c =
    let so_far = c.loop-place.invariant in
    leaves_both g.P.Plant [] [] c.args.plant.now c.loop-place.plant c.read_item.new.plant so_far.done so_far.leaves c.read_item.ensures.leaves

pub returns-in-Stopped-clause-walked : goal.returns-in-Stopped-clause-walked
returns-in-Stopped-clause-walked g c = λ told k items at read.
    let P = g.P.Plant in
    let so_far = c.loop-place.invariant in
    let tape = (state_of P c.args.plant.now).tape k in
    let seen = c.in_ok-item.ensures.item told k (so_far.numbers.tape.loaded ∙ at) in
    let there = subst (λ (rs : List Record). ReadsAt rs c.loop-place.place seen.0) ((so_far.done.state told).tape k) seen.2 in
    let step = (rw c.in-Stopped.is at c.in_ok-longer.ensures.steps) seen.0 seen.1 in
    subst (λ (w : Walk). Walked items c.loop-place.place w) (sym step.1)
    (stopped c.one_item.ensures tape items c.loop-place.place c.loop-place.walk seen.0 read there step.0 (so_far.taken told k items at read))

pub loop-place-preserved : goal.loop-place-preserved
loop-place-preserved g c =
    let P = g.P.Plant in
    let so_far = c.loop-place.invariant in
    let e = c.in_ok-item.ensures in
    let old = c.args.plant.now in
    let mid = c.loop-place.plant in
    let new = c.read_item.new.plant in
    let steps = rw c.in-Taken.is at c.in_ok-longer.ensures.steps in
    let some = some_item c.in_ok-item.item in
    let some_step = steps some.0 some.1 in
    record {
      taken = λ told k items at read.
          let seen = e.item told k (so_far.numbers.tape.loaded ∙ at) in
          let step = steps seen.0 seen.1 in
          let there = subst (λ (rs : List Record). ReadsAt rs c.loop-place.place seen.0) ((so_far.done.state told).tape k) seen.2 in
          subst (λ (w : Walk). Walks walks.Nothing 0 (take (c.loop-place.place + 1) items) w) (sym step.1)
          (taken_more c.one_item.ensures ((state_of P old).tape k) items c.loop-place.place c.loop-place.walk seen.0 read there step.0 (so_far.taken told k items at read));
      marks = subst (λ (w : Walk). marks_in w ≤ c.loop-place.place + 1) (sym some_step.1) (marks_after c.loop-place.place c.loop-place.walk some.0 some_step.0 so_far.marks);
      done = done_both P [] [] old mid new so_far.done e.done;
      leaves = leaves_both P [] [] old mid new so_far.done so_far.leaves c.read_item.ensures.leaves;
      numbers = numbers_both P old mid new so_far.numbers e.numbers;
      stays = quiet_both P old mid new so_far.stays e.stays;
      faults = e.cause.stays (λ failed. absurd (cc)) ∙ so_far.faults;
    }

pub returns-clause-walked : goal.returns-clause-walked
returns-clause-walked g c = λ told k items at read.
    let P = g.P.Plant in
    let so_far = c.loop-place.invariant in
    let old = c.args.plant.now in
    let tape = (state_of P old).tape k in
    let end : c.tape_len-count.result ≡ length tape = omega (arith, c.tape_len-count.ensures, g.met.P.Plant.records_told old k told c.requires.sound at) in
    let place : c.loop-place.place ≡ c.tape_len-count.result = omega (arith, c.loop-place-test.false, c.loop-place.auto.place-end) in
    ended tape items c.tape_len-count.result c.loop-place.walk read end (subst (λ (n : ℕ). Walks walks.Nothing 0 (take n items) c.loop-place.walk) place (so_far.taken told k items at read))
