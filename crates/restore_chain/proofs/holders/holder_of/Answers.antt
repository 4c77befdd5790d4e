use Rattle.std.proofs.Common.{◌≡◌, ◌+◌, ◌<◌, ◌≤◌, inl, inr, Some, None, Ok, Err, length, refl, sym, ap, ◌∙◌, arith}
use Rattle.std.specs.Prelude.{◌&&◌}
use Rattle.plant_effects.proofs.Joining.{nothing_quiet, quiet_both}
use Rattle.std.proofs.lemmas.Bool.{cases_Bool}
use Rattle.archive_model.specs.Holding.{holds, holder_here}
use Rattle.restore_chain.specs.Strays.{is_labelled}
use Rattle.restore_chain.proofs.StrayLaws.{load_most, load_of_stray, strays_more, strays_within, found_loads, at_least_strays}
use Rattle.restore_chain.specs.Planning.{number_of}
use Rattle.restore_chain.specs.declared.fault.LookFault.TheVariants.{Failed}
use Rattle.restore_chain.proofs.LeastSlots.{step_here, step_later, none_left, slot_there}
use Rattle.tape_scan.proofs.Looking.{looks_well, looks_after, looks_as, loads_none, loads_both, slot_later}
use Rattle.restore_chain.proofs.holders.holder_of.Goals as goal

pub loop-slot-init : goal.loop-slot-init
loop-slot-init g c = record {
  loads = loads_none g.P.Plant c.args.plant.now c.requires (λ told survives x left. g.met.P.Plant.left c.args.plant.now x told c.requires survives left);
  stays = nothing_quiet g.P.Plant c.args.plant.now;
  faults = refl;
  none = λ told slots has. refl;
  counted = λ told slots has. omega arith;
}

pub loop-slot-preserved : goal.loop-slot-preserved
loop-slot-preserved g c =
    let P = g.P.Plant in
    let so_far = c.loop-slot.invariant in
    let old = c.args.plant.now in
    let mid = c.loop-slot.plant in
    let new = c.is_holder.new.plant in
    let e = c.in-Ok-false.ensures in
    record {
      loads = loads_both P old mid new so_far.loads (e.looks.done (λ is. absurd (cc)));
      stays = quiet_both P old mid new so_far.stays e.looks.stays;
      faults = e.looks.cause.stays (λ is. absurd (cc)) ∙ so_far.faults;
      none = λ told slots has.
          (let within : c.loop-slot.slot < length slots = omega (arith, has.count, c.loop-slot-test.true, c.slots-slot-end.ensures) in
          let s = slot_there slots c.loop-slot.slot within in
          so_far.none told slots has ∙ step_later (λ t. t.here && holds c.args.dump.now c.args.tape t.items) c.loop-slot.slot slots c.loop-slot.slot s.0 s.1
          (sym (e.is told s.0 (slot_later P old mid so_far.loads so_far.stays told c.loop-slot.slot s.0 (has.each c.loop-slot.slot s.0 s.1))) ∙ c.in-Ok-false.field-0-test));
      counted = λ told slots has.
          (let within : c.loop-slot.slot < length slots = omega (arith, has.count, c.loop-slot-test.true, c.slots-slot-end.ensures) in
          let s = slot_there slots c.loop-slot.slot within in
          let is = slot_later P old mid so_far.loads so_far.stays told c.loop-slot.slot s.0 (has.each c.loop-slot.slot s.0 s.1) in
          let miss = sym (e.is told s.0 is) ∙ c.in-Ok-false.field-0-test in
          omega (arith, so_far.counted told slots has, e.loads told s.0 is, load_of_stray c.args.dump.now c.args.tape s.0 miss, strays_more c.args.dump.now c.args.tape slots c.loop-slot.slot s.0 s.1));
    }

pub returns-in-Ok-true-clause-holder : goal.returns-in-Ok-true-clause-holder
returns-in-Ok-true-clause-holder g c = λ told slots has.
    let P = g.P.Plant in
    let so_far = c.loop-slot.invariant in
    let old = c.args.plant.now in
    let mid = c.loop-slot.plant in
    let e = c.in-Ok-true.ensures in
    let within : c.loop-slot.slot < length slots = omega (arith, has.count, c.loop-slot-test.true, c.slots-slot-end.ensures) in
    let s = slot_there slots c.loop-slot.slot within in
    sym (ap number_of (so_far.none told slots has ∙ step_here (λ t. t.here && holds c.args.dump.now c.args.tape t.items) c.loop-slot.slot slots c.loop-slot.slot s.0 s.1
    (sym (e.is told s.0 (slot_later P old mid so_far.loads so_far.stays told c.loop-slot.slot s.0 (has.each c.loop-slot.slot s.0 s.1))) ∙ c.in-Ok-true.field-0-test)))

pub returns-in-Ok-true-clause-looks : goal.returns-in-Ok-true-clause-looks
returns-in-Ok-true-clause-looks g c =
    let P = g.P.Plant in
    let so_far = c.loop-slot.invariant in
    let old = c.args.plant.now in
    let mid = c.loop-slot.plant in
    let new = c.is_holder.new.plant in
    let e = c.in-Ok-true.ensures in
    looks_well P Failed old new (Ok (Some c.loop-slot.slot)) (loads_both P old mid new so_far.loads (e.looks.done (λ is. absurd (cc)))) (quiet_both P old mid new so_far.stays e.looks.stays)
    (e.looks.cause.stays (λ is. absurd (cc)) ∙ so_far.faults) (λ is. absurd (cc))

pub returns-in-Err-clause-looks : goal.returns-in-Err-clause-looks
returns-in-Err-clause-looks g c =
    let P = g.P.Plant in
    let so_far = c.loop-slot.invariant in
    let old = c.args.plant.now in
    let mid = c.loop-slot.plant in
    let new = c.is_holder.new.plant in
    looks_after P Failed old mid new (Err c.in-Err.fault) so_far.loads so_far.stays so_far.faults
    (looks_as P Failed Failed mid new (Err c.in-Err.fault) (Err c.in-Err.fault) (λ is. (cc)) (λ is. (cc)) c.in-Err.ensures.looks)

pub returns-clause-holder : goal.returns-clause-holder
returns-clause-holder g c = λ told slots has.
    let past : length slots ≤ c.loop-slot.slot = omega (arith, has.count, c.loop-slot-test.false, c.slots-slot-end.ensures) in
    sym (ap number_of (c.loop-slot.invariant.none told slots has ∙ none_left (λ t. t.here && holds c.args.dump.now c.args.tape t.items) c.loop-slot.slot slots c.loop-slot.slot past))

pub returns-clause-looks : goal.returns-clause-looks
returns-clause-looks g c =
    let so_far = c.loop-slot.invariant in
    looks_well g.P.Plant Failed c.args.plant.now c.loop-slot.plant (Ok None) so_far.loads so_far.stays so_far.faults (λ is. absurd (cc))

pub returns-in-Ok-true-clause-loads : goal.returns-in-Ok-true-clause-loads
returns-in-Ok-true-clause-loads g c = λ told slots has.
    let P = g.P.Plant in
    let so_far = c.loop-slot.invariant in
    let old = c.args.plant.now in
    let mid = c.loop-slot.plant in
    let e = c.in-Ok-true.ensures in
    let d = c.args.dump.now in
    let tape = c.args.tape in
    let within : c.loop-slot.slot < length slots = omega (arith, has.count, c.loop-slot-test.true, c.slots-slot-end.ensures) in
    let s = slot_there slots c.loop-slot.slot within in
    let is = slot_later P old mid so_far.loads so_far.stays told c.loop-slot.slot s.0 (has.each c.loop-slot.slot s.0 s.1) in
    let found : holder_here d tape slots ≡ Some (c.loop-slot.slot, s.0) = so_far.none told slots has ∙ step_here (λ t. t.here && holds d tape t.items) c.loop-slot.slot slots c.loop-slot.slot s.0 s.1 (sym (e.is told s.0 is) ∙ c.in-Ok-true.field-0-test) in
    omega (arith, so_far.counted told slots has, e.loads told s.0 is, load_most (is_labelled d tape s.0), strays_within d tape slots c.loop-slot.slot, found_loads d tape slots (c.loop-slot.slot, s.0) found)

pub returns-in-Err-clause-loads : goal.returns-in-Err-clause-loads
returns-in-Err-clause-loads g c = λ told slots has.
    let P = g.P.Plant in
    let so_far = c.loop-slot.invariant in
    let old = c.args.plant.now in
    let mid = c.loop-slot.plant in
    let d = c.args.dump.now in
    let tape = c.args.tape in
    let within : c.loop-slot.slot < length slots = omega (arith, has.count, c.loop-slot-test.true, c.slots-slot-end.ensures) in
    let s = slot_there slots c.loop-slot.slot within in
    let is = slot_later P old mid so_far.loads so_far.stays told c.loop-slot.slot s.0 (has.each c.loop-slot.slot s.0 s.1) in
    let here = c.in-Err.ensures.loads told s.0 is in
    elim (cases_Bool (s.0.here && holds d tape s.0.items)) [
      | inl hit ↦
          (let found : holder_here d tape slots ≡ Some (c.loop-slot.slot, s.0) = so_far.none told slots has ∙ step_here (λ t. t.here && holds d tape t.items) c.loop-slot.slot slots c.loop-slot.slot s.0 s.1 hit in
          omega (arith, so_far.counted told slots has, here, load_most (is_labelled d tape s.0), strays_within d tape slots c.loop-slot.slot, found_loads d tape slots (c.loop-slot.slot, s.0) found))
      | inr miss ↦ omega (arith, so_far.counted told slots has, here, load_of_stray d tape s.0 miss, strays_more d tape slots c.loop-slot.slot s.0 s.1, strays_within d tape slots (c.loop-slot.slot + 1), at_least_strays d tape slots)
    ]

pub returns-clause-loads : goal.returns-clause-loads
returns-clause-loads g c = λ told slots has.
    omega (arith, c.loop-slot.invariant.counted told slots has, strays_within c.args.dump.now c.args.tape slots c.loop-slot.slot, at_least_strays c.args.dump.now c.args.tape slots)

pub returns-in-Ok-true-clause-loaded : goal.returns-in-Ok-true-clause-loaded
returns-in-Ok-true-clause-loaded g c = c.in-Ok-true.ensures.loaded c.in-Ok-true.field-0-test
