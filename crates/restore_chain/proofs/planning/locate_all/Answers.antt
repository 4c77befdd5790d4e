use Rattle.std.proofs.Common.{◌≡◌, ◌<◌, Bool, Err, Some, None, List, length, map, refl, sym, ap, ◌∙◌, subst, arith}
use Rattle.std.proofs.lemmas.Result.{IfOk-weaker}
use Rattle.budb_fold.proofs.Finds.{found_here}
use Rattle.plant_effects.proofs.Joining.{nothing_quiet, quiet_both}
use Rattle.tape_frames.specs.TapeNames.{numbered}
use Rattle.archive_model.specs.Archives.{is_missing}
use Rattle.restore_chain.specs.declared.fault.LookFault.TheVariants.{Failed}
use Rattle.restore_chain.specs.declared.planning.Found.{Found}
use Rattle.restore_chain.specs.declared.planning.Found.TheVariants.{Missing}
use Rattle.tape_scan.specs.Slots.{Slot}
use Rattle.tape_scan.specs.Looking.{HasSlots}
use Rattle.restore_chain.specs.Planning.{located, LocatesNext, Locates}
use Rattle.restore_chain.proofs.LocatedLaws.{is_not_there, located_more, none_missing_yet}
use Rattle.tape_scan.proofs.Looking.{looks_well, looks_after, looks_as, loads_none, loads_both, slots_later}
use Rattle.restore_chain.proofs.planning.locate_all.Goals as goal

pub loop-need-init : goal.loop-need-init
loop-need-init g c = record {
  loads = loads_none g.P.Plant c.args.plant.now c.requires (λ told survives x left. g.met.P.Plant.left c.args.plant.now x told c.requires survives left);
  stays = nothing_quiet g.P.Plant c.args.plant.now;
  faults = refl;
  located = λ told slots has. ap (map Some) (sym c.new-tapes.ensures);
  none = λ told slots has. refl;
}

pub loop-need-preserved : goal.loop-need-preserved
loop-need-preserved g c =
    let P = g.P.Plant in
    let so_far = c.loop-need.invariant in
    let old = c.args.plant.now in
    let mid = c.loop-need.plant in
    let new = c.locate_next.new.plant in
    let e = c.in-Ok-true.ensures in
    let n = c.need-item.result in
    let within : c.loop-need.need-index < length c.args.needs.now = omega (arith, c.loop-need-test.true) in
    let next = λ (told : P.tells) (slots : List Slot) (has : HasSlots P slots old). subst (λ (b : Bool). LocatesNext slots n b c.loop-need.tapes c.locate_next.new.tapes) c.in-Ok-true.field-0-test (e.located told slots (slots_later P slots old mid so_far.loads so_far.stays told has)) in
    record {
      loads = loads_both P old mid new so_far.loads (e.looks.done (λ is. absurd (cc)));
      stays = quiet_both P old mid new so_far.stays e.looks.stays;
      faults = e.looks.cause.stays (λ is. absurd (cc)) ∙ so_far.faults;
      located = λ told slots has.
          (let t = next told slots has in
          located_more slots c.args.needs.now c.loop-need.need-index n c.loop-need.tapes c.locate_next.new.tapes t.0 within c.need-item.is (so_far.located told slots has) t.1 t.2);
      none = λ told slots has.
          (let t = next told slots has in
          none_missing_yet slots c.args.needs.now c.loop-need.need-index n t.0 within c.need-item.is t.1 (so_far.none told slots has));
    }

pub returns-in-Ok-false-clause-found : goal.returns-in-Ok-false-clause-found
returns-in-Ok-false-clause-found g c = λ told slots has.
    let P = g.P.Plant in
    let so_far = c.loop-need.invariant in
    let old = c.args.plant.now in
    let mid = c.loop-need.plant in
    let n = c.need-item.result in
    let within : c.loop-need.need-index < length c.args.needs.now = omega (arith, c.loop-need-test.true) in
    let none : located slots n ≡ None = subst (λ (b : Bool). LocatesNext slots n b c.loop-need.tapes c.locate_next.new.tapes) c.in-Ok-false.field-0-test (c.in-Ok-false.ensures.located told slots (slots_later P slots old mid so_far.loads so_far.stays told has)) in
    IfOk-weaker c.missing.result (λ found. found ≡ Missing (numbered n.dump.base n.tape) n.dump.initial) (Locates slots c.args.needs.now)
    (λ (found : Found) is. subst (Locates slots c.args.needs.now) (sym is) (record {
      need = n;
      first = found_here (is_missing slots) c.args.needs.now c.loop-need.need-index n within c.need-item.is (is_not_there slots n none) (so_far.none told slots has);
      named = refl;
      initial_is = refl;
    }))
    c.missing.ensures.is

pub returns-in-Ok-false-clause-looks : goal.returns-in-Ok-false-clause-looks
returns-in-Ok-false-clause-looks g c =
    let P = g.P.Plant in
    let so_far = c.loop-need.invariant in
    let old = c.args.plant.now in
    let mid = c.loop-need.plant in
    let new = c.locate_next.new.plant in
    let e = c.in-Ok-false.ensures in
    looks_well P Failed old new c.missing.result (loads_both P old mid new so_far.loads (e.looks.done (λ is. absurd (cc)))) (quiet_both P old mid new so_far.stays e.looks.stays)
    (e.looks.cause.stays (λ is. absurd (cc)) ∙ so_far.faults) c.missing.ensures.never

pub returns-in-Err-clause-looks : goal.returns-in-Err-clause-looks
returns-in-Err-clause-looks g c =
    let P = g.P.Plant in
    let so_far = c.loop-need.invariant in
    let old = c.args.plant.now in
    let mid = c.loop-need.plant in
    let new = c.locate_next.new.plant in
    looks_after P Failed old mid new (Err c.in-Err.fault) so_far.loads so_far.stays so_far.faults
    (looks_as P Failed Failed mid new (Err c.in-Err.fault) (Err c.in-Err.fault) (λ is. (cc)) (λ is. (cc)) c.in-Err.ensures.looks)
