use Rattle.std.proofs.Common.{◌≡◌, inl, inr, ℕ, false, IsTrue, sym, ◌∙◌, ap, subst, arith, rules}
use Rattle.std.specs.Prelude.{Some, slice_get}
use Rattle.std.proofs.lemmas.Bool.{cases_lt}
use Rattle.plant_effects.proofs.Joining.{nothing_quiet, quiet_both}
use Rattle.tape_config.specs.declared.port.PortFields.{PortFields}
use Rattle.tape_choice.specs.Append.{append_passes}
use Rattle.tape_choice.proofs.Scenes.{slot_at, here_still}
use Rattle.tape_scan.proofs.Looking.{loads_none, loads_both, leaves_after}
use Rattle.tape_choice.proofs.Loadings.{read_loaded, whole_loaded, handed_on}
use Rattle.tape_choice.proofs.PlaceLaws.{place_none, place_found, none_placed}
use Rattle.tape_choice.proofs.appending.find_place.Goals as goal

pub loop-slot-init : goal.loop-slot-init
loop-slot-init g c =
    let P = g.P.Plant in
    let laws = g.met.P.Plant in
    let old = c.args.plant.now in
    record {
      none = λ told slots whole has are k s first below at. absurd (let from = ap (λ (p : PortFields). p.first) c.fields-fields.ensures.value in omega (arith, first, below, from));
      loads = loads_none P old c.requires.sound (λ told survives image left. laws.left old image told c.requires.sound survives left);
      log_size = search rules;
      stays = nothing_quiet P old;
      faults = search rules;
    }

pub returns-in_err-place-clause-loads : goal.returns-in_err-place-clause-loads
returns-in_err-place-clause-loads g c =
    handed_on c.from_residual.result c.in_err-place.field-0.0 (search rules) (loads_both g.P.Plant c.args.plant.now c.loop-slot.plant c.try_place.new.plant c.loop-slot.invariant.loads) c.in_err-place.ensures.loads

pub returns-in_err-place-clause-leaves : goal.returns-in_err-place-clause-leaves
returns-in_err-place-clause-leaves g c = leaves_after g.P.Plant c.args.plant.now c.loop-slot.plant c.try_place.new.plant c.loop-slot.invariant.loads c.try_place.ensures.leaves

pub returns-in-Some-clause-loads : goal.returns-in-Some-clause-loads
returns-in-Some-clause-loads g c = loads_both g.P.Plant c.args.plant.now c.loop-slot.plant c.try_place.new.plant c.loop-slot.invariant.loads c.in_ok-place.ensures.loads

pub returns-in-Some-clause-leaves : goal.returns-in-Some-clause-leaves
returns-in-Some-clause-leaves g c = leaves_after g.P.Plant c.args.plant.now c.loop-slot.plant c.try_place.new.plant c.loop-slot.invariant.loads c.try_place.ensures.leaves

pub returns-in-Some-clause-is : goal.returns-in-Some-clause-is
returns-in-Some-clause-is g c = λ told slots whole has are.
    let P = g.P.Plant in
    let old = c.args.plant.now in
    let mid = c.loop-slot.plant in
    let k = c.loop-slot.slot in
    let so_far = c.loop-slot.invariant in
    let e = c.in_ok-place.ensures in
    let here : IsTrue ((P.view mid).present k) = rw c.in-Some.is at e.here in
    let below = g.met.P.Plant.here_below mid k so_far.loads.done.sound here in
    let s = slot_at P slots old k has (omega (arith, below, so_far.stays.stays.slots)) in
    let tried = e.is told s.0 whole (here_still P slots old mid k s.0 has so_far.stays s.1) (read_loaded P old mid k s.0.items told so_far.loads (has.each k s.0 s.1).items) (whole_loaded P old mid k (whole k) told so_far.loads (are k)) in
    let fields = c.fields-fields.ensures.value in
    place_found c.args.last.now c.args.port.now whole slots k s.0 c.in-Some.place (search rules) (search rules) s.1 (rw c.in-Some.is at tried) (λ j t first below at. so_far.none told slots whole has are j t first below at)

pub loop-slot-preserved : goal.loop-slot-preserved
loop-slot-preserved g c =
    let P = g.P.Plant in
    let old = c.args.plant.now in
    let mid = c.loop-slot.plant in
    let new = c.try_place.new.plant in
    let so_far = c.loop-slot.invariant in
    let e = c.in_ok-place.ensures in
    record {
      none = λ told slots whole has are k s first below at. elim (cases_lt k c.loop-slot.slot) [
        | inl before ↦ so_far.none told slots whole has are k s first before at
        | inr past ↦
            (let same : c.loop-slot.slot ≡ k = omega arith in
            let at_slot = subst (λ (n : ℕ). slice_get slots n ≡ Some s) (sym same) at in
            let tried = e.is told s whole (here_still P slots old mid c.loop-slot.slot s has so_far.stays at_slot) (read_loaded P old mid c.loop-slot.slot s.items told so_far.loads (has.each c.loop-slot.slot s at_slot).items) (whole_loaded P old mid c.loop-slot.slot (whole c.loop-slot.slot) told so_far.loads (are c.loop-slot.slot)) in
            subst (λ (n : ℕ). append_passes c.args.last.now.dump c.args.last.now.part whole n s ≡ false) same (place_none c.args.last.now whole c.loop-slot.slot s c.in_ok-place.field-0 c.in_default.not-Some tried))
      ];
      loads = loads_both P old mid new so_far.loads e.loads;
      log_size = e.log_size ∙ so_far.log_size;
      stays = quiet_both P old mid new so_far.stays e.stays;
      faults = search rules;
    }

pub returns-clause-is : goal.returns-clause-is
returns-clause-is g c = λ told slots whole has are.
    none_placed c.args.last.now c.args.port.now whole slots (λ k s first below at. c.loop-slot.invariant.none told slots whole has are k s first (search rules) at)
