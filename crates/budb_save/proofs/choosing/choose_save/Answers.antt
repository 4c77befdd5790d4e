use Rattle.std.proofs.Common.{◌≡◌, inl, inr, ℕ, [], IsTrue, sym, subst, arith, rules}
use Rattle.std.specs.Prelude.{Some, slice_get}
use Rattle.std.proofs.lemmas.Bool.{cases_lt}
use Rattle.plant_effects.proofs.Joining.{numbers_both, done_both, leaves_both, quiet_both}
use Rattle.tape_choice.proofs.Scenes.{slot_at, here_still, read_still}
use Rattle.budb_save.proofs.Picks.{pick_none, pick_found, none_picked}
use Rattle.budb_save.proofs.choosing.choose_save.Goals as goal

pub returns-in_err-picked-clause-leaves : goal.returns-in_err-picked-clause-leaves
returns-in_err-picked-clause-leaves g c =
    let so_far = c.loop-slot.invariant in
    leaves_both g.P.Plant [] [] c.args.plant.now c.loop-slot.plant c.try_slot.new.plant so_far.done so_far.leaves c.try_slot.ensures.leaves

pub returns-in-Some-clause-leaves : goal.returns-in-Some-clause-leaves
returns-in-Some-clause-leaves g c =
    let so_far = c.loop-slot.invariant in
    leaves_both g.P.Plant [] [] c.args.plant.now c.loop-slot.plant c.try_slot.new.plant so_far.done so_far.leaves c.try_slot.ensures.leaves

pub returns-in-Some-clause-picked : goal.returns-in-Some-clause-picked
returns-in-Some-clause-picked g c = λ told slots has.
    let P = g.P.Plant in
    let old = c.args.plant.now in
    let mid = c.loop-slot.plant in
    let k = c.loop-slot.slot in
    let so_far = c.loop-slot.invariant in
    let e = c.in_ok-picked.ensures in
    let here : IsTrue ((P.view mid).present k) = rw c.in-Some.is at e.here in
    let below = g.met.P.Plant.here_below mid k so_far.done.sound here in
    let s = slot_at P slots old k has (omega (arith, below, so_far.stays.stays.slots)) in
    let tried = e.tried told s.0 (here_still P slots old mid k s.0 has so_far.stays s.1) (read_still P slots old mid k s.0 told has so_far.done s.1) in
    let fields = c.fields-fields.ensures.value in
    pick_found c.args.wish c.args.port.now slots k s.0 c.in-Some.picked (search rules) (search rules) s.1 (rw c.in-Some.is at tried) (λ j t first below at. so_far.none told slots has j t first below at)

pub loop-slot-preserved : goal.loop-slot-preserved
loop-slot-preserved g c =
    let P = g.P.Plant in
    let old = c.args.plant.now in
    let mid = c.loop-slot.plant in
    let new = c.try_slot.new.plant in
    let so_far = c.loop-slot.invariant in
    let e = c.in_ok-picked.ensures in
    record {
      none = λ told slots has k s first below at. elim (cases_lt k c.loop-slot.slot) [
        | inl before ↦ so_far.none told slots has k s first before at
        | inr past ↦
            (let same : c.loop-slot.slot ≡ k = omega arith in
            let at_slot = subst (λ (n : ℕ). slice_get slots n ≡ Some s) (sym same) at in
            let tried = e.tried told s (here_still P slots old mid c.loop-slot.slot s has so_far.stays at_slot) (read_still P slots old mid c.loop-slot.slot s told has so_far.done at_slot) in
            (pick_none c.args.wish c.loop-slot.slot s c.in_ok-picked.field-0 c.in_default.not-Some tried))
      ];
      done = done_both P [] [] old mid new so_far.done e.done;
      leaves = leaves_both P [] [] old mid new so_far.done so_far.leaves c.try_slot.ensures.leaves;
      numbers = numbers_both P old mid new so_far.numbers e.numbers;
      stays = quiet_both P old mid new so_far.stays e.stays;
      faults = search rules;
    }

pub returns-clause-picked : goal.returns-clause-picked
returns-clause-picked g c = λ told slots has.
    none_picked c.args.wish c.args.port.now slots (λ k s first below at. c.loop-slot.invariant.none told slots has k s first (search rules) at)
