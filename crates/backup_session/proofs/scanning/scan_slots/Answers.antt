use Rattle.std.proofs.Common.{length-append, ℕ, ◌<◌, [], ◌∷◌, length, get_or, refl, sym, ◌∙◌, ap, subst, arith}
use Rattle.std.specs.Prelude.{Bool, Err, IsTrue}
use Rattle.std.proofs.lemmas.Result.{err_from_is_err_and}
use Rattle.std.proofs.lemmas.List.{take_all, take_more}
use Rattle.std.proofs.lemmas.List.Elements.{All-get_or}
use Rattle.plant_effects.specs.Runs.{state_of}
use Rattle.plant_effects.proofs.Joining.{nothing_quiet, quiet_both}
use Rattle.tape_scan.specs.Looking.{Loads}
use Rattle.tape_scan.proofs.Looking.{loads_none, loads_both, leaves_after, leaves_loads}
use Rattle.dump_courses.proofs.Stopping.{on_stop, handed}
use Rattle.backup_session.specs.declared.stops.Stop.TheVariants as stops
use Rattle.backup_session.specs.Scanning.{scans_of}
use Rattle.backup_session.proofs.ScanLaws.{scan_again}
use Rattle.backup_session.proofs.scanning.scan_slots.Goals as goal

pub loop-i-init : goal.loop-i-init
loop-i-init g c =
    let P = g.P.Plant in
    let old = c.args.plant.now in
    record {
      tapes = λ told. c.new-tapes.ensures;
      count = ap length c.new-tapes.ensures;
      loads = loads_none P old c.requires.sound (λ told survives image left. g.met.P.Plant.left old image told c.requires.sound survives left);
      stays = nothing_quiet P old;
      faults = refl;
    }

pub scan_slot-requires-clause-here : goal.scan_slot-requires-clause-here
scan_slot-requires-clause-here g c =
    let P = g.P.Plant in
    let so_far = c.loop-i.invariant in
    let i : ℕ = c.loop-i.i in
    subst (λ (p : ℕ → Bool). IsTrue (p (get_or c.args.slots.now i 0))) (sym so_far.stays.stays.present) (All-get_or (λ (k : ℕ). IsTrue ((P.view c.args.plant.now).present k)) c.args.slots.now i 0 (omega (arith, c.loop-i-test.true)) c.requires.here)

pub loop-i-preserved : goal.loop-i-preserved
loop-i-preserved g c =
    let P = g.P.Plant in
    let old = c.args.plant.now in
    let mid = c.loop-i.plant in
    let new = c.scan_slot.new.plant in
    let slots = c.args.slots.now in
    let i : ℕ = c.loop-i.i in
    let k : ℕ = get_or slots i 0 in
    let so_far = c.loop-i.invariant in
    let e = c.in_ok-sections.ensures in
    let within : i < length slots = omega (arith, c.loop-i-test.true) in
    record {
      tapes = λ told. c.in_ok-push.ensures.ok ∙ scan_again P old mid slots i k (take_more slots i 0 within) told so_far.loads c.loop-i.tapes c.in_ok-sections.sections (so_far.tapes told) (e.sections told);
      count = omega (arith, so_far.count, ap length c.in_ok-push.ensures.ok, length-append c.loop-i.tapes (c.in_ok-sections.sections ∷ []));
      loads = loads_both P old mid new so_far.loads e.loads;
      stays = quiet_both P old mid new so_far.stays c.scan_slot.ensures.stays;
      faults = e.cause.stays (λ failed. cc) ∙ so_far.faults;
    }

pub returns-in_err-sections-clause-leaves : goal.returns-in_err-sections-clause-leaves
returns-in_err-sections-clause-leaves g c = leaves_after g.P.Plant c.args.plant.now c.loop-i.plant c.scan_slot.new.plant c.loop-i.invariant.loads c.scan_slot.ensures.leaves

pub returns-in_err-sections-clause-stopped : goal.returns-in_err-sections-clause-stopped
returns-in_err-sections-clause-stopped g c =
    let P = g.P.Plant in
    let mid = c.loop-i.plant in
    let new = c.scan_slot.new.plant in
    let e = err_from_is_err_and c.from_residual.result c.from_residual.ensures.1 in
    on_stop stops.Plant _ _ (λ other. loads_both P c.args.plant.now mid new c.loop-i.invariant.loads
    (handed stops.Plant _ c.from_residual.result (Loads P mid new) (e.1 ∙ ap Err e.2) c.in_err-sections.ensures.stopped other))

pub returns-in_err-push-clause-stopped : goal.returns-in_err-push-clause-stopped
returns-in_err-push-clause-stopped g c = on_stop stops.Plant _ _ (λ other. loads_both g.P.Plant c.args.plant.now c.loop-i.plant c.scan_slot.new.plant c.loop-i.invariant.loads c.in_ok-sections.ensures.loads)

pub returns-in_err-push-clause-leaves : goal.returns-in_err-push-clause-leaves
returns-in_err-push-clause-leaves g c = leaves_after g.P.Plant c.args.plant.now c.loop-i.plant c.scan_slot.new.plant c.loop-i.invariant.loads c.scan_slot.ensures.leaves

pub returns-clause-tapes : goal.returns-clause-tapes
returns-clause-tapes g c = λ told.
    let P = g.P.Plant in
    let i : ℕ = c.loop-i.i in
    c.loop-i.invariant.tapes told ∙ ap (scans_of (state_of P c.args.plant.now).tape) (take_all i c.args.slots.now (omega (arith, c.loop-i-test.false)))

pub returns-clause-leaves : goal.returns-clause-leaves
returns-clause-leaves g c = leaves_loads g.P.Plant c.args.plant.now c.loop-i.plant c.loop-i.invariant.loads
