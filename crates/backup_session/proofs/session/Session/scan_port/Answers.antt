use Rattle.std.proofs.Common.{sym, ◌∙◌, ap}
use Rattle.std.specs.Prelude.{Ok, Err}
use Rattle.std.proofs.lemmas.Result.{err_from_is_err_and}
use Rattle.std.specs.List.{flat_map}
use Rattle.plant_effects.specs.Runs.{state_of}
use Rattle.plant_effects.proofs.Joining.{nothing_left}
use Rattle.tape_scan.specs.Looking.{Loads}
use Rattle.dump_courses.specs.Ahead.{LeftAhead}
use Rattle.dump_courses.proofs.Stopping.{on_stop, handed, stopped_map, left_standing, left_loads}
use Rattle.backup_session.specs.declared.stops.Stop.TheVariants as stops
use Rattle.backup_session.specs.Scanning.{scan_turn, dumps_turn, stopped_line}
use Rattle.backup_session.proofs.Carrying.{in_ok}
use Rattle.backup_session.proofs.ScanLaws.{loads_fit, loads_leave, dumps_leave, dumps_stopped, scan_turned}
use Rattle.backup_session.proofs.session.Session.scan_port.Goals as goal

pub returns-in_err-slots-clause-leaves : goal.returns-in_err-slots-clause-leaves
returns-in_err-slots-clause-leaves g c = λ told w fits.
    let old = c.args.plant.now in
    nothing_left g.P.Plant (scan_turn w c.args.dbadd (Ok c.args.port.now)).effects old (λ told survives image left. g.met.P.Plant.left old image told c.requires survives left)

pub returns-in_err-tapes-clause-leaves : goal.returns-in_err-tapes-clause-leaves
returns-in_err-tapes-clause-leaves g c = λ told w fits.
    let P = g.P.Plant in
    let old = c.args.plant.now in
    let mid = c.scan_slots-scanned.new.plant in
    let slots = c.as_slice.result.now in
    let slots_are = c.as_slice.ensures ∙ c.in_ok-slots.ensures.slots in
    loads_leave P w old c.args.self.now fits c.args.dbadd c.args.port.now slots slots_are mid c.scan_slots-scanned.ensures.leaves

pub returns-in-Err-clause-leaves : goal.returns-in-Err-clause-leaves
returns-in-Err-clause-leaves g c = λ told w fits.
    let P = g.P.Plant in
    let old = c.args.plant.now in
    let mid = c.scan_slots-scanned.new.plant in
    let slots = c.as_slice.result.now in
    let slots_are = c.as_slice.ensures ∙ c.in_ok-slots.ensures.slots in
    loads_leave P w old c.args.self.now fits c.args.dbadd c.args.port.now slots slots_are mid c.scan_slots-scanned.ensures.leaves

pub returns-in-Ok-clause-leaves : goal.returns-in-Ok-clause-leaves
returns-in-Ok-clause-leaves g c = λ told w fits.
    let P = g.P.Plant in
    let old = c.args.plant.now in
    let mid = c.scan_slots-scanned.new.plant in
    let slots = c.as_slice.result.now in
    let slots_are = c.as_slice.ensures ∙ c.in_ok-slots.ensures.slots in
    let e = c.in_ok-tapes.ensures in
    let tapes = c.as_slice-2.result.now in
    let tapes_are = c.as_slice-2.ensures ∙ e.tapes told in
    let found = c.in-Ok.found in
    let found_is = c.in-Ok.ensures (state_of P old).tape slots tapes_are in
    let here = loads_fit P w old mid c.args.self.now told fits e.loads c.scan_slots-scanned.ensures.stays.stays in
    let n = c.tell_found-told.new in
    dumps_leave P w old c.args.self.now fits c.args.dbadd c.args.port.now slots slots_are told tapes tapes_are found found_is mid e.loads n.plant (c.tell_found-told.ensures.leaves told w here)

pub returns-in-Ok-clause-turned : goal.returns-in-Ok-clause-turned
returns-in-Ok-clause-turned g c = λ told w fits.
    let P = g.P.Plant in
    let old = c.args.plant.now in
    let mid = c.scan_slots-scanned.new.plant in
    let slots = c.as_slice.result.now in
    let slots_are = c.as_slice.ensures ∙ c.in_ok-slots.ensures.slots in
    let e = c.in_ok-tapes.ensures in
    let tapes = c.as_slice-2.result.now in
    let tapes_are = c.as_slice-2.ensures ∙ e.tapes told in
    let found = c.in-Ok.found in
    let found_is = c.in-Ok.ensures (state_of P old).tape slots tapes_are in
    let here = loads_fit P w old mid c.args.self.now told fits e.loads c.scan_slots-scanned.ensures.stays.stays in
    let n = c.tell_found-told.new in
    let again = c.as_slice-in-Ok.result.now in
    in_ok c.tell_found-told.result _ _
    (λ reply s. scan_turned P w old c.args.self.now fits c.args.dbadd c.args.port.now slots slots_are told tapes tapes_are found found_is mid e.loads n.plant n.self reply (flat_map stopped_line again) s.0 (ap (flat_map stopped_line) (c.as_slice-in-Ok.ensures ∙ sym c.as_slice-2.ensures)) s.1 s.2)
    (c.tell_found-told.ensures.stepped told w here)

-- at a stop that isn't the plant's

pub returns-in_err-slots-clause-stopped : goal.returns-in_err-slots-clause-stopped
returns-in_err-slots-clause-stopped g c = λ told w fits. on_stop stops.Plant _ _ (λ other. left_standing g.P.Plant _ c.args.plant.now w.state c.requires (λ _. fits.state))

pub returns-in_err-tapes-clause-unfailed : goal.returns-in_err-tapes-clause-unfailed
returns-in_err-tapes-clause-unfailed g c = λ other.
    let r = err_from_is_err_and c.from_residual-in_err-tapes.result c.from_residual-in_err-tapes.ensures.1 in
    (handed stops.Plant _ c.from_residual-in_err-tapes.result (Loads g.P.Plant c.args.plant.now c.scan_slots-scanned.new.plant) (r.1 ∙ ap Err r.2) c.in_err-tapes.ensures.stopped other).done.sound

pub returns-in_err-tapes-clause-stopped : goal.returns-in_err-tapes-clause-stopped
returns-in_err-tapes-clause-stopped g c = λ told w fits.
    let P = g.P.Plant in
    let old = c.args.plant.now in
    let mid = c.scan_slots-scanned.new.plant in
    let r = err_from_is_err_and c.from_residual-in_err-tapes.result c.from_residual-in_err-tapes.ensures.1 in
    on_stop stops.Plant _ _ (λ other. left_loads P _ old mid w.state (λ _. fits.state)
    (handed stops.Plant _ c.from_residual-in_err-tapes.result (Loads P old mid) (r.1 ∙ ap Err r.2) c.in_err-tapes.ensures.stopped other))

pub returns-in-Err-clause-stopped : goal.returns-in-Err-clause-stopped
returns-in-Err-clause-stopped g c = λ told w fits other. left_loads g.P.Plant (scan_turn w c.args.dbadd (Ok c.args.port.now)).effects c.args.plant.now c.scan_slots-scanned.new.plant w.state (λ _. fits.state) c.in_ok-tapes.ensures.loads

pub returns-in-Ok-clause-stopped : goal.returns-in-Ok-clause-stopped
returns-in-Ok-clause-stopped g c = λ told w fits.
    let P = g.P.Plant in
    let old = c.args.plant.now in
    let mid = c.scan_slots-scanned.new.plant in
    let slots = c.as_slice.result.now in
    let slots_are = c.as_slice.ensures ∙ c.in_ok-slots.ensures.slots in
    let e = c.in_ok-tapes.ensures in
    let tapes = c.as_slice-2.result.now in
    let tapes_are = c.as_slice-2.ensures ∙ e.tapes told in
    let found = c.in-Ok.found in
    let found_is = c.in-Ok.ensures (state_of P old).tape slots tapes_are in
    let here = loads_fit P w old mid c.args.self.now told fits e.loads c.scan_slots-scanned.ensures.stays.stays in
    let n = c.tell_found-told.new in
    stopped_map stops.Plant c.tell_found-told.result (LeftAhead P (dumps_turn w c.args.dbadd found.whole).effects mid n.plant) (LeftAhead P (scan_turn w c.args.dbadd (Ok c.args.port.now)).effects old n.plant)
    (dumps_stopped P w old c.args.self.now fits c.args.dbadd c.args.port.now slots slots_are told tapes tapes_are found found_is mid e.loads n.plant) (c.tell_found-told.ensures.stopped told w here)
