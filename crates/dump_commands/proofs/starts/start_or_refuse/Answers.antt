use Rattle.std.proofs.Common.{sym, ◌∙◌, subst, ap}
use Rattle.std.specs.Prelude.{◌<◌, ℕ, All, Err}
use Rattle.tape_scan.specs.Looking.{Loads}
use Rattle.dump_courses.specs.declared.stop.DumpStop.TheVariants as stop
use Rattle.dump_courses.proofs.Ways.{SlotLaws}
use Rattle.dump_courses.proofs.Stopping.{on_stop, handed, left_loads}
use Rattle.std.proofs.lemmas.Result.{err_from_is_err_and}
use Rattle.dump_commands.specs.Starts.{order_start, start_effects}
use Rattle.dump_commands.proofs.Checks.{good_places}
use Rattle.dump_commands.proofs.Passing.{passes}
use Rattle.dump_commands.proofs.Making.{search_told}
use Rattle.dump_commands.proofs.Starting.{search_starts, refused_starts, passed_starts, passed_start_left, passed_start_stopped, loads_tapes, tapes_both}
use Rattle.dump_commands.proofs.starts.start_or_refuse.Goals as goal

pub start_new-requires-clause-some : goal.start_new-requires-clause-some
start_new-requires-clause-some g c = (passes c.args.entries.now c.args.order c.in_ok-fault.fault (sym c.in_ok-text.ensures ∙ c.in-None.is)).some

pub start_new-requires-clause-places : goal.start_new-requires-clause-places
start_new-requires-clause-places g c = record {
  within = subst (λ (n : ℕ). All (λ (place : ℕ). place < n) c.args.order.volumes) c.requires.count c.requires.within;
  good = λ told. good_places (g.C.Cell.list c.args.cell.now) c.args.entries.now c.args.order.volumes (c.requires.entries told) c.requires.within (passes c.args.entries.now c.args.order c.in_ok-fault.fault (sym c.in_ok-text.ensures ∙ c.in-None.is)).good;
}

pub returns-in-Some-clause-started : goal.returns-in-Some-clause-started
returns-in-Some-clause-started g c = λ told told_cell s is.
    let P = g.P.Plant in
    let C = g.C.Cell in
    let laws : SlotLaws = record { count = c.the_slots_are_read.ensures.count; here = c.the_slots_are_read.ensures.here; items = c.the_slots_are_read.ensures.items } in
    let found = search_told P C s c.args.order c.args.budb.now c.args.plant.now c.args.cell.now told is laws (g.met.P.Plant.log_told c.args.plant.now told c.requires.sound) c.in_ok-fault.fault (c.in_ok-fault.ensures.told told) in
    refused_starts P C s c.args.order c.args.budb.now c.args.plant.now c.args.cell.now told is c.args.entries.now c.in_ok-fault.fault c.checked.new.plant (c.requires.entries told_cell) found
    c.in-Some.text (sym c.in_ok-text.ensures ∙ c.in-Some.is) c.in_ok-fault.ensures.loads

pub returns-in-Some-clause-leaves : goal.returns-in-Some-clause-leaves
returns-in-Some-clause-leaves g c = λ told told_cell s is.
    search_starts g.P.Plant g.C.Cell s c.args.order c.args.budb.now c.args.plant.now c.args.cell.now told is c.checked.new.plant (order_start s c.args.order) c.checked.ensures.leaves

pub returns-in-Some-clause-elsewhere : goal.returns-in-Some-clause-elsewhere
returns-in-Some-clause-elsewhere g c = λ told other. loads_tapes g.P.Plant told c.args.plant.now c.checked.new.plant c.in_ok-fault.ensures.loads

pub returns-in-None-clause-started : goal.returns-in-None-clause-started
returns-in-None-clause-started g c = λ told told_cell s is.
    let P = g.P.Plant in
    let C = g.C.Cell in
    let laws : SlotLaws = record { count = c.the_slots_are_read.ensures.count; here = c.the_slots_are_read.ensures.here; items = c.the_slots_are_read.ensures.items } in
    let found = search_told P C s c.args.order c.args.budb.now c.args.plant.now c.args.cell.now told is laws (g.met.P.Plant.log_told c.args.plant.now told c.requires.sound) c.in_ok-fault.fault (c.in_ok-fault.ensures.told told) in
    passed_starts P C s c.args.order c.args.budb.now c.args.plant.now c.args.cell.now told is c.args.entries.now c.in_ok-fault.fault c.checked.new.plant (c.requires.entries told_cell) found
    c.start_new.result (sym c.in_ok-text.ensures ∙ c.in-None.is) c.in_ok-fault.ensures.loads c.checked.ensures.stays c.start_new.new.budb c.start_new.new.plant
    (λ t there tape. c.start_new.ensures.started told told_cell s t there tape)

pub returns-in-None-clause-leaves : goal.returns-in-None-clause-leaves
returns-in-None-clause-leaves g c = λ told told_cell s is.
    let P = g.P.Plant in
    let C = g.C.Cell in
    let laws : SlotLaws = record { count = c.the_slots_are_read.ensures.count; here = c.the_slots_are_read.ensures.here; items = c.the_slots_are_read.ensures.items } in
    let found = search_told P C s c.args.order c.args.budb.now c.args.plant.now c.args.cell.now told is laws (g.met.P.Plant.log_told c.args.plant.now told c.requires.sound) c.in_ok-fault.fault (c.in_ok-fault.ensures.told told) in
    passed_start_left P C s c.args.order c.args.budb.now c.args.plant.now c.args.cell.now told is c.args.entries.now c.in_ok-fault.fault c.checked.new.plant (c.requires.entries told_cell) found
    (sym c.in_ok-text.ensures ∙ c.in-None.is) c.in_ok-fault.ensures.loads c.checked.ensures.leaves c.checked.ensures.stays c.start_new.new.plant
    (λ t there tape. c.start_new.ensures.leaves told told_cell s t there tape)

pub returns-in-None-clause-stopped : goal.returns-in-None-clause-stopped
returns-in-None-clause-stopped g c = λ told told_cell s is.
    let P = g.P.Plant in
    let C = g.C.Cell in
    let laws : SlotLaws = record { count = c.the_slots_are_read.ensures.count; here = c.the_slots_are_read.ensures.here; items = c.the_slots_are_read.ensures.items } in
    let found = search_told P C s c.args.order c.args.budb.now c.args.plant.now c.args.cell.now told is laws (g.met.P.Plant.log_told c.args.plant.now told c.requires.sound) c.in_ok-fault.fault (c.in_ok-fault.ensures.told told) in
    passed_start_stopped P C s c.args.order c.args.budb.now c.args.plant.now c.args.cell.now told is c.args.entries.now c.in_ok-fault.fault c.checked.new.plant (c.requires.entries told_cell) found
    c.start_new.result (sym c.in_ok-text.ensures ∙ c.in-None.is) c.in_ok-fault.ensures.loads c.checked.ensures.stays c.start_new.new.plant
    (λ t there tape. c.start_new.ensures.stopped told told_cell s t there tape)

pub returns-in-None-clause-elsewhere : goal.returns-in-None-clause-elsewhere
returns-in-None-clause-elsewhere g c = λ told other.
    tapes_both g.P.Plant c.args.plant.now c.checked.new.plant c.start_new.new.plant (loads_tapes g.P.Plant told c.args.plant.now c.checked.new.plant c.in_ok-fault.ensures.loads) (c.start_new.ensures.elsewhere told other)

pub returns-in_err-fault-clause-leaves : goal.returns-in_err-fault-clause-leaves
returns-in_err-fault-clause-leaves g c = λ told told_cell s is.
    search_starts g.P.Plant g.C.Cell s c.args.order c.args.budb.now c.args.plant.now c.args.cell.now told is c.checked.new.plant (order_start s c.args.order) c.checked.ensures.leaves

pub returns-in_err-text-clause-leaves : goal.returns-in_err-text-clause-leaves
returns-in_err-text-clause-leaves g c = λ told told_cell s is.
    search_starts g.P.Plant g.C.Cell s c.args.order c.args.budb.now c.args.plant.now c.args.cell.now told is c.checked.new.plant (order_start s c.args.order) c.checked.ensures.leaves

pub returns-in_err-fault-clause-unfailed : goal.returns-in_err-fault-clause-unfailed
returns-in_err-fault-clause-unfailed g c = λ other.
    let e = err_from_is_err_and c.from_residual.result c.from_residual.ensures.1 in
    (handed stop.Plant _ c.from_residual.result (Loads g.P.Plant c.args.plant.now c.checked.new.plant) (e.1 ∙ ap Err e.2) c.in_err-fault.ensures.stopped other).done.sound

pub returns-in_err-fault-clause-elsewhere : goal.returns-in_err-fault-clause-elsewhere
returns-in_err-fault-clause-elsewhere g c = λ told other.
    let e = err_from_is_err_and c.from_residual.result c.from_residual.ensures.1 in
    loads_tapes g.P.Plant told c.args.plant.now c.checked.new.plant
    (handed stop.Plant _ c.from_residual.result (Loads g.P.Plant c.args.plant.now c.checked.new.plant) (e.1 ∙ ap Err e.2) c.in_err-fault.ensures.stopped other)

pub returns-in_err-fault-clause-stopped : goal.returns-in_err-fault-clause-stopped
returns-in_err-fault-clause-stopped g c = λ told told_cell s is.
    let e = err_from_is_err_and c.from_residual.result c.from_residual.ensures.1 in
    on_stop stop.Plant c.from_residual.result _ (λ other. left_loads g.P.Plant (start_effects s (order_start s c.args.order)) c.args.plant.now c.checked.new.plant s.state (λ _. is.state)
    (handed stop.Plant _ c.from_residual.result (Loads g.P.Plant c.args.plant.now c.checked.new.plant) (e.1 ∙ ap Err e.2) c.in_err-fault.ensures.stopped other))

pub returns-in_err-text-clause-unfailed : goal.returns-in_err-text-clause-unfailed
returns-in_err-text-clause-unfailed g c = λ other. c.in_ok-fault.ensures.loads.done.sound

pub returns-in_err-text-clause-elsewhere : goal.returns-in_err-text-clause-elsewhere
returns-in_err-text-clause-elsewhere g c = λ told other. loads_tapes g.P.Plant told c.args.plant.now c.checked.new.plant c.in_ok-fault.ensures.loads

pub returns-in_err-text-clause-stopped : goal.returns-in_err-text-clause-stopped
returns-in_err-text-clause-stopped g c = λ told told_cell s is.
    on_stop stop.Plant c.from_residual-in_err-text.result _ (λ other. left_loads g.P.Plant (start_effects s (order_start s c.args.order)) c.args.plant.now c.checked.new.plant s.state (λ _. is.state) c.in_ok-fault.ensures.loads)
