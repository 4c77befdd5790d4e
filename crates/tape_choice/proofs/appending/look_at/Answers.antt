use Rattle.plant_effects.specs.Runs.{loaded_of}
use Rattle.tape_scan.proofs.Looking.{a_load_loads, a_load_leaves, reads_are_loads, reads_leave, loads_both, leaves_after}
use Rattle.tape_choice.proofs.Loadings.{read_loaded, whole_loaded, unless_both}
use Rattle.tape_choice.proofs.appending.look_at.Goals as goal

pub returns-in_err-load_tape-clause-leaves : goal.returns-in_err-load_tape-clause-leaves
returns-in_err-load_tape-clause-leaves g c = a_load_leaves g.P.Plant c.args.plant.now c.load_tape.new.plant c.args.slot c.load_tape.ensures.leaves

pub returns-clause-is : goal.returns-clause-is
returns-clause-is g c = λ told items whole read are.
    let P = g.P.Plant in
    let old = c.args.plant.now in
    let mid = c.load_tape.new.plant in
    let e = c.in_ok-load_tape.ensures in
    let loads = a_load_loads P old mid c.args.slot e.done c.load_tape.ensures.leaves e.log_size in
    c.stands_on.ensures.is told c.args.slot items whole e.loaded (read_loaded P old mid c.args.slot items told loads read) (whole_loaded P old mid c.args.slot whole told loads are)

pub returns-clause-loads : goal.returns-clause-loads
returns-clause-loads g c =
    let P = g.P.Plant in
    let old = c.args.plant.now in
    let mid = c.load_tape.new.plant in
    let new = c.stands_on.new.plant in
    let e = c.in_ok-load_tape.ensures in
    let loads = a_load_loads P old mid c.args.slot e.done c.load_tape.ensures.leaves e.log_size in
    unless_both c.stands_on.result (λ done numbers. loads_both P old mid new loads (reads_are_loads P mid new done c.stands_on.ensures.leaves numbers)) c.stands_on.ensures.done c.stands_on.ensures.numbers

pub returns-clause-leaves : goal.returns-clause-leaves
returns-clause-leaves g c =
    let P = g.P.Plant in
    let old = c.args.plant.now in
    let mid = c.load_tape.new.plant in
    let new = c.stands_on.new.plant in
    let e = c.in_ok-load_tape.ensures in
    let loads = a_load_loads P old mid c.args.slot e.done c.load_tape.ensures.leaves e.log_size in
    leaves_after P old mid new loads (reads_leave P mid new c.stands_on.ensures.leaves)
