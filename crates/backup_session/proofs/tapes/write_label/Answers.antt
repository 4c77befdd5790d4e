use Rattle.std.proofs.Common.{[]}
use Rattle.plant_effects.specs.Runs.{state_of}
use Rattle.plant_effects.proofs.Joining.{leaves_more}
use Rattle.tape_scan.proofs.Looking.{a_load_loads, a_load_leaves, leaves_loads}
use Rattle.dump_courses.specs.Ahead.{IsAhead}
use Rattle.dump_courses.proofs.Ahead.{ahead_within, loads_ahead, loads_leave, leaves_ahead}
use Rattle.backup_session.specs.Tapes.{putting_label}
use Rattle.backup_session.proofs.tapes.write_label.Goals as goal

pub returns-in_err-load_tape-clause-leaves : goal.returns-in_err-load_tape-clause-leaves
returns-in_err-load_tape-clause-leaves g c =
    let P = g.P.Plant in
    let old = c.args.plant.now in
    let mid = c.load_tape.new.plant in
    leaves_more P [] (putting_label c.args.slot c.args.label.now) old mid
    (loads_leave P old mid (state_of P old) (λ told. ahead_within (state_of P old) (g.met.P.Plant.within old told c.requires.sound)) (a_load_leaves P old mid c.args.slot c.load_tape.ensures.leaves))

pub returns-clause-leaves : goal.returns-clause-leaves
returns-clause-leaves g c =
    let P = g.P.Plant in
    let old = c.args.plant.now in
    let mid = c.load_tape.new.plant in
    let e = c.in_ok-load_tape.ensures in
    let loads = a_load_loads P old mid c.args.slot e.done c.load_tape.ensures.leaves e.log_size in
    let here : (P.tells → IsAhead (state_of P old) (state_of P old)) = λ told. ahead_within (state_of P old) (g.met.P.Plant.within old told c.requires.sound) in
    leaves_ahead P [] (putting_label c.args.slot c.args.label.now) [] old mid c.cut_and_put.new.plant (loads_ahead P old mid (state_of P old) here loads)
    (loads_leave P old mid (state_of P old) here (leaves_loads P old mid loads)) (c.cut_and_put.ensures.leaves c.args.slot e.loaded)
