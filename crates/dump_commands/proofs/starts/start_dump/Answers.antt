use Rattle.std.proofs.Common.{refl, sym, ◌∙◌, ap}
use Rattle.plant_effects.proofs.Joining.{nothing_left}
use Rattle.budb_fold.specs.declared.database.Database.{Database}
use Rattle.dump_courses.specs.declared.stop.DumpStop.TheVariants as stop
use Rattle.dump_courses.proofs.Stopping.{on_stop, left_standing}
use Rattle.dump_commands.specs.Orders.{asked_port}
use Rattle.dump_commands.specs.Starts.{dump_start, start_effects}
use Rattle.dump_commands.proofs.Starting.{port_refused}
use Rattle.dump_commands.proofs.starts.start_dump.Goals as goal

pub start_to-requires-clause-port : goal.start_to-requires-clause-port
start_to-requires-clause-port g c = (ap (λ (d : Database). asked_port c.args.config.now d c.args.command.now) (sym c.database.ensures) ∙ sym c.in_ok-port.ensures ∙ c.in-Ok.is)

pub returns-in-Err-clause-started : goal.returns-in-Err-clause-started
returns-in-Err-clause-started g c = λ told told_cell s finds.
    port_refused g.P.Plant g.C.Cell s c.args.config.now c.args.command.now c.args.time c.args.budb.now c.args.plant.now c.args.cell.now c.in-Err.text c.requires.sound finds
    (ap (λ (d : Database). asked_port c.args.config.now d c.args.command.now) (sym c.database.ensures) ∙ sym c.in_ok-port.ensures ∙ c.in-Err.is)

pub returns-in-Err-clause-leaves : goal.returns-in-Err-clause-leaves
returns-in-Err-clause-leaves g c = λ told told_cell s finds.
    nothing_left g.P.Plant (start_effects s (dump_start s c.args.command.now)) c.args.plant.now (λ tells survives image left. g.met.P.Plant.left c.args.plant.now image tells c.requires.sound survives left)

pub returns-in-Err-clause-elsewhere : goal.returns-in-Err-clause-elsewhere
returns-in-Err-clause-elsewhere g c = λ told other q. refl

pub returns-in_err-port-clause-leaves : goal.returns-in_err-port-clause-leaves
returns-in_err-port-clause-leaves g c = λ told told_cell s finds.
    nothing_left g.P.Plant (start_effects s (dump_start s c.args.command.now)) c.args.plant.now (λ tells survives image left. g.met.P.Plant.left c.args.plant.now image tells c.requires.sound survives left)

pub returns-in_err-port-clause-stopped : goal.returns-in_err-port-clause-stopped
returns-in_err-port-clause-stopped g c = λ told told_cell s finds.
    on_stop stop.Plant c.from_residual.result _ (λ other. left_standing g.P.Plant (start_effects s (dump_start s c.args.command.now)) c.args.plant.now s.state c.requires.sound (λ _. finds.scene.state))

pub returns-in_err-port-clause-elsewhere : goal.returns-in_err-port-clause-elsewhere
returns-in_err-port-clause-elsewhere g c = λ told other q. refl
