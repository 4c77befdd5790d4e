use Rattle.std.proofs.Common.{◌≡◌, refl, sym, ap, subst, ◌≢◌}
use Rattle.std.specs.Prelude.{ℕ, List, Some, Result, IfOk, Err, OnErr}
use Rattle.plant_effects.specs.Runs.{Leaves}
use Rattle.plant_effects.proofs.Joining.{nothing_left}
use Rattle.tape_config.specs.declared.port.PortFields.{PortFields}
use Rattle.tape_config.specs.Configs.{port_in}
use Rattle.dump_job.specs.declared.order.DumpOrder.{DumpOrder}
use Rattle.dump_courses.specs.declared.stop.DumpStop.TheVariants as stop
use Rattle.dump_courses.specs.Ahead.{LeftAhead}
use Rattle.dump_courses.proofs.Stopping.{on_stop, left_standing}
use Rattle.dump_commands.specs.Starts.{Start, dump_start, start_effects, Starts}
use Rattle.dump_commands.proofs.OrderForms.{asked}
use Rattle.dump_commands.proofs.Starting.{port_ordered, started_port}
use Rattle.dump_commands.proofs.starts.start_to.Goals as goal

pub returns-clause-started : goal.returns-clause-started
returns-clause-started g c = λ told told_cell s finds.
    subst (λ (due : Result Start (List ℕ)). IfOk c.start_or_refuse.result (Starts g.P.Plant g.C.Cell s due c.args.budb.now c.start_or_refuse.new.budb c.args.plant.now c.start_or_refuse.new.plant c.args.cell.now))
    (port_ordered g.P.Plant g.C.Cell s c.args.config.now c.args.command.now c.args.time c.args.budb.now c.args.plant.now c.args.cell.now c.args.entries.now c.args.port c.in_ok-order.order finds c.requires.port (c.requires.entries told_cell) c.in_ok-order.ensures.is)
    (c.start_or_refuse.ensures.started told told_cell s finds.scene)

pub returns-clause-leaves : goal.returns-clause-leaves
returns-clause-leaves g c = λ told told_cell s finds.
    subst (λ (due : Result Start (List ℕ)). Leaves g.P.Plant (start_effects s due) c.args.plant.now c.start_or_refuse.new.plant)
    (port_ordered g.P.Plant g.C.Cell s c.args.config.now c.args.command.now c.args.time c.args.budb.now c.args.plant.now c.args.cell.now c.args.entries.now c.args.port c.in_ok-order.order finds c.requires.port (c.requires.entries told_cell) c.in_ok-order.ensures.is)
    (c.start_or_refuse.ensures.leaves told told_cell s finds.scene)

pub returns-clause-stopped : goal.returns-clause-stopped
returns-clause-stopped g c = λ told told_cell s finds.
    subst (λ (due : Result Start (List ℕ)). OnErr c.start_or_refuse.result (c.start_or_refuse.result ≢ Err stop.Plant → LeftAhead g.P.Plant (start_effects s due) c.args.plant.now c.start_or_refuse.new.plant))
    (port_ordered g.P.Plant g.C.Cell s c.args.config.now c.args.command.now c.args.time c.args.budb.now c.args.plant.now c.args.cell.now c.args.entries.now c.args.port c.in_ok-order.order finds c.requires.port (c.requires.entries told_cell) c.in_ok-order.ensures.is)
    (c.start_or_refuse.ensures.stopped told told_cell s finds.scene)

pub returns-clause-port : goal.returns-clause-port
returns-clause-port g c =
    started_port c.start_or_refuse.result c.in_ok-order.order.port (λ port. port_in c.args.command.now.offset c.args.config.now.entries ≡ Some port)
    (subst (λ (p : PortFields). port_in c.args.command.now.offset c.args.config.now.entries ≡ Some p) (sym (ap (λ (o : DumpOrder). o.port) c.in_ok-order.ensures.is)) (asked c.args.config.now c.args.budb.now.database c.args.command.now c.args.port c.requires.port))
    c.start_or_refuse.ensures.port

pub returns-in_err-order-clause-leaves : goal.returns-in_err-order-clause-leaves
returns-in_err-order-clause-leaves g c = λ told told_cell s finds.
    nothing_left g.P.Plant (start_effects s (dump_start s c.args.command.now)) c.args.plant.now (λ tells survives image left. g.met.P.Plant.left c.args.plant.now image tells c.requires.sound survives left)

pub returns-in_err-order-clause-stopped : goal.returns-in_err-order-clause-stopped
returns-in_err-order-clause-stopped g c = λ told told_cell s finds.
    on_stop stop.Plant c.from_residual.result _ (λ other. left_standing g.P.Plant (start_effects s (dump_start s c.args.command.now)) c.args.plant.now s.state c.requires.sound (λ _. finds.scene.state))

pub returns-in_err-order-clause-elsewhere : goal.returns-in_err-order-clause-elsewhere
returns-in_err-order-clause-elsewhere g c = λ told other q. refl
