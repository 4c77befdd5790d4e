use Rattle.std.proofs.Common.{◌∙◌, ap, subst, ◌≢◌}
use Rattle.std.specs.Prelude.{IfOk, Err, OnErr}
use Rattle.plant_effects.specs.Runs.{Leaves}
use Rattle.plant_effects.proofs.Joining.{nothing_left}
use Rattle.dump_job.specs.declared.order.DumpOrder.{DumpOrder}
use Rattle.dump_courses.specs.declared.stop.DumpStop.TheVariants as stop
use Rattle.dump_courses.proofs.Stopping.{on_stop, left_standing}
use Rattle.dump_courses.specs.Ahead.{LeftAhead}
use Rattle.dump_commands.specs.Answers.{Answer, dump_answer, IsAnswered}
use Rattle.dump_commands.proofs.Making.{dump_ordered, scene_read}
use Rattle.dump_commands.proofs.commands.dump_to.Goals as goal

pub returns-clause-answered : goal.returns-clause-answered
returns-clause-answered g c = λ told told_cell s finds.
    subst (λ (a : Answer). IfOk c.carry_out.result (IsAnswered g.P.Plant s a c.carry_out.new.budb c.args.plant.now c.carry_out.new.plant))
    (dump_ordered g.P.Plant g.C.Cell s c.args.config.now c.args.command.now c.args.time c.args.budb.now c.args.plant.now c.args.cell.now c.as_slice-listed.result.now c.args.port c.in_ok-order.order finds c.requires.port
    (c.as_slice-listed.ensures ∙ c.in_ok-entries.ensures.entries told_cell) c.in_ok-order.ensures.is)
    (c.carry_out.ensures.answered told told_cell s (scene_read g.P.Plant g.C.Cell s c.args.budb.now c.args.plant.now c.args.cell.now c.entries_of.new.cell finds.scene (c.entries_of.ensures.list told_cell)) (ap (λ (o : DumpOrder). o.time) c.in_ok-order.ensures.is ∙ finds.time))

pub returns-clause-leaves : goal.returns-clause-leaves
returns-clause-leaves g c = λ told told_cell s finds.
    subst (λ (a : Answer). Leaves g.P.Plant a.effects c.args.plant.now c.carry_out.new.plant)
    (dump_ordered g.P.Plant g.C.Cell s c.args.config.now c.args.command.now c.args.time c.args.budb.now c.args.plant.now c.args.cell.now c.as_slice-listed.result.now c.args.port c.in_ok-order.order finds c.requires.port
    (c.as_slice-listed.ensures ∙ c.in_ok-entries.ensures.entries told_cell) c.in_ok-order.ensures.is)
    (c.carry_out.ensures.leaves told told_cell s (scene_read g.P.Plant g.C.Cell s c.args.budb.now c.args.plant.now c.args.cell.now c.entries_of.new.cell finds.scene (c.entries_of.ensures.list told_cell)))

pub returns-in_err-entries-clause-leaves : goal.returns-in_err-entries-clause-leaves
returns-in_err-entries-clause-leaves g c = λ told told_cell s finds.
    nothing_left g.P.Plant (dump_answer s c.args.command.now).effects c.args.plant.now (λ tells survives image left. g.met.P.Plant.left c.args.plant.now image tells c.requires.sound survives left)

pub returns-in_err-order-clause-leaves : goal.returns-in_err-order-clause-leaves
returns-in_err-order-clause-leaves g c = λ told told_cell s finds.
    nothing_left g.P.Plant (dump_answer s c.args.command.now).effects c.args.plant.now (λ tells survives image left. g.met.P.Plant.left c.args.plant.now image tells c.requires.sound survives left)

pub returns-clause-stopped : goal.returns-clause-stopped
returns-clause-stopped g c = λ told told_cell s finds.
    subst (λ (a : Answer). OnErr c.carry_out.result (c.carry_out.result ≢ Err stop.Plant → LeftAhead g.P.Plant a.effects c.args.plant.now c.carry_out.new.plant))
    (dump_ordered g.P.Plant g.C.Cell s c.args.config.now c.args.command.now c.args.time c.args.budb.now c.args.plant.now c.args.cell.now c.as_slice-listed.result.now c.args.port c.in_ok-order.order finds c.requires.port
    (c.as_slice-listed.ensures ∙ c.in_ok-entries.ensures.entries told_cell) c.in_ok-order.ensures.is)
    (c.carry_out.ensures.stopped told told_cell s (scene_read g.P.Plant g.C.Cell s c.args.budb.now c.args.plant.now c.args.cell.now c.entries_of.new.cell finds.scene (c.entries_of.ensures.list told_cell)))

pub returns-in_err-entries-clause-stopped : goal.returns-in_err-entries-clause-stopped
returns-in_err-entries-clause-stopped g c = λ told told_cell s finds.
    on_stop stop.Plant c.from_residual.result _ (λ other. left_standing g.P.Plant (dump_answer s c.args.command.now).effects c.args.plant.now s.state c.requires.sound (λ _. finds.scene.state))

pub returns-in_err-order-clause-stopped : goal.returns-in_err-order-clause-stopped
returns-in_err-order-clause-stopped g c = λ told told_cell s finds.
    on_stop stop.Plant c.from_residual-in_err-order.result _ (λ other. left_standing g.P.Plant (dump_answer s c.args.command.now).effects c.args.plant.now s.state c.requires.sound (λ _. finds.scene.state))
