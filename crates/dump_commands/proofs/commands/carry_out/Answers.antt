use Rattle.std.proofs.Common.{sym, ◌∙◌, ap, subst, ◌≢◌}
use Rattle.std.specs.Prelude.{IfOk, Err, OnErr}
use Rattle.plant_effects.specs.Runs.{Leaves}
use Rattle.plant_effects.proofs.Joining.{nothing_left}
use Rattle.budb_fold.specs.declared.database.Database.{Database}
use Rattle.dump_courses.specs.declared.stop.DumpStop.TheVariants as stop
use Rattle.dump_courses.proofs.Stopping.{on_stop, left_standing}
use Rattle.dump_courses.specs.Ahead.{LeftAhead}
use Rattle.dump_commands.specs.Answers.{Answer, order_answer, IsAnswered}
use Rattle.dump_commands.proofs.Making.{order_real, trial_told}
use Rattle.dump_commands.proofs.commands.carry_out.Goals as goal

pub returns-then-command-clause-answered : goal.returns-then-command-clause-answered
returns-then-command-clause-answered g c = λ told told_cell s is time.
    trial_told g.P.Plant g.C.Cell s c.args.command.now c.args.order c.args.budb.now c.args.plant.now c.args.cell.now c.try_out.result c.if-command.true c.requires.sound told is
    (c.try_out.ensures.told told_cell s is.cell (c.as_slice-listed.ensures ∙ ap (λ (d : Database). d.listed) (c.database.ensures ∙ is.keeps.fold)) time)

pub returns-then-command-clause-leaves : goal.returns-then-command-clause-leaves
returns-then-command-clause-leaves g c = λ told told_cell s is.
    nothing_left g.P.Plant (order_answer s c.args.command.now c.args.order).effects c.args.plant.now (λ tells survives image left. g.met.P.Plant.left c.args.plant.now image tells c.requires.sound survives left)

pub returns-else-command-clause-answered : goal.returns-else-command-clause-answered
returns-else-command-clause-answered g c = λ told told_cell s is time.
    subst (λ (a : Answer). IfOk c.make_or_refuse.result (IsAnswered g.P.Plant s a c.make_or_refuse.new.budb c.args.plant.now c.make_or_refuse.new.plant))
    (sym (order_real s c.args.command.now c.args.order c.if-command.false)) (c.make_or_refuse.ensures.answered told told_cell s is time)

pub returns-else-command-clause-leaves : goal.returns-else-command-clause-leaves
returns-else-command-clause-leaves g c = λ told told_cell s is.
    subst (λ (a : Answer). Leaves g.P.Plant a.effects c.args.plant.now c.make_or_refuse.new.plant)
    (sym (order_real s c.args.command.now c.args.order c.if-command.false)) (c.make_or_refuse.ensures.leaves told told_cell s is)

pub returns-then-command-clause-stopped : goal.returns-then-command-clause-stopped
returns-then-command-clause-stopped g c = λ told told_cell s is.
    on_stop stop.Plant c.try_out.result _ (λ other. left_standing g.P.Plant (order_answer s c.args.command.now c.args.order).effects c.args.plant.now s.state c.requires.sound (λ _. is.state))

pub returns-else-command-clause-stopped : goal.returns-else-command-clause-stopped
returns-else-command-clause-stopped g c = λ told told_cell s is.
    subst (λ (a : Answer). OnErr c.make_or_refuse.result (c.make_or_refuse.result ≢ Err stop.Plant → LeftAhead g.P.Plant a.effects c.args.plant.now c.make_or_refuse.new.plant))
    (sym (order_real s c.args.command.now c.args.order c.if-command.false)) (c.make_or_refuse.ensures.stopped told told_cell s is)
