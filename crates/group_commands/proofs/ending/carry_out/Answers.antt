use Rattle.std.proofs.Common.{ap, ◌∙◌}
use Rattle.std.specs.Prelude.{Err}
use Rattle.std.proofs.lemmas.Result.{err_from_is_err_and}
use Rattle.dump_courses.specs.declared.stop.DumpStop.TheVariants as stop
use Rattle.dump_courses.proofs.Stopping.{on_stop, handed}
use Rattle.group_commands.proofs.GroupEnds.{begins_leave, begins_stop, group_left, group_stopped, group_ran}
use Rattle.group_commands.proofs.ending.carry_out.Goals as goal

pub returns-in_err-begin_held-clause-leaves : goal.returns-in_err-begin_held-clause-leaves
returns-in_err-begin_held-clause-leaves g c = λ told told_cell s finds.
    begins_leave g.P.Plant g.C.Cell s c.args.group.now c.held.result.now c.held.ensures.held c.args.plant.now c.begin_held.new.plant (c.begin_held.ensures.leaves told told_cell s finds)

pub returns-in_err-begin_held-clause-stopped : goal.returns-in_err-begin_held-clause-stopped
returns-in_err-begin_held-clause-stopped g c = λ told told_cell s finds.
    let e = err_from_is_err_and c.from_residual.result c.from_residual.ensures.1 in
    on_stop stop.Plant c.from_residual.result _ (λ other.
    begins_stop g.P.Plant g.C.Cell s c.args.group.now c.held.result.now c.held.ensures.held c.args.plant.now c.begin_held.new.plant
    (handed stop.Plant _ c.from_residual.result _ (e.1 ∙ ap Err e.2) (c.in_err-begin_held.ensures.stopped told told_cell s finds) other))

pub returns-clause-ended : goal.returns-clause-ended
returns-clause-ended g c = λ told told_cell s finds.
    group_ran g.P.Plant g.C.Cell s c.args.group.now c.held.result.now c.held.ensures.held c.args.plant.now c.begin_held.new.plant c.run_begun.new.plant c.args.cell.now c.run_begun.new.cell
    c.begin_held.new.begun.began c.begin_held.new.begun.time c.begin_held.new.budb c.run_begun.new.budb c.begin_held.new.begun.pool.jobs c.run_begun.new.begun.pool.jobs (c.in_ok-begin_held.ensures.begun told told_cell s finds)
    c.run_begun.result c.run_begun.new.begun.began c.run_begun.new.begun.time c.run_begun.ensures.began c.run_begun.ensures.time
    (λ p at. c.run_begun.ensures.at told told_cell s p at) (λ p at. c.run_begun.ensures.done told told_cell s p at)

pub returns-clause-leaves : goal.returns-clause-leaves
returns-clause-leaves g c = λ told told_cell s finds.
    group_left g.P.Plant g.C.Cell s c.args.group.now c.held.result.now c.held.ensures.held c.args.plant.now c.begin_held.new.plant c.run_begun.new.plant c.args.cell.now c.run_begun.new.cell
    c.begin_held.new.begun.began c.begin_held.new.begun.time c.begin_held.new.budb c.run_begun.new.budb c.begin_held.new.begun.pool.jobs c.run_begun.new.begun.pool.jobs (c.in_ok-begin_held.ensures.begun told told_cell s finds)
    (λ p at. c.run_begun.ensures.leaves told told_cell s p at)

pub returns-clause-stopped : goal.returns-clause-stopped
returns-clause-stopped g c = λ told told_cell s finds.
    group_stopped g.P.Plant g.C.Cell s c.args.group.now c.held.result.now c.held.ensures.held c.args.plant.now c.begin_held.new.plant c.run_begun.new.plant c.args.cell.now c.run_begun.new.cell
    c.begin_held.new.begun.began c.begin_held.new.begun.time c.begin_held.new.budb c.run_begun.new.budb c.begin_held.new.begun.pool.jobs c.run_begun.new.begun.pool.jobs (c.in_ok-begin_held.ensures.begun told told_cell s finds)
    c.run_begun.result (λ p at. c.run_begun.ensures.stopped told told_cell s p at)
