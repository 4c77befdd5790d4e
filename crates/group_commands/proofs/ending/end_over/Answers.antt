use Rattle.plant_effects.proofs.Joining.{nothing_left}
use Rattle.dump_courses.specs.declared.stop.DumpStop.TheVariants as stop
use Rattle.dump_courses.proofs.Stopping.{on_stop}
use Rattle.group_commands.proofs.GroupEnds.{group_answered, group_told, group_whole}
use Rattle.group_commands.proofs.ending.end_over.Goals as goal

pub returns-in_err-begun-clause-leaves : goal.returns-in_err-begun-clause-leaves
returns-in_err-begun-clause-leaves g c = λ told told_cell s finds.
    nothing_left g.P.Plant _ c.args.plant.now (λ tells survives image left. g.met.P.Plant.left c.args.plant.now image tells c.requires.sound survives left)

pub returns-in_err-ended-clause-stopped : goal.returns-in_err-ended-clause-stopped
returns-in_err-ended-clause-stopped g c = λ told told_cell s finds.
    on_stop stop.Plant c.from_residual-in_err-ended.result _ (λ other.
    group_whole s c.args.group.now g.P.Plant c.carry_out.new.begun.began c.carry_out.new.begun.time c.carry_out.new.budb c.args.plant.now c.carry_out.new.plant c.carry_out.new.begun.pool.jobs (c.in_ok-carry_out.ensures.ended told told_cell s finds))

pub returns-clause-answered : goal.returns-clause-answered
returns-clause-answered g c = λ told told_cell s finds.
    group_answered s c.args.group.now g.P.Plant c.carry_out.new.begun.began c.carry_out.new.begun.time c.carry_out.new.budb c.args.plant.now c.carry_out.new.plant c.carry_out.new.begun.pool.jobs (c.in_ok-carry_out.ensures.ended told told_cell s finds)
    c.in_ok-ended.ended.text c.in_ok-ended.ended.time c.in_ok-ended.ensures.text c.in_ok-ended.ensures.time

pub returns-clause-jobs : goal.returns-clause-jobs
returns-clause-jobs g c = λ told told_cell s finds.
    group_told s c.args.group.now g.P.Plant c.carry_out.new.begun.began c.carry_out.new.begun.time c.carry_out.new.budb c.args.plant.now c.carry_out.new.plant c.carry_out.new.begun.pool.jobs (c.in_ok-carry_out.ensures.ended told told_cell s finds)
    c.in_ok-ended.ended.jobs c.in_ok-ended.ensures.jobs
