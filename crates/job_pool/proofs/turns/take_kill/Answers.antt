use Rattle.std.proofs.Common.{refl}
use Rattle.dump_courses.proofs.Steps.{fit_sound}
use Rattle.job_pool.proofs.Turning.{kill_fits, kill_ahead, kill_left, kill_turned}
use Rattle.dump_job.specs.Settling.{last_cut}
use Rattle.job_pool.proofs.turns.take_kill.Goals as goal

pub returns-in-Ok-clause-others : goal.returns-in-Ok-clause-others
returns-in-Ok-clause-others g c = λ other fit. kill_fits g.P.Plant (last_cut c.args.job.now) c.args.plant.now c.settle.new.plant c.in-Ok.ensures.done c.in-Ok.ensures.stays other fit

pub returns-in-Ok-clause-turned : goal.returns-in-Ok-clause-turned
returns-in-Ok-clause-turned g c = λ told told_cell s p n q turn.
    let sound = fit_sound g.P.Plant c.args.job.now c.args.plant.now c.requires.fit in
    kill_turned g.P.Plant g.C.Cell c.args.budb.now c.args.plant.now c.settle.new.plant c.args.cell.now c.args.job.now sound (λ tells. g.met.P.Plant.within c.args.plant.now tells sound) (λ tells survives image left. g.met.P.Plant.left c.args.plant.now image tells sound survives left) told s p n q turn
    c.in-Ok.ensures.done c.in-Ok.ensures.stays c.id-id.result c.id-id.ensures

pub returns-in-Ok-clause-done : goal.returns-in-Ok-clause-done
returns-in-Ok-clause-done g c = λ told told_cell s p n q turn.
    let sound = fit_sound g.P.Plant c.args.job.now c.args.plant.now c.requires.fit in
    kill_ahead g.P.Plant g.C.Cell c.args.budb.now c.args.plant.now c.settle.new.plant c.args.cell.now c.args.job.now sound (λ tells. g.met.P.Plant.within c.args.plant.now tells sound) (λ tells survives image left. g.met.P.Plant.left c.args.plant.now image tells sound survives left) told s p n q turn
    c.in-Ok.ensures.done

pub returns-in-Ok-clause-leaves : goal.returns-in-Ok-clause-leaves
returns-in-Ok-clause-leaves g c = λ told told_cell s p n q turn.
    let sound = fit_sound g.P.Plant c.args.job.now c.args.plant.now c.requires.fit in
    kill_left g.P.Plant g.C.Cell c.args.budb.now c.args.plant.now c.settle.new.plant c.args.cell.now c.args.job.now sound (λ tells. g.met.P.Plant.within c.args.plant.now tells sound) (λ tells survives image left. g.met.P.Plant.left c.args.plant.now image tells sound survives left) told s p n q turn
    c.in-Ok.ensures.leaves

pub returns-in-Err-clause-leaves : goal.returns-in-Err-clause-leaves
returns-in-Err-clause-leaves g c = λ told told_cell s p n q turn.
    let sound = fit_sound g.P.Plant c.args.job.now c.args.plant.now c.requires.fit in
    kill_left g.P.Plant g.C.Cell c.args.budb.now c.args.plant.now c.settle.new.plant c.args.cell.now c.args.job.now sound (λ tells. g.met.P.Plant.within c.args.plant.now tells sound) (λ tells survives image left. g.met.P.Plant.left c.args.plant.now image tells sound survives left) told s p n q turn
    c.in-Err.ensures.leaves
