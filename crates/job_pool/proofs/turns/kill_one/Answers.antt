use Rattle.std.proofs.Common.{refl}
use Rattle.dump_courses.proofs.Steps.{fit_sound}
use Rattle.job_pool.proofs.turns.kill_one.Goals as goal

pub returns-in-Ok-clause-sound : goal.returns-in-Ok-clause-sound
returns-in-Ok-clause-sound g c = fit_sound g.P.Plant c.args.one.now.job c.take_kill.new.plant (c.in-Ok.ensures.others c.args.one.now.job c.requires.fit.fit)

pub returns-in-Ok-clause-turned : goal.returns-in-Ok-clause-turned
returns-in-Ok-clause-turned g c = λ told told_cell s p n at stands.
    c.in-Ok.ensures.turned told told_cell s p n c.args.one.now (record { at = at; runs = c.requires.runs; is = refl; stands = stands })

pub returns-in-Ok-clause-done : goal.returns-in-Ok-clause-done
returns-in-Ok-clause-done g c = λ told told_cell s p n at stands.
    c.in-Ok.ensures.done told told_cell s p n c.args.one.now (record { at = at; runs = c.requires.runs; is = refl; stands = stands })

pub returns-in-Ok-clause-leaves : goal.returns-in-Ok-clause-leaves
returns-in-Ok-clause-leaves g c = λ told told_cell s p n at stands.
    c.take_kill.ensures.leaves told told_cell s p n c.args.one.now (record { at = at; runs = c.requires.runs; is = refl; stands = stands })

pub returns-in-Err-clause-leaves : goal.returns-in-Err-clause-leaves
returns-in-Err-clause-leaves g c = λ told told_cell s p n at stands.
    c.take_kill.ensures.leaves told told_cell s p n c.args.one.now (record { at = at; runs = c.requires.runs; is = refl; stands = stands })
