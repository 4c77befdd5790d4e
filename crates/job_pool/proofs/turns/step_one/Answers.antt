use Rattle.std.proofs.Common.{◌≡◌, ◌≢◌, ℕ, refl, sym, ap, subst, ◌∙◌}
use Rattle.std.specs.Prelude.{Option, Ok, Some, None}
use Rattle.tape_scan.specs.Looking.{Loads}
use Rattle.dump_job.specs.declared.fields.JobFields.{JobFields}
use Rattle.dump_job.specs.declared.fields.Phase.TheVariants as phase
use Rattle.dump_job.specs.Elsewhere.{LeavesOthers}
use Rattle.dump_job.specs.Jobs.{FitsJob}
use Rattle.dump_courses.proofs.Stopping.{handed}
use Rattle.job_pool.specs.declared.stop.PoolStop.TheVariants as stop
use Rattle.job_pool.specs.declared.ends.JobEnd.{JobEnd}
use Rattle.job_pool.specs.declared.turn.Turn.TheVariants.{Step}
use Rattle.job_pool.specs.Pools.{turn_event}
use Rattle.job_pool.specs.Pooled.{AreApartWhereTold, IsTurned}
use Rattle.dump_courses.proofs.Steps.{fit_sound}
use Rattle.job_pool.proofs.Pooling.{less_by}
use Rattle.job_pool.proofs.turns.step_one.Goals as goal

pub returns-in-Ok-clause-fit : goal.returns-in-Ok-clause-fit
returns-in-Ok-clause-fit g c = λ well runs. record {
  going = c.in-Ok.ensures.going (ap (λ (o : Option JobEnd). Ok o) runs);
  fit = c.in-Ok.ensures.fit (λ same. cc);
  on = λ tells. (c.in-Ok.ensures.elsewhere tells (λ same. cc)).on (c.requires.fit.on tells);
}

pub returns-in-Ok-clause-sound : goal.returns-in-Ok-clause-sound
returns-in-Ok-clause-sound g c = λ well. fit_sound g.P.Plant c.take_step.new.job c.take_step.new.plant (c.in-Ok.ensures.fit (λ same. cc))

pub returns-in-Ok-clause-less : goal.returns-in-Ok-clause-less
returns-in-Ok-clause-less g c = less_by c.in-Ok.end _ _ (λ runs. c.in-Ok.ensures.less (ap (λ (o : Option JobEnd). Ok o) runs))

pub returns-in-Ok-clause-turned : goal.returns-in-Ok-clause-turned
returns-in-Ok-clause-turned g c = λ told told_cell s p n at stands.
    subst (λ (k : ℕ). IsTurned g.P.Plant g.C.Cell s p (turn_event s p (Step n)) n (record { job = c.take_step.new.job; steps = k; end = c.in-Ok.end }) c.take_step.new.budb c.take_step.new.plant c.take_step.new.cell) (sym c.saturating_add-one.ensures)
    (c.in-Ok.ensures.turned told told_cell s p n c.args.one.now (record { at = at; runs = c.requires.runs; is = refl; stands = stands }))

pub returns-in-Ok-clause-done : goal.returns-in-Ok-clause-done
returns-in-Ok-clause-done g c = λ told told_cell s p n at stands.
    c.in-Ok.ensures.done told told_cell s p n c.args.one.now (record { at = at; runs = c.requires.runs; is = refl; stands = stands })

pub returns-in-Ok-clause-leaves : goal.returns-in-Ok-clause-leaves
returns-in-Ok-clause-leaves g c = λ told told_cell s p n at stands.
    c.take_step.ensures.leaves told told_cell s p n c.args.one.now (record { at = at; runs = c.requires.runs; is = refl; stands = stands })

pub returns-in-Err-clause-fit : goal.returns-in-Err-clause-fit
returns-in-Err-clause-fit g c = λ well runs.
    let idle = handed stop.Plant c.in-Err.stop _ ((c.take_step.new.job ≡ c.args.one.now.job) × (c.take_step.new.budb ≡ c.args.budb.now) × Loads g.P.Plant c.args.plant.now c.take_step.new.plant) refl c.in-Err.ensures.stopped well in
    record {
      going = subst (λ (j : JobFields). j.phase ≢ phase.Over) (sym idle.0) c.requires.fit.going;
      fit = handed stop.Plant c.in-Err.stop _ (FitsJob g.P.Plant c.take_step.new.job c.take_step.new.plant) refl c.in-Err.ensures.fit well;
      on = λ tells. (handed stop.Plant c.in-Err.stop _ (LeavesOthers g.P.Plant c.args.plant.now c.take_step.new.plant c.args.one.now.job c.take_step.new.job) refl (c.in-Err.ensures.elsewhere tells) well).on (c.requires.fit.on tells);
    }

pub returns-in-Err-clause-sound : goal.returns-in-Err-clause-sound
returns-in-Err-clause-sound g c = λ well.
    fit_sound g.P.Plant c.take_step.new.job c.take_step.new.plant (handed stop.Plant c.in-Err.stop _ (FitsJob g.P.Plant c.take_step.new.job c.take_step.new.plant) refl c.in-Err.ensures.fit well)

pub returns-in-Err-clause-places : goal.returns-in-Err-clause-places
returns-in-Err-clause-places g c = λ well. handed stop.Plant c.in-Err.stop _ (c.take_step.new.job.places ≡ c.args.one.now.job.places) refl c.in-Err.ensures.places well

pub returns-in-Err-clause-elsewhere : goal.returns-in-Err-clause-elsewhere
returns-in-Err-clause-elsewhere g c = λ tells well. handed stop.Plant c.in-Err.stop _ (LeavesOthers g.P.Plant c.args.plant.now c.take_step.new.plant c.args.one.now.job c.take_step.new.job) refl (c.in-Err.ensures.elsewhere tells) well

pub returns-in-Err-clause-others : goal.returns-in-Err-clause-others
returns-in-Err-clause-others g c = λ well. handed stop.Plant c.in-Err.stop _ ((other : JobFields) → FitsJob g.P.Plant other c.args.plant.now → AreApartWhereTold g.P.Plant c.args.one.now.job other → FitsJob g.P.Plant other c.take_step.new.plant) refl c.in-Err.ensures.others well

pub returns-in-Err-clause-stopped : goal.returns-in-Err-clause-stopped
returns-in-Err-clause-stopped g c = λ well.
    let idle = handed stop.Plant c.in-Err.stop _ ((c.take_step.new.job ≡ c.args.one.now.job) × (c.take_step.new.budb ≡ c.args.budb.now) × Loads g.P.Plant c.args.plant.now c.take_step.new.plant) refl c.in-Err.ensures.stopped well in
    (ap (λ (j : JobFields). record { job = j; steps = c.args.one.now.steps; end = c.args.one.now.end }) idle.0, idle.1, idle.2)

pub returns-in-Err-clause-leaves : goal.returns-in-Err-clause-leaves
returns-in-Err-clause-leaves g c = λ told told_cell s p n at stands.
    c.take_step.ensures.leaves told told_cell s p n c.args.one.now (record { at = at; runs = c.requires.runs; is = refl; stands = stands })
