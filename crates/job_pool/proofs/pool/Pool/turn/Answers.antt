use Rattle.std.proofs.Common.{◌≡◌, ℕ, List, sym, subst, ◌∙◌}
use Rattle.dump_courses.proofs.Stopping.{handed}
use Rattle.job_pool.specs.declared.jobs.PoolJob.{PoolJob}
use Rattle.job_pool.specs.declared.stop.PoolStop.TheVariants as stop
use Rattle.job_pool.specs.Pooled.{FitsPool, HasAllPlaces}
use Rattle.job_pool.proofs.Pooling.{all_new}
use Rattle.job_pool.proofs.pool.Pool.turn.Goals.{in-Ok, in-Err}
use Rattle.job_pool.proofs.pool.Pool.turn.Goals as goal

pub returns-clause-fit : goal.returns-clause-fit
returns-clause-fit g c = λ well.
    subst (λ (l : List PoolJob). FitsPool g.P.Plant l c.take_turn.new.plant) (sym (all_new c.self.inside.jobs.len c.take_turn.new.jobs c.self.inside.jobs.items (c.take_turn.ensures.count ∙ c.as_mut_slice.ensures.len)))
    (elim c.match-take_turn.branch [
      | in-Ok w ↦ w.in-Ok.ensures.fit (λ same. cc)
      | in-Err w ↦ handed stop.Plant w.in-Err.stop c.match-take_turn.result (FitsPool g.P.Plant c.take_turn.new.jobs c.take_turn.new.plant) w.result-is w.in-Err.ensures.fit well
    ])

pub returns-clause-places : goal.returns-clause-places
returns-clause-places g c = λ well.
    subst (λ (l : List PoolJob). HasAllPlaces g.C.Cell l c.take_turn.new.cell) (sym (all_new c.self.inside.jobs.len c.take_turn.new.jobs c.self.inside.jobs.items (c.take_turn.ensures.count ∙ c.as_mut_slice.ensures.len)))
    (elim c.match-take_turn.branch [
      | in-Ok w ↦ w.in-Ok.ensures.places (λ same. cc)
      | in-Err w ↦ handed stop.Plant w.in-Err.stop c.match-take_turn.result (HasAllPlaces g.C.Cell c.take_turn.new.jobs c.take_turn.new.cell) w.result-is w.in-Err.ensures.places well
    ])
