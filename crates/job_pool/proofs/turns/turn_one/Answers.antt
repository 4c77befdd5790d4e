use Rattle.std.proofs.Common.{◌≡◌, ◌≢◌, ℕ, Bool, true, false, refl, sym, ap, subst, ◌∙◌}
use Rattle.std.specs.Prelude.{Option, Some, None, is_some, Result, Ok, Err, OnOk, slice_get}
use Rattle.plant_effects.specs.Runs.{Leaves}
use Rattle.dump_job.specs.declared.fields.JobFields.{JobFields}
use Rattle.dump_job.specs.Elsewhere.{LeavesTapes}
use Rattle.dump_job.specs.Jobs.{FitsJob}
use Rattle.dump_courses.specs.Ahead.{DoneAhead}
use Rattle.dump_courses.proofs.Stopping.{either}
use Rattle.job_pool.specs.declared.jobs.PoolJob.{PoolJob}
use Rattle.job_pool.specs.declared.stop.PoolStop.TheVariants as stop
use Rattle.job_pool.specs.declared.turn.Turn.{Turn}
use Rattle.job_pool.specs.Pools.{turn_event}
use Rattle.job_pool.specs.Schedules.{number_of}
use Rattle.job_pool.specs.Pooled.{FitsOne, HasTurned, IsTurned}
use Rattle.job_pool.proofs.Pooling.{some_ended, none_runs_on, nothing_turned, nothing_ahead_there, nothing_left_there, kept_job, unless_failed, no_other, on_ok, less_by}
use Rattle.job_pool.proofs.turns.turn_one.Goals as goal

pub returns-then-is_some-clause-whole : goal.returns-then-is_some-clause-whole
returns-then-is_some-clause-whole g c = λ well.
    let hit : is_some c.args.one.now.end ≡ true = cc in
    let ended = some_ended c.args.one.now.end hit in
    record { sound = c.requires.sound; fit = λ runs. absurd (ended runs); elsewhere = λ tells runs. absurd (ended runs); others = λ runs. absurd (ended runs); same = λ _. (refl, refl) }

pub returns-then-is_some-clause-turned : goal.returns-then-is_some-clause-turned
returns-then-is_some-clause-turned g c = λ told told_cell s p at stands.
    let hit : is_some c.args.one.now.end ≡ true = cc in
    nothing_turned g.P.Plant g.C.Cell s p c.args.turn c.args.one.now at (some_ended c.args.one.now.end hit) c.args.budb.now c.args.plant.now c.args.cell.now stands

pub returns-then-is_some-clause-done : goal.returns-then-is_some-clause-done
returns-then-is_some-clause-done g c = λ told told_cell s p at stands.
    let hit : is_some c.args.one.now.end ≡ true = cc in
    nothing_ahead_there g.P.Plant g.C.Cell s p c.args.turn c.args.one.now at (some_ended c.args.one.now.end hit) c.args.budb.now c.args.plant.now c.args.cell.now c.requires.sound stands

pub returns-then-is_some-clause-leaves : goal.returns-then-is_some-clause-leaves
returns-then-is_some-clause-leaves g c = λ told told_cell s p at stands.
    (let hit : is_some c.args.one.now.end ≡ true = cc in nothing_left_there g.P.Plant g.C.Cell s p c.args.turn c.args.one.now at (some_ended c.args.one.now.end hit) c.args.plant.now (λ tells survives image left. g.met.P.Plant.left c.args.plant.now image tells c.requires.sound survives left))

pub step_one-requires-clause-fit : goal.step_one-requires-clause-fit
step_one-requires-clause-fit g c = (let miss : is_some c.args.one.now.end ≡ false = cc in c.requires.fit (none_runs_on c.args.one.now.end miss))

pub step_one-requires-clause-places : goal.step_one-requires-clause-places
step_one-requires-clause-places g c = (let miss : is_some c.args.one.now.end ≡ false = cc in c.requires.places (none_runs_on c.args.one.now.end miss))

pub step_one-requires-clause-runs : goal.step_one-requires-clause-runs
step_one-requires-clause-runs g c = (let miss : is_some c.args.one.now.end ≡ false = cc in none_runs_on c.args.one.now.end miss)

pub kill_one-requires-clause-fit : goal.kill_one-requires-clause-fit
kill_one-requires-clause-fit g c = (let miss : is_some c.args.one.now.end ≡ false = cc in c.requires.fit (none_runs_on c.args.one.now.end miss))

pub kill_one-requires-clause-runs : goal.kill_one-requires-clause-runs
kill_one-requires-clause-runs g c = (let miss : is_some c.args.one.now.end ≡ false = cc in none_runs_on c.args.one.now.end miss)

pub returns-in-Step-clause-whole : goal.returns-in-Step-clause-whole
returns-in-Step-clause-whole g c = λ well.
    let miss : is_some c.args.one.now.end ≡ false = cc in
    let runs = none_runs_on c.args.one.now.end miss in
    record { sound = c.step_one.ensures.sound well; fit = c.step_one.ensures.fit well; elsewhere = λ tells _. c.step_one.ensures.elsewhere tells well; others = λ _. c.step_one.ensures.others well; same = λ ended. absurd (ended runs) }

pub returns-in-Step-clause-turned : goal.returns-in-Step-clause-turned
returns-in-Step-clause-turned g c = λ told told_cell s p at stands.
    subst (λ (t : Turn). OnOk c.step_one.result (IsTurned g.P.Plant g.C.Cell s p (turn_event s p t) (number_of t) c.step_one.new.one c.step_one.new.budb c.step_one.new.plant c.step_one.new.cell)) (sym c.in-Step.is)
    (c.step_one.ensures.turned told told_cell s p c.in-Step.field-0 (subst (λ (t : Turn). slice_get p.jobs (number_of t) ≡ Some c.args.one.now) c.in-Step.is at) stands)

pub returns-in-Step-clause-done : goal.returns-in-Step-clause-done
returns-in-Step-clause-done g c = λ told told_cell s p at stands.
    subst (λ (t : Turn). OnOk c.step_one.result (DoneAhead g.P.Plant (turn_event s p t).effects c.args.plant.now c.step_one.new.plant)) (sym c.in-Step.is)
    (c.step_one.ensures.done told told_cell s p c.in-Step.field-0 (subst (λ (t : Turn). slice_get p.jobs (number_of t) ≡ Some c.args.one.now) c.in-Step.is at) stands)

pub returns-in-Step-clause-leaves : goal.returns-in-Step-clause-leaves
returns-in-Step-clause-leaves g c = λ told told_cell s p at stands.
    subst (λ (t : Turn). Leaves g.P.Plant (turn_event s p t).effects c.args.plant.now c.step_one.new.plant) (sym c.in-Step.is)
    (c.step_one.ensures.leaves told told_cell s p c.in-Step.field-0 (subst (λ (t : Turn). slice_get p.jobs (number_of t) ≡ Some c.args.one.now) c.in-Step.is at) stands)

pub returns-in-Kill-clause-whole : goal.returns-in-Kill-clause-whole
returns-in-Kill-clause-whole g c = λ well.
    let miss : is_some c.args.one.now.end ≡ false = cc in
    let runs = none_runs_on c.args.one.now.end miss in
    let ended : c.kill_one.new.one.end ≢ None = unless_failed stop.Plant c.kill_one.result (c.kill_one.new.one.end ≢ None) c.kill_one.ensures.ended c.kill_one.ensures.stops well in
    record {
      sound = unless_failed stop.Plant c.kill_one.result (g.P.Plant.sound c.kill_one.new.plant) c.kill_one.ensures.sound c.kill_one.ensures.stops well;
      fit = λ none. absurd (ended none);
      elsewhere = λ tells _. kept_job g.P.Plant c.args.plant.now c.kill_one.new.plant c.args.one.now.job c.kill_one.new.one.job c.kill_one.ensures.job (unless_failed stop.Plant c.kill_one.result (LeavesTapes g.P.Plant c.args.plant.now c.kill_one.new.plant) (c.kill_one.ensures.elsewhere tells) c.kill_one.ensures.stops well);
      others = λ _ other fit apart. unless_failed stop.Plant c.kill_one.result ((k : JobFields) → FitsJob g.P.Plant k c.args.plant.now → FitsJob g.P.Plant k c.kill_one.new.plant) c.kill_one.ensures.others c.kill_one.ensures.stops well other fit;
      same = λ none. absurd (none runs);
    }

pub returns-in-Kill-clause-less : goal.returns-in-Kill-clause-less
returns-in-Kill-clause-less g c = λ runs. on_ok c.kill_one.result (c.kill_one.new.one.end ≢ None) _ (λ ended. less_by c.kill_one.new.one.end _ _ (λ none. absurd (ended none))) c.kill_one.ensures.ended

pub returns-in-Kill-clause-stopped : goal.returns-in-Kill-clause-stopped
returns-in-Kill-clause-stopped g c = no_other stop.Plant c.kill_one.result _ c.kill_one.ensures.stops

pub returns-in-Kill-clause-turned : goal.returns-in-Kill-clause-turned
returns-in-Kill-clause-turned g c = λ told told_cell s p at stands.
    subst (λ (t : Turn). OnOk c.kill_one.result (IsTurned g.P.Plant g.C.Cell s p (turn_event s p t) (number_of t) c.kill_one.new.one c.args.budb.now c.kill_one.new.plant c.args.cell.now)) (sym c.in-Kill.is)
    (c.kill_one.ensures.turned told told_cell s p c.in-Kill.field-0 (subst (λ (t : Turn). slice_get p.jobs (number_of t) ≡ Some c.args.one.now) c.in-Kill.is at) stands)

pub returns-in-Kill-clause-done : goal.returns-in-Kill-clause-done
returns-in-Kill-clause-done g c = λ told told_cell s p at stands.
    subst (λ (t : Turn). OnOk c.kill_one.result (DoneAhead g.P.Plant (turn_event s p t).effects c.args.plant.now c.kill_one.new.plant)) (sym c.in-Kill.is)
    (c.kill_one.ensures.done told told_cell s p c.in-Kill.field-0 (subst (λ (t : Turn). slice_get p.jobs (number_of t) ≡ Some c.args.one.now) c.in-Kill.is at) stands)

pub returns-in-Kill-clause-leaves : goal.returns-in-Kill-clause-leaves
returns-in-Kill-clause-leaves g c = λ told told_cell s p at stands.
    subst (λ (t : Turn). Leaves g.P.Plant (turn_event s p t).effects c.args.plant.now c.kill_one.new.plant) (sym c.in-Kill.is)
    (c.kill_one.ensures.leaves told told_cell s p c.in-Kill.field-0 (subst (λ (t : Turn). slice_get p.jobs (number_of t) ≡ Some c.args.one.now) c.in-Kill.is at) stands)
