use Rattle.std.proofs.Common.{◌≡◌, ◌≢◌, ◌<◌, ℕ, List, length, get_or, refl, sym, ap, subst, ◌∙◌, arith}
use Rattle.std.specs.Prelude.{Some, None, OnOk, OnErr, slice_get}
use Rattle.plant_effects.specs.Runs.{state_of}
use Rattle.tape_config.specs.Ports.{IsAmong}
use Rattle.dump_courses.proofs.Stopping.{stopped_map}
use Rattle.tape_scan.specs.Looking.{Loads}
use Rattle.job_pool.specs.declared.jobs.PoolJob.{PoolJob}
use Rattle.job_pool.specs.declared.stop.PoolStop.TheVariants as stop
use Rattle.job_pool.specs.Pools.{turn_event, behind, with_job}
use Rattle.job_pool.specs.Schedules.{number_of}
use Rattle.job_pool.specs.Pooled.{FitsPool, HasAllPlaces, IsOfNone, IsAtPool, IsTurned, work_left}
use Rattle.job_pool.proofs.Pooling.{get_other, with_length, with_same, at_place, set_number, same_some, work_fewer, all_places, pool_fits, tapes_elsewhere, none_then, there_too, pool_turned, on_ok}
use Rattle.job_pool.proofs.running.take_turn.Goals as goal

pub turn_one-requires-clause-fit : goal.turn_one-requires-clause-fit
turn_one-requires-clause-fit g c = λ runs. c.requires.fit.each (number_of c.args.turn) (get_or c.args.jobs.now c.number-at.result c.index-jobs-at.result) (at_place c.args.jobs.now c.number-at.result (number_of c.args.turn) c.index-jobs-at.result c.number-at.ensures c.requires.number) runs

pub turn_one-requires-clause-places : goal.turn_one-requires-clause-places
turn_one-requires-clause-places g c = λ runs. c.requires.places (number_of c.args.turn) (get_or c.args.jobs.now c.number-at.result c.index-jobs-at.result) (at_place c.args.jobs.now c.number-at.result (number_of c.args.turn) c.index-jobs-at.result c.number-at.ensures c.requires.number) runs

pub returns-clause-fit : goal.returns-clause-fit
returns-clause-fit g c = λ well.
    let at = at_place c.args.jobs.now c.number-at.result (number_of c.args.turn) c.index-jobs-at.result c.number-at.ensures c.requires.number in
    subst (λ (l : List PoolJob). FitsPool g.P.Plant l c.turn_one.new.plant) (sym (set_number c.args.jobs.now c.number-at.result (number_of c.args.turn) c.turn_one.new.one c.number-at.ensures)) (pool_fits g.P.Plant c.args.plant.now c.turn_one.new.plant c.args.jobs.now (number_of c.args.turn) (get_or c.args.jobs.now c.number-at.result c.index-jobs-at.result) c.turn_one.new.one at c.requires.fit (c.turn_one.ensures.whole well))

pub returns-clause-places : goal.returns-clause-places
returns-clause-places g c = λ well.
    let at = at_place c.args.jobs.now c.number-at.result (number_of c.args.turn) c.index-jobs-at.result c.number-at.ensures c.requires.number in
    subst (λ (l : List PoolJob). HasAllPlaces g.C.Cell l c.turn_one.new.cell) (sym (set_number c.args.jobs.now c.number-at.result (number_of c.args.turn) c.turn_one.new.one c.number-at.ensures))
    (all_places g.C.Cell c.args.cell.now c.turn_one.new.cell c.args.jobs.now (number_of c.args.turn) (get_or c.args.jobs.now c.number-at.result c.index-jobs-at.result) c.turn_one.new.one at c.turn_one.ensures.ended (c.turn_one.ensures.places well) c.turn_one.ensures.list c.turn_one.ensures.size c.requires.places)

pub returns-clause-less : goal.returns-clause-less
returns-clause-less g c = λ q there runs.
    let at = at_place c.args.jobs.now c.number-at.result (number_of c.args.turn) c.index-jobs-at.result c.number-at.ensures c.requires.number in
    let same = same_some c.args.jobs.now (number_of c.args.turn) (get_or c.args.jobs.now c.number-at.result c.index-jobs-at.result) q at there in
    let run : (get_or c.args.jobs.now c.number-at.result c.index-jobs-at.result).end ≡ None = ap (λ (x : PoolJob). x.end) same ∙ runs in
    on_ok c.turn_one.result _ _ (λ less. subst (λ (l : List PoolJob). work_left l < work_left c.args.jobs.now) (sym (set_number c.args.jobs.now c.number-at.result (number_of c.args.turn) c.turn_one.new.one c.number-at.ensures)) (work_fewer c.args.jobs.now (number_of c.args.turn) (get_or c.args.jobs.now c.number-at.result c.index-jobs-at.result) c.turn_one.new.one at run less)) (c.turn_one.ensures.less run)

pub returns-clause-turned : goal.returns-clause-turned
returns-clause-turned g c = λ told told_cell s p stands.
    let at = at_place c.args.jobs.now c.number-at.result (number_of c.args.turn) c.index-jobs-at.result c.number-at.ensures c.requires.number in
    on_ok c.turn_one.result _ _
    (λ turned. subst (λ (l : List PoolJob). IsAtPool g.P.Plant g.C.Cell s (behind p (turn_event s p c.args.turn)) c.turn_one.new.budb c.turn_one.new.plant c.turn_one.new.cell l) (sym (set_number c.args.jobs.now c.number-at.result (number_of c.args.turn) c.turn_one.new.one c.number-at.ensures))
    (pool_turned g.P.Plant g.C.Cell s p c.args.turn c.args.jobs.now (get_or c.args.jobs.now c.number-at.result c.index-jobs-at.result) c.turn_one.new.one c.args.budb.now c.turn_one.new.budb c.args.plant.now c.turn_one.new.plant c.args.cell.now c.turn_one.new.cell stands turned))
    (c.turn_one.ensures.turned told told_cell s p (there_too g.P.Plant g.C.Cell s p c.args.turn c.args.jobs.now (get_or c.args.jobs.now c.number-at.result c.index-jobs-at.result) c.turn_one.new.one c.args.budb.now c.args.plant.now c.args.cell.now stands at) stands.stands)

pub returns-clause-done : goal.returns-clause-done
returns-clause-done g c = λ told told_cell s p stands.
    let at = at_place c.args.jobs.now c.number-at.result (number_of c.args.turn) c.index-jobs-at.result c.number-at.ensures c.requires.number in
    c.turn_one.ensures.done told told_cell s p (there_too g.P.Plant g.C.Cell s p c.args.turn c.args.jobs.now (get_or c.args.jobs.now c.number-at.result c.index-jobs-at.result) c.turn_one.new.one c.args.budb.now c.args.plant.now c.args.cell.now stands at) stands.stands

pub returns-clause-leaves : goal.returns-clause-leaves
returns-clause-leaves g c = λ told told_cell s p stands.
    let at = at_place c.args.jobs.now c.number-at.result (number_of c.args.turn) c.index-jobs-at.result c.number-at.ensures c.requires.number in
    c.turn_one.ensures.leaves told told_cell s p (there_too g.P.Plant g.C.Cell s p c.args.turn c.args.jobs.now (get_or c.args.jobs.now c.number-at.result c.index-jobs-at.result) c.turn_one.new.one c.args.budb.now c.args.plant.now c.args.cell.now stands at) stands.stands

pub returns-clause-elsewhere : goal.returns-clause-elsewhere
returns-clause-elsewhere g c = λ tells well q there k outside.
    let at = at_place c.args.jobs.now c.number-at.result (number_of c.args.turn) c.index-jobs-at.result c.number-at.ensures c.requires.number in
    let same = same_some c.args.jobs.now (number_of c.args.turn) (get_or c.args.jobs.now c.number-at.result c.index-jobs-at.result) q at there in
    tapes_elsewhere g.P.Plant c.args.plant.now c.turn_one.new.plant c.args.jobs.now (number_of c.args.turn) (get_or c.args.jobs.now c.number-at.result c.index-jobs-at.result) c.turn_one.new.one at c.requires.fit (c.turn_one.ensures.whole well) tells k (λ runs among. outside (sym (ap (λ (x : PoolJob). x.end) same) ∙ runs) (subst (λ (x : PoolJob). IsAmong x.job.port k) same among))

pub returns-clause-none : goal.returns-clause-none
returns-clause-none g c = λ tells well k none.
    let at = at_place c.args.jobs.now c.number-at.result (number_of c.args.turn) c.index-jobs-at.result c.number-at.ensures c.requires.number in
    subst (λ (l : List PoolJob). IsOfNone l k) (sym (set_number c.args.jobs.now c.number-at.result (number_of c.args.turn) c.turn_one.new.one c.number-at.ensures)) (none_then g.P.Plant c.args.plant.now c.turn_one.new.plant c.args.jobs.now (number_of c.args.turn) (get_or c.args.jobs.now c.number-at.result c.index-jobs-at.result) c.turn_one.new.one at c.requires.fit (c.turn_one.ensures.whole well) tells k none)

pub returns-clause-others : goal.returns-clause-others
returns-clause-others g c = λ k other.
    let at = at_place c.args.jobs.now c.number-at.result (number_of c.args.turn) c.index-jobs-at.result c.number-at.ensures c.requires.number in
    ap (λ (l : List PoolJob). slice_get l k) (set_number c.args.jobs.now c.number-at.result (number_of c.args.turn) c.turn_one.new.one c.number-at.ensures) ∙ get_other (number_of c.args.turn) c.turn_one.new.one c.args.jobs.now k other

pub returns-clause-ended : goal.returns-clause-ended
returns-clause-ended g c = λ q there ended.
    let at = at_place c.args.jobs.now c.number-at.result (number_of c.args.turn) c.index-jobs-at.result c.number-at.ensures c.requires.number in
    let same = same_some c.args.jobs.now (number_of c.args.turn) (get_or c.args.jobs.now c.number-at.result c.index-jobs-at.result) q at there in
    let stays = c.turn_one.ensures.same (λ none. ended (sym (ap (λ (x : PoolJob). x.end) same) ∙ none)) in
    (set_number c.args.jobs.now c.number-at.result (number_of c.args.turn) c.turn_one.new.one c.number-at.ensures) ∙ ap (λ (x : PoolJob). with_job (number_of c.args.turn) x c.args.jobs.now) stays.0 ∙ with_same (number_of c.args.turn) (get_or c.args.jobs.now c.number-at.result c.index-jobs-at.result) c.args.jobs.now at

pub returns-clause-count : goal.returns-clause-count
returns-clause-count g c =
    let at = at_place c.args.jobs.now c.number-at.result (number_of c.args.turn) c.index-jobs-at.result c.number-at.ensures c.requires.number in
    ap length (set_number c.args.jobs.now c.number-at.result (number_of c.args.turn) c.turn_one.new.one c.number-at.ensures) ∙ with_length (number_of c.args.turn) c.turn_one.new.one c.args.jobs.now

pub returns-clause-stopped : goal.returns-clause-stopped
returns-clause-stopped g c =
    let at = at_place c.args.jobs.now c.number-at.result (number_of c.args.turn) c.index-jobs-at.result c.number-at.ensures c.requires.number in
    stopped_map stop.Plant c.turn_one.result _ _ (λ idle. ((set_number c.args.jobs.now c.number-at.result (number_of c.args.turn) c.turn_one.new.one c.number-at.ensures) ∙ ap (λ (x : PoolJob). with_job (number_of c.args.turn) x c.args.jobs.now) idle.0 ∙ with_same (number_of c.args.turn) (get_or c.args.jobs.now c.number-at.result c.index-jobs-at.result) c.args.jobs.now at, idle.1, idle.2)) c.turn_one.ensures.stopped
