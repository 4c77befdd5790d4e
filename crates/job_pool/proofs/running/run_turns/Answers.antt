use Rattle.std.proofs.Common.{◌≡◌, ℕ, List, refl, sym, ap, subst, ◌∙◌}
use Rattle.std.specs.Prelude.{Option, Some, None, slice_get}
use Rattle.plant_effects.proofs.Joining.{nothing_quiet, quiet_both}
use Rattle.tape_scan.specs.Looking.{Loads}
use Rattle.dump_courses.proofs.Stopping.{handed}
use Rattle.job_pool.specs.declared.jobs.PoolJob.{PoolJob}
use Rattle.job_pool.specs.declared.turn.Turn.{Turn}
use Rattle.job_pool.specs.declared.turn.Kill.{Kill}
use Rattle.job_pool.specs.declared.stop.PoolStop.TheVariants as stop
use Rattle.job_pool.specs.Schedules.{next_number, number_of, picked, running_from, turn_at, next_turn}
use Rattle.job_pool.specs.Pooled.{FitsPool, HasAllPlaces, IsOnCourse}
use Rattle.job_pool.proofs.NextTurns.{next_runs, next_none, ended_other}
use Rattle.job_pool.proofs.Pooling.{get_within}
use Rattle.job_pool.proofs.PoolWays.{begin_course, more_course, leave_course, idle_course, end_course, done_course, left_course}
use Rattle.job_pool.proofs.running.run_turns.Goals as goal

pub turns-init : goal.turns-init
turns-init g c = record {
  fit = c.requires.fit;
  nothing = c.requires.nothing;
  places = c.requires.places;
  way = λ told told_cell s p at.
      begin_course g.P.Plant g.C.Cell s c.args.kills.now c.args.schedule p c.args.plant.now c.args.budb.now c.args.cell.now c.args.jobs.now c.requires.fit.sound
      (λ tells. g.met.P.Plant.within c.args.plant.now tells c.requires.fit.sound)
      (λ tells survives image left. g.met.P.Plant.left c.args.plant.now image tells c.requires.fit.sound survives left) at;
  elsewhere = λ told k none. refl;
  none = λ told k none. none;
  others = λ k q there ended. there;
  count = refl;
  list = λ told. refl;
  size = refl;
  stays = nothing_quiet g.P.Plant c.args.plant.now;
  faults = refl;
  cell_faults = refl;
}

next_told : (kills : List Kill) (jobs : List PoolJob) (x next : ℕ) (o : Option Turn) → next ≡ next_number x → o ≡ turn_at kills jobs (picked next (running_from 0 jobs)) → next_turn kills x jobs ≡ o
next_told kills jobs x next o is told = ap (λ (k : ℕ). turn_at kills jobs (picked k (running_from 0 jobs))) (sym is) ∙ sym told

pub take_turn-requires-clause-number : goal.take_turn-requires-clause-number
take_turn-requires-clause-number g c =
    let next = next_told c.args.kills.now c.turns.jobs c.turns.x c.next_number-next.result c.turn_told.result c.next_number-next.ensures c.turn_told.ensures ∙ c.in-Some.is in
    let run = next_runs c.args.kills.now c.turns.x c.turns.jobs c.in-Some.turn next in
    get_within c.turns.jobs (number_of c.in-Some.turn) run.job run.at

pub turns-smaller : goal.turns-smaller
turns-smaller g c =
    let next = next_told c.args.kills.now c.turns.jobs c.turns.x c.next_number-next.result c.turn_told.result c.next_number-next.ensures c.turn_told.ensures ∙ c.in-Some.is in
    let run = next_runs c.args.kills.now c.turns.x c.turns.jobs c.in-Some.turn next in
    c.in-Ok.ensures.less run.job run.at run.runs

pub turns-preserved : goal.turns-preserved
turns-preserved g c =
    let inv = c.turns.invariant in
    let next = next_told c.args.kills.now c.turns.jobs c.turns.x c.next_number-next.result c.turn_told.result c.next_number-next.ensures c.turn_told.ensures ∙ c.in-Some.is in
    let run = next_runs c.args.kills.now c.turns.x c.turns.jobs c.in-Some.turn next in
    record {
      fit = c.in-Ok.ensures.fit (λ same. cc);
      nothing = c.take_turn.ensures.nothing;
      places = c.in-Ok.ensures.places (λ same. cc);
      way = λ told told_cell s p at.
          let way = inv.way told told_cell s p at in
          subst (λ (x : ℕ). IsOnCourse g.P.Plant g.C.Cell s c.args.kills.now c.args.schedule p c.args.plant.now x c.take_turn.new.budb c.take_turn.new.plant c.take_turn.new.cell c.take_turn.new.jobs) (sym c.next_number-next.ensures)
          (more_course g.P.Plant g.C.Cell s c.args.kills.now c.args.schedule p c.args.plant.now c.turns.x c.turns.budb c.turns.plant c.turns.cell c.turns.jobs way c.in-Some.turn next c.take_turn.new.budb c.take_turn.new.plant c.take_turn.new.cell c.take_turn.new.jobs
          (c.in-Ok.ensures.turned told told_cell s way.now way.at) (c.in-Ok.ensures.done told told_cell s way.now way.at) (c.take_turn.ensures.leaves told told_cell s way.now way.at));
      elsewhere = λ told k none. c.in-Ok.ensures.elsewhere told (λ same. cc) run.job run.at k (λ runs among. inv.none told k none (number_of c.in-Some.turn) run.job run.at runs among) ∙ inv.elsewhere told k none;
      none = λ told k none. c.in-Ok.ensures.none told (λ same. cc) k (inv.none told k none);
      others = λ k q there ended. c.take_turn.ensures.others k (ended_other c.turns.jobs (number_of c.in-Some.turn) k q run (inv.others k q there ended) ended) ∙ inv.others k q there ended;
      count = c.take_turn.ensures.count ∙ inv.count;
      list = λ told. c.take_turn.ensures.list told ∙ inv.list told;
      size = c.take_turn.ensures.size ∙ inv.size;
      stays = quiet_both g.P.Plant c.args.plant.now c.turns.plant c.take_turn.new.plant inv.stays c.take_turn.ensures.stays;
      faults = c.in-Ok.ensures.plant_cause.stays (λ failed. cc) ∙ inv.faults;
      cell_faults = c.in-Ok.ensures.cell_cause.stays (λ failed. cc) ∙ inv.cell_faults;
    }

pub returns-in-None-clause-runs : goal.returns-in-None-clause-runs
returns-in-None-clause-runs g c = next_none c.args.kills.now c.turns.x c.turns.jobs (next_told c.args.kills.now c.turns.jobs c.turns.x c.next_number-next.result c.turn_told.result c.next_number-next.ensures c.turn_told.ensures ∙ c.in-None.is)

pub returns-in-None-clause-ended : goal.returns-in-None-clause-ended
returns-in-None-clause-ended g c = λ told told_cell s p at.
    let none = next_told c.args.kills.now c.turns.jobs c.turns.x c.next_number-next.result c.turn_told.result c.next_number-next.ensures c.turn_told.ensures ∙ c.in-None.is in
    end_course g.P.Plant g.C.Cell s c.args.kills.now c.args.schedule p c.args.plant.now c.turns.x c.turns.budb c.turns.plant c.turns.cell c.turns.jobs (c.turns.invariant.way told told_cell s p at) none

pub returns-in-None-clause-done : goal.returns-in-None-clause-done
returns-in-None-clause-done g c = λ told told_cell s p at.
    let none = next_told c.args.kills.now c.turns.jobs c.turns.x c.next_number-next.result c.turn_told.result c.next_number-next.ensures c.turn_told.ensures ∙ c.in-None.is in
    done_course g.P.Plant g.C.Cell s c.args.kills.now c.args.schedule p c.args.plant.now c.turns.x c.turns.budb c.turns.plant c.turns.cell c.turns.jobs (c.turns.invariant.way told told_cell s p at) none

pub returns-in-None-clause-leaves : goal.returns-in-None-clause-leaves
returns-in-None-clause-leaves g c = λ told told_cell s p at.
    let none = next_told c.args.kills.now c.turns.jobs c.turns.x c.next_number-next.result c.turn_told.result c.next_number-next.ensures c.turn_told.ensures ∙ c.in-None.is in
    left_course g.P.Plant g.C.Cell s c.args.kills.now c.args.schedule p c.args.plant.now c.turns.x c.turns.budb c.turns.plant c.turns.cell c.turns.jobs (c.turns.invariant.way told told_cell s p at) none

pub returns-in-Err-clause-leaves : goal.returns-in-Err-clause-leaves
returns-in-Err-clause-leaves g c = λ told told_cell s p at.
    let next = next_told c.args.kills.now c.turns.jobs c.turns.x c.next_number-next.result c.turn_told.result c.next_number-next.ensures c.turn_told.ensures ∙ c.in-Some.is in
    let way = c.turns.invariant.way told told_cell s p at in
    leave_course g.P.Plant g.C.Cell s c.args.kills.now c.args.schedule p c.args.plant.now c.turns.x c.turns.budb c.turns.plant c.turns.cell c.turns.jobs way c.in-Some.turn next c.take_turn.new.plant (c.take_turn.ensures.leaves told told_cell s way.now way.at)

pub returns-in-Err-clause-stopped : goal.returns-in-Err-clause-stopped
returns-in-Err-clause-stopped g c = λ told told_cell s p at other.
    let way = c.turns.invariant.way told told_cell s p at in
    idle_course g.P.Plant g.C.Cell s c.args.kills.now c.args.schedule p c.args.plant.now c.turns.x c.turns.budb c.turns.plant c.turns.cell c.turns.jobs way c.take_turn.new.plant (c.in-Err.ensures.stopped other).2

pub returns-in-Err-clause-elsewhere : goal.returns-in-Err-clause-elsewhere
returns-in-Err-clause-elsewhere g c = λ told well k none.
    let inv = c.turns.invariant in
    let next = next_told c.args.kills.now c.turns.jobs c.turns.x c.next_number-next.result c.turn_told.result c.next_number-next.ensures c.turn_told.ensures ∙ c.in-Some.is in
    let run = next_runs c.args.kills.now c.turns.x c.turns.jobs c.in-Some.turn next in
    c.in-Err.ensures.elsewhere told well run.job run.at k (λ runs among. inv.none told k none (number_of c.in-Some.turn) run.job run.at runs among) ∙ inv.elsewhere told k none
