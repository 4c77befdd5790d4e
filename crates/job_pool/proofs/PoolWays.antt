-- Dumps that take turns by a schedule: one turn more, and the end.
use Rattle.std.proofs.Common.{◌≡◌, ℕ, List, [], ◌++◌, refl, sym, ◌∙◌, ap, subst, append_assoc}
use Rattle.std.specs.Prelude.{Some, None}
use Rattle.std.proofs.lemmas.List.{append-nil}
use Rattle.plant_core.specs.declared.plant.Plant.{Ghosts as Plant}
use Rattle.plant_core.specs.Crashes.{State, IsWithin}
use Rattle.plant_core.specs.Effects.{Effect, come}
use Rattle.plant_effects.specs.Runs.{state_of, Leaves}
use Rattle.plant_effects.proofs.States.{come_append}
use Rattle.plant_effects.proofs.Joining.{Fits, nothing_left, leaves_more}
use Rattle.cell_core.specs.declared.cell.Cell.{Ghosts as Cell}
use Rattle.tape_scan.specs.Looking.{Loads}
use Rattle.budb.specs.Views.{BudbView}
use Rattle.dump_courses.specs.Scenes.{Scene}
use Rattle.dump_courses.specs.Ahead.{DoneAhead, LeftAhead}
use Rattle.dump_courses.proofs.Ahead.{nothing_ahead, done_ahead_both, leaves_ahead}
use Rattle.dump_courses.proofs.Stopping.{left_loads, left_behind}
use Rattle.job_pool.specs.declared.jobs.PoolJob.{PoolJob}
use Rattle.job_pool.specs.declared.turn.Turn.{Turn}
use Rattle.job_pool.specs.declared.turn.Kill.{Kill}
use Rattle.job_pool.specs.Pools.{PoolPoint, PoolEvent, PoolCourse, turn_event, behind}
use Rattle.job_pool.specs.Schedules.{next_number, next_turn}
use Rattle.job_pool.specs.PoolCourses.{pool_course}
use Rattle.job_pool.specs.Pooled.{IsAtPool, point_behind, behind_effects, IsOnCourse}
use Rattle.job_pool.proofs.NextTurns.{next_none}
use Rattle.job_pool.proofs.CourseLaws.{turn_then, course_goes, course_stops}

joined_effects : (es fs : List Effect) (c : PoolCourse) → behind_effects es (behind_effects fs c) ≡ behind_effects (es ++ fs) c
joined_effects es fs c = ap (λ (l : List Effect). record { effects = l; log = c.log; jobs = c.jobs }) (sym (append_assoc es fs c.effects))

module _ {D E : Type 0} (P : Plant D) (C : Cell E) (s : Scene) (kills : List Kill) (first : ℕ) (p : PoolPoint) (old : D) where
  pub begin_course : (budb : BudbView) (site : E) (jobs : List PoolJob) → P.sound old → (P.tells → IsWithin (state_of P old)) → Fits P old → IsAtPool P C s p budb old site jobs → IsOnCourse P C s kills first p old first budb old site jobs
  begin_course budb site jobs sound within fits at = record {
    effects = [];
    now = p;
    at = at;
    state = refl;
    done = nothing_ahead P old sound within;
    leaves = nothing_left P [] old fits;
    rest = refl;
  }

  module _ (x : ℕ) (budb : BudbView) (mid : D) (site : E) (jobs : List PoolJob) (way : IsOnCourse P C s kills first p old x budb mid site jobs) where
    -- ---- a turn more

    module _ (t : Turn) (next : next_turn kills x jobs ≡ Some t) where
      next_there : next_turn kills x way.now.jobs ≡ Some t
      next_there = ap (next_turn kills x) (sym way.at.jobs) ∙ next

      goes : pool_course s kills x way.now ≡ turn_then (turn_event s way.now t) (pool_course s kills (next_number x) (behind way.now (turn_event s way.now t)))
      goes = course_goes s kills x way.now t next_there

      pub more_course : (budb_then : BudbView) (new : D) (site_then : E) (jobs_then : List PoolJob) → IsAtPool P C s (behind way.now (turn_event s way.now t)) budb_then new site_then jobs_then
          → DoneAhead P (turn_event s way.now t).effects mid new → Leaves P (turn_event s way.now t).effects mid new → IsOnCourse P C s kills first p old (next_number x) budb_then new site_then jobs_then
      more_course budb_then new site_then jobs_then at done leaves = record {
        effects = way.effects ++ (turn_event s way.now t).effects;
        now = behind way.now (turn_event s way.now t);
        at = at;
        state = ap (come (turn_event s way.now t).effects) way.state ∙ sym (come_append way.effects (turn_event s way.now t).effects p.state);
        done = done_ahead_both P way.effects (turn_event s way.now t).effects old mid new way.done done;
        leaves = leaves_ahead P way.effects (turn_event s way.now t).effects [] old mid new way.done way.leaves leaves;
        rest = way.rest ∙ ap (behind_effects way.effects) goes ∙ joined_effects way.effects (turn_event s way.now t).effects (pool_course s kills (next_number x) (behind way.now (turn_event s way.now t)));
      }

      -- a turn that was made in part or whole
      pub leave_course : (new : D) → Leaves P (turn_event s way.now t).effects mid new → Leaves P (pool_course s kills first p).effects old new
      leave_course new leaves =
          let rest : PoolCourse = pool_course s kills (next_number x) (behind way.now (turn_event s way.now t)) in
          let is : (pool_course s kills first p).effects ≡ (way.effects ++ (turn_event s way.now t).effects) ++ rest.effects =
          ap (λ (c : PoolCourse). c.effects) (way.rest ∙ ap (behind_effects way.effects) goes) ∙ sym (append_assoc way.effects (turn_event s way.now t).effects rest.effects) in
          subst (λ (l : List Effect). Leaves P l old new) (sym is)
          (leaves_more P (way.effects ++ (turn_event s way.now t).effects) rest.effects old new (leaves_ahead P way.effects (turn_event s way.now t).effects [] old mid new way.done way.leaves leaves))

    -- no turn more was made, but tapes may have been loaded
    pub idle_course : (new : D) → Loads P mid new → LeftAhead P (pool_course s kills first p).effects old new
    idle_course new loads =
        subst (λ (l : List Effect). LeftAhead P l old new) (sym (ap (λ (c : PoolCourse). c.effects) way.rest))
        (left_behind P way.effects (pool_course s kills x way.now).effects old mid new way.done (left_loads P (pool_course s kills x way.now).effects mid new way.now.state (λ _. way.at.stands.state) loads))

    -- ---- no turn is left

    module _ (none : next_turn kills x jobs ≡ None) where
      ended : pool_course s kills first p ≡ record { effects = way.effects; log = way.now.log; jobs = way.now.jobs }
      ended =
          way.rest
          ∙ ap (behind_effects way.effects) (course_stops s kills x way.now (next_none kills x way.now.jobs (ap (next_turn kills x) (sym way.at.jobs) ∙ none)))
          ∙ ap (λ (l : List Effect). record { effects = l; log = way.now.log; jobs = way.now.jobs }) (append-nil way.effects)

      there : point_behind p (pool_course s kills first p) ≡ way.now
      there = ap (point_behind p) ended ∙ ap (λ (t : State). record { log = way.now.log; state = t; jobs = way.now.jobs }) (sym way.state)

      pub end_course : IsAtPool P C s (point_behind p (pool_course s kills first p)) budb mid site jobs
      end_course = subst (λ (q : PoolPoint). IsAtPool P C s q budb mid site jobs) (sym there) way.at

      pub done_course : DoneAhead P (pool_course s kills first p).effects old mid
      done_course = subst (λ (c : PoolCourse). DoneAhead P c.effects old mid) (sym ended) way.done

      pub left_course : Leaves P (pool_course s kills first p).effects old mid
      left_course = subst (λ (c : PoolCourse). Leaves P c.effects old mid) (sym ended) way.leaves
