-- A group whose dumps have begun and took turns until none ran.
use Rattle.std.proofs.Common.{◌≡◌, ◌≢◌, ℕ, List, [], ◌++◌, refl, sym, ap, subst, ◌∙◌}
use Rattle.std.specs.Prelude.{Result, Ok, Err, OnOk, OnErr}
use Rattle.plant_core.specs.declared.plant.Plant.{Ghosts as Plant}
use Rattle.plant_core.specs.Crashes.{State}
use Rattle.plant_core.specs.Effects.{Effect, come}
use Rattle.plant_effects.specs.Runs.{state_of, Leaves}
use Rattle.plant_effects.proofs.States.{come_append}
use Rattle.plant_effects.proofs.Joining.{leaves_more}
use Rattle.cell_core.specs.declared.cell.Cell.{Ghosts as Cell}
use Rattle.budb_changes.specs.declared.change.Change.{Change}
use Rattle.budb.specs.Views.{BudbView}
use Rattle.budb.specs.Kept.{Keeps}
use Rattle.dump_courses.specs.declared.stop.DumpStop.{DumpStop}
use Rattle.dump_courses.specs.declared.stop.DumpStop.TheVariants as stops
use Rattle.dump_courses.specs.Ahead.{IsAhead, DoneAhead, LeftAhead}
use Rattle.dump_courses.specs.Scenes.{Scene}
use Rattle.dump_courses.proofs.Ahead.{done_ahead_both, leaves_ahead}
use Rattle.dump_courses.proofs.Stopping.{left_behind, left_more, left_whole, stopped_map}
use Rattle.backup_words.specs.declared.command.DumpCommand.{DumpCommand}
use Rattle.dump_commands.specs.Answers.{IsAnswered}
use Rattle.backup_replies.specs.Texts.{ok_line}
use Rattle.job_pool.specs.declared.jobs.PoolJob.{PoolJob}
use Rattle.job_pool.specs.declared.turn.Kill.{Kill as PoolKill}
use Rattle.job_pool.specs.Pools.{PoolPoint, PoolCourse}
use Rattle.job_pool.specs.PoolCourses.{pool_course}
use Rattle.job_pool.specs.Pooled.{IsAtPool, behind_effects}
use Rattle.job_pool.specs.Pooled as pooled
use Rattle.group_commands.specs.declared.began.Began.{Began}
use Rattle.group_commands.specs.declared.told.ToldJob.{ToldJob}
use Rattle.group_commands.specs.Groups.{GroupView}
use Rattle.group_commands.specs.Begins.{first_point, begins, starts_of, point_behind, time_behind, kills_of, group_course}
use Rattle.group_commands.specs.Beginning.{begin_effects}
use Rattle.group_commands.specs.Lines.{held_texts, told_jobs}
use Rattle.group_commands.specs.Answers.{group_answer}
use Rattle.group_commands.specs.Begun.{AreBegun, HasEnded}
use Rattle.group_commands.proofs.StartedGroups.{started_split}
use Rattle.group_commands.proofs.SettledGroups.{answer_settled}

module _ (s : Scene) (g : GroupView) where
  -- the point behind the begins, the kills by the numbers of the pool, and the turns
  abbrev behind_all : PoolPoint
  behind_all = point_behind s (first_point s) g.held

  abbrev pool_kills : List PoolKill
  pool_kills = kills_of (begins s (first_point s) g.held) g.kills

  abbrev turns : PoolCourse
  turns = pool_course s pool_kills g.schedule behind_all

  abbrev whole : PoolCourse
  whole = group_course s pool_kills g.schedule (first_point s) (starts_of s (first_point s) g.held)

  split : whole ≡ behind_effects (begin_effects s (first_point s) g.held) turns
  split = started_split s pool_kills g.schedule g.held (first_point s)

  pub group_effects : (group_answer s g).answer.effects ≡ begin_effects s (first_point s) g.held ++ (pool_course s (kills_of (begins s (first_point s) g.held) g.kills) g.schedule (point_behind s (first_point s) g.held)).effects
  unfolding group_answer
  group_effects = ap (λ (c : PoolCourse). c.effects) split

  group_log : (group_answer s g).answer.log ≡ turns.log
  unfolding group_answer
  group_log = ap (λ (c : PoolCourse). c.log) split

  group_reply : (group_answer s g).answer.reply ≡ held_texts 1 g.held (begins s (first_point s) g.held) whole.jobs ++ ok_line
  unfolding group_answer
  group_reply = refl

  group_jobs : (group_answer s g).jobs ≡ told_jobs 1 (begins s (first_point s) g.held) whole.jobs
  unfolding group_answer
  group_jobs = refl

  module _ {D E : Type 0} (P : Plant D) (C : Cell E) (old mid : D) (site : E) (began : List Began) (time : ℕ) (budb : BudbView) (jobs : List PoolJob) (begun : AreBegun P C s g.held began time budb old mid site jobs) where
    -- the kills are those of what became of the held dumps
    kills_same : kills_of began g.kills ≡ pool_kills
    kills_same = ap (λ (l : List Began). kills_of l g.kills) begun.each

    turns_same : pool_course s (kills_of began g.kills) g.schedule behind_all ≡ turns
    turns_same = ap (λ (l : List PoolKill). pool_course s l g.schedule behind_all) kills_same

    pub turns_leave : (new : D) → Leaves P (pool_course s (kills_of began g.kills) g.schedule (point_behind s (first_point s) g.held)).effects mid new → Leaves P (group_answer s g).answer.effects old new
    turns_leave new leaves =
        subst (λ (l : List Effect). Leaves P l old new) (sym group_effects)
        (leaves_ahead P (begin_effects s (first_point s) g.held) turns.effects [] old mid new begun.done begun.leaves (subst (λ (c : PoolCourse). Leaves P c.effects mid new) turns_same leaves))

    pub turns_stop : (new : D) → LeftAhead P (pool_course s (kills_of began g.kills) g.schedule (point_behind s (first_point s) g.held)).effects mid new → LeftAhead P (group_answer s g).answer.effects old new
    turns_stop new left =
        subst (λ (l : List Effect). LeftAhead P l old new) (sym group_effects)
        (left_behind P (begin_effects s (first_point s) g.held) turns.effects old mid new begun.done (subst (λ (c : PoolCourse). LeftAhead P c.effects mid new) turns_same left))

    module _ (budb_end : BudbView) (new : D) (site_end : E) (jobs_end : List PoolJob)
        (at : IsAtPool P C s (pooled.point_behind behind_all (pool_course s (kills_of began g.kills) g.schedule behind_all)) budb_end new site_end jobs_end)
        (done : DoneAhead P (pool_course s (kills_of began g.kills) g.schedule behind_all).effects mid new) where
      at_end : IsAtPool P C s (pooled.point_behind behind_all turns) budb_end new site_end jobs_end
      at_end = subst (λ (c : PoolCourse). IsAtPool P C s (pooled.point_behind behind_all c) budb_end new site_end jobs_end) turns_same at

      joined : come (group_answer s g).answer.effects s.state ≡ come turns.effects behind_all.state
      joined =
          ap (λ (l : List Effect). come l s.state) group_effects ∙ come_append (begin_effects s (first_point s) g.held) turns.effects s.state
          ∙ ap (come turns.effects) (sym begun.state)

      -- behind the last turn
      pub turns_end : time ≡ (group_answer s g).answer.time → HasEnded P s g began time budb_end old new jobs_end
      turns_end time_is = record {
        each = begun.each;
        all = at_end.jobs ∙ sym (ap (λ (c : PoolCourse). c.jobs) split);
        later = time_is;
        done = subst (λ (l : List Effect). DoneAhead P l old new) (sym group_effects)
            (done_ahead_both P (begin_effects s (first_point s) g.held) turns.effects old mid new begun.done (subst (λ (c : PoolCourse). DoneAhead P c.effects mid new) turns_same done));
        keeps = subst (λ (t : State). Keeps (group_answer s g).answer.log t.log budb_end) (sym joined)
            (subst (λ (l : List Change). Keeps l (come turns.effects behind_all.state).log budb_end) (sym group_log) at_end.stands.keeps);
        state = subst (λ (t : State). IsAhead t (state_of P new)) (sym joined) at_end.stands.state;
      }

  -- the session's time takes in each id that was begun
  pub group_time : (time : ℕ) → time ≡ time_behind s.time (first_point s) (starts_of s (first_point s) g.held) → time ≡ (group_answer s g).answer.time
  unfolding group_answer
  group_time time is = is

  module _ {D : Type 0} (P : Plant D) (began : List Began) (time : ℕ) (budb : BudbView) (old new : D) (jobs : List PoolJob) (ended : HasEnded P s g began time budb old new jobs) where
    pub group_answered : (text : List ℕ) (told_time : ℕ) → text ≡ held_texts 1 g.held began jobs ++ ok_line → told_time ≡ time → IsAnswered P s (group_answer s g).answer budb old new (record { text = text; time = told_time })
    group_answered text told_time text_is time_is = record {
      done = ended.done;
      text = text_is ∙ (λ i. held_texts 1 g.held (ended.each i) (ended.all i) ++ ok_line) ∙ sym group_reply;
      time = time_is ∙ ended.later;
      keeps = ended.keeps;
      state = ended.state;
      settled = answer_settled s g;
    }

    pub group_told : (told : List ToldJob) → told ≡ told_jobs 1 began jobs → told ≡ (group_answer s g).jobs
    group_told told is = is ∙ (λ i. told_jobs 1 (ended.each i) (ended.all i)) ∙ sym group_jobs

    -- the text wasn't told
    pub group_whole : LeftAhead P (group_answer s g).answer.effects old new
    group_whole = left_whole P (group_answer s g).answer.effects old new ended.done

-- ---- as the calls tell it

module _ {D E : Type 0} (P : Plant D) (C : Cell E) (s : Scene) (g : GroupView) (held : List DumpCommand) (held_is : held ≡ g.held) where
  -- the begins alone were made, in part or whole
  pub begins_leave : (old new : D) → Leaves P (begin_effects s (first_point s) held) old new → Leaves P (group_answer s g).answer.effects old new
  begins_leave old new leaves =
      subst (λ (l : List Effect). Leaves P l old new) (sym (group_effects s g))
      (leaves_more P (begin_effects s (first_point s) g.held) (turns s g).effects old new (subst (λ (l : List DumpCommand). Leaves P (begin_effects s (first_point s) l) old new) held_is leaves))

  pub begins_stop : (old new : D) → LeftAhead P (begin_effects s (first_point s) held) old new → LeftAhead P (group_answer s g).answer.effects old new
  begins_stop old new left =
      subst (λ (l : List Effect). LeftAhead P l old new) (sym (group_effects s g))
      (left_more P (begin_effects s (first_point s) g.held) (turns s g).effects old new (subst (λ (l : List DumpCommand). LeftAhead P (begin_effects s (first_point s) l) old new) held_is left))

  module _ (old mid new : D) (site site_end : E) (began : List Began) (time : ℕ) (budb budb_end : BudbView) (jobs jobs_end : List PoolJob) (begun : AreBegun P C s held began time budb old mid site jobs) where
    begun_all : AreBegun P C s g.held began time budb old mid site jobs
    begun_all = subst (λ (l : List DumpCommand). AreBegun P C s l began time budb old mid site jobs) held_is begun

    -- the turns were taken in part or whole
    pub group_left : ((p : PoolPoint) → IsAtPool P C s p budb mid site jobs → Leaves P (pool_course s (kills_of began g.kills) g.schedule p).effects mid new) → Leaves P (group_answer s g).answer.effects old new
    group_left leaves = turns_leave s g P C old mid site began time budb jobs begun_all new (leaves (point_behind s (first_point s) g.held) begun_all.at)

    pub group_stopped : {T : Type 0} (r : Result T DumpStop) → ((p : PoolPoint) → IsAtPool P C s p budb mid site jobs → OnErr r (r ≢ Err stops.Plant → LeftAhead P (pool_course s (kills_of began g.kills) g.schedule p).effects mid new)) → OnErr r (r ≢ Err stops.Plant → LeftAhead P (group_answer s g).answer.effects old new)
    group_stopped r stopped =
        stopped_map stops.Plant r (LeftAhead P (pool_course s (kills_of began g.kills) g.schedule (point_behind s (first_point s) g.held)).effects mid new) (LeftAhead P (group_answer s g).answer.effects old new)
        (turns_stop s g P C old mid site began time budb jobs begun_all new) (stopped (point_behind s (first_point s) g.held) begun_all.at)

    pub group_ran : {T : Type 0} (r : Result T DumpStop) (began_end : List Began) (time_end : ℕ) → began_end ≡ began → time_end ≡ time
        → ((p : PoolPoint) → IsAtPool P C s p budb mid site jobs → OnOk r (IsAtPool P C s (pooled.point_behind p (pool_course s (kills_of began g.kills) g.schedule p)) budb_end new site_end jobs_end))
        → ((p : PoolPoint) → IsAtPool P C s p budb mid site jobs → OnOk r (DoneAhead P (pool_course s (kills_of began g.kills) g.schedule p).effects mid new))
        → OnOk r (HasEnded P s g began_end time_end budb_end old new jobs_end)
    group_ran (Ok x) began_end time_end same later at done =
        subst (λ (x : List Began × ℕ). HasEnded P s g x.0 x.1 budb_end old new jobs_end) (λ i. (sym same i, sym later i))
        (turns_end s g P C old mid site began time budb jobs begun_all budb_end new site_end jobs_end (at (point_behind s (first_point s) g.held) begun_all.at) (done (point_behind s (first_point s) g.held) begun_all.at) (group_time s g time begun_all.later))
    group_ran (Err stop) began_end time_end same later at done = tt
