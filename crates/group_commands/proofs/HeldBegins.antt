-- Held dumps that begin, one after the other.
use Rattle.std.proofs.Common.{◌≡◌, ℕ, suc, ◌+◌, ◌<◌, List, [], ◌∷◌, ◌++◌, length, get_or, drop, refl, sym, ap, subst, ◌∙◌, append_assoc, add-one}
use Rattle.std.specs.Prelude.{max, Bool, Some, None, Result, Ok, Err, slice_get}
use Rattle.std.proofs.Math.Seq.{drop-cons}
use Rattle.std.proofs.lemmas.Option.{slice_get-get_or}
use Rattle.std.proofs.lemmas.List.{append-nil}
use Rattle.plant_core.specs.declared.plant.Plant.{Ghosts as Plant}
use Rattle.plant_core.specs.Effects.{Effect, come}
use Rattle.plant_effects.specs.Runs.{state_of, Leaves, StaysQuiet}
use Rattle.plant_effects.proofs.States.{come_append}
use Rattle.plant_effects.proofs.Joining.{Fits, nothing_left, leaves_more}
use Rattle.cell_core.specs.declared.cell.Cell.{Ghosts as Cell}
use Rattle.tape_config.specs.Configs.{Settings}
use Rattle.budb.specs.Views.{BudbView}
use Rattle.budb.specs.Kept.{Keeps}
use Rattle.dump_job.specs.declared.fields.JobFields.{JobFields}
use Rattle.dump_courses.specs.Ahead.{DoneAhead, LeftAhead}
use Rattle.dump_courses.specs.Scenes.{Scene, Finds}
use Rattle.dump_courses.proofs.Ahead.{ahead_both, standing_ahead, done_ahead_both, leaves_ahead}
use Rattle.dump_courses.proofs.Stopping.{left_behind, left_more}
use Rattle.backup_words.specs.declared.command.DumpCommand.{DumpCommand}
use Rattle.dump_commands.specs.Starts.{Start, dump_start, start_effects, Starts}
use Rattle.job_pool.specs.declared.jobs.PoolJob.{PoolJob}
use Rattle.job_pool.specs.Pools.{PoolPoint}
use Rattle.job_pool.specs.Pooled.{IsAtPool}
use Rattle.group_commands.specs.declared.began.Began.{Began}
use Rattle.group_commands.specs.declared.began.Began.TheVariants.{Refused, Runs}
use Rattle.group_commands.specs.Begins.{scene_at, first_point, behind_begin, began_as, begins, before_starts, starts_of, point_behind, time_behind}
use Rattle.group_commands.specs.Beginning.{begin_effects, time_with}
use Rattle.group_commands.specs.Begun.{FindsPool, HasBegun, HasMore, IsOnBegins, AreBegun}

-- ---- one of them

begin_state : (s : Scene) (p : PoolPoint) (r : Result Start (List ℕ)) → (behind_begin p r).state ≡ come (start_effects (scene_at s p) r) p.state
begin_state s p (Ok b) = refl
begin_state s p (Err text) = refl

time_first : (s : Scene) (time : ℕ) (p : PoolPoint) (r : Result Start (List ℕ)) (held : List DumpCommand) → time_behind time p (before_starts r (starts_of s (behind_begin p r) held)) ≡ time_behind (time_with time p r) (behind_begin p r) (starts_of s (behind_begin p r) held)
time_first s time p (Ok b) held = refl
time_first s time p (Err text) held = refl

module _ {D E : Type 0} (P : Plant D) (C : Cell E) (s : Scene) (p : PoolPoint) (used : Settings) (budb budb_after : BudbView) (old new : D) (site : E) (now : ℕ) (jobs : List PoolJob) (finds : FindsPool P C s p used budb old site now jobs) where
  -- the scene at the point is what the begin finds
  pub finds_there : Finds P C (scene_at s p) used budb old site now
  finds_there = record {
    config = finds.config;
    time = finds.time;
    scene = record {
      keeps = finds.at.stands.keeps;
      state = finds.at.stands.state;
      slots = finds.at.stands.slots;
      present = finds.at.stands.present;
      cell = finds.at.stands.cell;
    };
  }

  pub job_begun : (due : Result Start (List ℕ)) (job : JobFields) (number time time_after : ℕ) (jobs_then : List PoolJob) → Starts P C (scene_at s p) due budb budb_after old new site (Ok job)
      → number ≡ length jobs → time_after ≡ max time job.head.id → jobs_then ≡ jobs ++ record { job = job; steps = 0; end = None } ∷ []
      → HasBegun P C s p due (Runs number) time time_after budb_after old new site jobs_then
  job_begun due job number time time_after jobs_then (b, is, started) number_is time_is jobs_are =
      subst (λ (d : Result Start (List ℕ)). HasBegun P C s p d (Runs number) time time_after budb_after old new site jobs_then) (sym is) (record {
        at = record {
          stands = record {
            keeps = started.at.keeps;
            state = started.at.state;
            slots = started.at.slots;
            present = started.at.present;
            cell = started.at.cell;
          };
          jobs = jobs_are ∙ (λ i. finds.at.jobs i ++ record { job = started.at.job i; steps = 0; end = None } ∷ []);
        };
        done = started.done;
        told = ap (λ (n : ℕ). Runs n) (number_is ∙ ap length finds.at.jobs);
        later = time_is ∙ ap (λ (j : JobFields). max time j.head.id) started.at.job;
      })

  pub text_told : P.tells → StaysQuiet P old new → (due : Result Start (List ℕ)) (text : List ℕ) (time : ℕ) → Starts P C (scene_at s p) due budb budb_after old new site (Err text) → HasBegun P C s p due (Refused text) time time budb_after old new site jobs
  text_told told stays due text time (is, same, done) =
      subst (λ (d : Result Start (List ℕ)). HasBegun P C s p d (Refused text) time time budb_after old new site jobs) (sym is) (record {
        at = record {
          stands = record {
            keeps = subst (λ (b : BudbView). Keeps p.log p.state.log b) (sym same) finds.at.stands.keeps;
            state = ahead_both p.state (state_of P old) (state_of P new) finds.at.stands.state (done.state told);
            slots = stays.stays.slots ∙ finds.at.stands.slots;
            present = λ k. ap (λ (f : ℕ → Bool). f k) stays.stays.present ∙ finds.at.stands.present k;
            cell = finds.at.stands.cell;
          };
          jobs = finds.at.jobs;
        };
        done = done;
        told = refl;
        later = refl;
      })

-- ---- all of them

module _ {D E : Type 0} (P : Plant D) (C : Cell E) (s : Scene) (held : List DumpCommand) (old : D) (site : E) where
  pub no_begins : (used : Settings) (now : ℕ) (budb : BudbView) (began : List Began) (time : ℕ) (jobs : List PoolJob) → P.sound old → Fits P old → Finds P C s used budb old site now → began ≡ [] → time ≡ now → jobs ≡ []
      → IsOnBegins P C s held 0 old began time budb old site jobs
  no_begins used now budb began time jobs sound fits finds none is empty = record {
    effects = [];
    now = first_point s;
    at = record {
      stands = record {
        keeps = finds.scene.keeps;
        state = finds.scene.state;
        slots = finds.scene.slots;
        present = finds.scene.present;
        cell = finds.scene.cell;
      };
      jobs = empty;
    };
    state = refl;
    done = standing_ahead P old s.state sound (λ _. finds.scene.state);
    leaves = nothing_left P [] old fits;
    began_rest = ap (λ (l : List Began). l ++ begins s (first_point s) held) (sym none);
    effects_rest = refl;
    point_rest = refl;
    time_rest = ap (λ (t : ℕ). time_behind t (first_point s) (starts_of s (first_point s) held)) (sym (is ∙ finds.time));
  }

  module _ (count : ℕ) (began : List Began) (time : ℕ) (budb : BudbView) (mid : D) (jobs : List PoolJob) (way : IsOnBegins P C s held count old began time budb mid site jobs) where
    -- the rest is found where the configuration and the time are those of the scene
    pub finds_next : (used : Settings) (now : ℕ) → used ≡ s.config → now ≡ s.time → FindsPool P C s way.now used budb mid site now jobs
    finds_next used now config is = record { config = config; time = is; at = way.at }

    module _ (a : DumpCommand) (next : ℕ) (there : drop count held ≡ a ∷ drop next held) where
      abbrev due : Result Start (List ℕ)
      due = dump_start (scene_at s way.now) a

      effects_more : begin_effects s (first_point s) held ≡ (way.effects ++ start_effects (scene_at s way.now) due) ++ begin_effects s (behind_begin way.now due) (drop next held)
      effects_more =
          way.effects_rest ∙ ap (λ (l : List DumpCommand). way.effects ++ begin_effects s way.now l) there
          ∙ sym (append_assoc way.effects (start_effects (scene_at s way.now) due) (begin_effects s (behind_begin way.now due) (drop next held)))

      pub more_begins : (began_after : List Began) (time_after : ℕ) (budb_after : BudbView) (new : D) (jobs_then : List PoolJob) → HasMore P C s way.now due began began_after time time_after budb_after mid new site jobs_then
          → Leaves P (start_effects (scene_at s way.now) due) mid new → IsOnBegins P C s held next old began_after time_after budb_after new site jobs_then
      more_begins began_after time_after budb_after new jobs_then has leaves =
          let rest : List Began = begins s (behind_begin way.now due) (drop next held) in
          record {
            effects = way.effects ++ start_effects (scene_at s way.now) due;
            now = behind_begin way.now due;
            at = has.begun.at;
            state = begin_state s way.now due ∙ ap (come (start_effects (scene_at s way.now) due)) way.state ∙ sym (come_append way.effects (start_effects (scene_at s way.now) due) s.state);
            done = done_ahead_both P way.effects (start_effects (scene_at s way.now) due) old mid new way.done has.begun.done;
            leaves = leaves_ahead P way.effects (start_effects (scene_at s way.now) due) [] old mid new way.done way.leaves leaves;
            began_rest =
                way.began_rest ∙ ap (λ (l : List DumpCommand). began ++ begins s way.now l) there
                ∙ sym (append_assoc began (began_as way.now due ∷ []) rest)
                ∙ ap (λ (x : Began). (began ++ x ∷ []) ++ rest) (sym has.begun.told)
                ∙ ap (λ (l : List Began). l ++ rest) (sym has.more);
            effects_rest = effects_more;
            point_rest = way.point_rest ∙ ap (point_behind s way.now) there;
            time_rest =
                way.time_rest ∙ ap (λ (l : List DumpCommand). time_behind time way.now (starts_of s way.now l)) there
                ∙ time_first s time way.now due (drop next held)
                ∙ ap (λ (t : ℕ). time_behind t (behind_begin way.now due) (starts_of s (behind_begin way.now due) (drop next held))) (sym has.begun.later);
          }

      -- a begin that was made in part or whole
      pub leave_begins : (new : D) → Leaves P (start_effects (scene_at s way.now) due) mid new → Leaves P (begin_effects s (first_point s) held) old new
      leave_begins new leaves =
          let rest : List Effect = begin_effects s (behind_begin way.now due) (drop next held) in
          subst (λ (l : List Effect). Leaves P l old new) (sym effects_more)
          (leaves_more P (way.effects ++ start_effects (scene_at s way.now) due) rest old new (leaves_ahead P way.effects (start_effects (scene_at s way.now) due) [] old mid new way.done way.leaves leaves))

      pub stop_begins : (new : D) → LeftAhead P (start_effects (scene_at s way.now) due) mid new → LeftAhead P (begin_effects s (first_point s) held) old new
      stop_begins new left =
          let rest : List Effect = begin_effects s (behind_begin way.now due) (drop next held) in
          subst (λ (l : List Effect). LeftAhead P l old new) (sym effects_more)
          (left_more P (way.effects ++ start_effects (scene_at s way.now) due) rest old new (left_behind P way.effects (start_effects (scene_at s way.now) due) old mid new way.done left))

    module _ (none : drop count held ≡ []) where
      all_effects : begin_effects s (first_point s) held ≡ way.effects
      all_effects = way.effects_rest ∙ ap (λ (l : List DumpCommand). way.effects ++ begin_effects s way.now l) none ∙ append-nil way.effects

      all_point : point_behind s (first_point s) held ≡ way.now
      all_point = way.point_rest ∙ ap (point_behind s way.now) none

      pub all_begun : AreBegun P C s held began time budb old mid site jobs
      all_begun = record {
        at = subst (λ (p : PoolPoint). IsAtPool P C s p budb mid site jobs) (sym all_point) way.at;
        state = ap (λ (p : PoolPoint). p.state) all_point ∙ way.state ∙ ap (λ (l : List Effect). come l s.state) (sym all_effects);
        done = subst (λ (l : List Effect). DoneAhead P l old mid) (sym all_effects) way.done;
        leaves = subst (λ (l : List Effect). Leaves P l old mid) (sym all_effects) way.leaves;
        each = sym (way.began_rest ∙ ap (λ (l : List DumpCommand). began ++ begins s way.now l) none ∙ append-nil began);
        later = sym (way.time_rest ∙ ap (λ (l : List DumpCommand). time_behind time way.now (starts_of s way.now l)) none);
      }

-- ---- the held dump at a place

pub held_at : (held : List DumpCommand) (i : ℕ) (a : DumpCommand) → i < length held → a ≡ get_or held i a → slice_get held i ≡ Some a
held_at held i a below is = slice_get-get_or held i a below ∙ ap (λ (x : DumpCommand). Some x) (sym is)

pub held_drop : (held : List DumpCommand) (i : ℕ) (a : DumpCommand) → i < length held → a ≡ get_or held i a → drop i held ≡ a ∷ drop (i + 1) held
held_drop held i a below is =
    drop-cons held i a below
    ∙ ap (λ (x : DumpCommand). x ∷ drop (suc i) held) (sym is)
    ∙ ap (λ (k : ℕ). a ∷ drop k held) (sym (add-one i))
