-- The begins of a group in front of its turns: what they do, and what is so behind them.
use Rattle.std.proofs.Common.{◌≡◌, ℕ, zero, suc, ◌+◌, ◌<◌, ◌≤◌, Some, List, [], ◌∷◌, ◌++◌, length, refl, sym, ap, ◌∙◌, arith, append_assoc, length-append}
use Rattle.std.specs.Prelude.{max, Result, Ok, Err, slice_get}
use Rattle.plant_core.specs.Effects.{Effect, come}
use Rattle.plant_effects.proofs.States.{come_append}
use Rattle.dump_courses.specs.Scenes.{Scene}
use Rattle.backup_words.specs.declared.command.DumpCommand.{DumpCommand}
use Rattle.dump_commands.specs.Starts.{Start, dump_start, start_effects}
use Rattle.job_pool.specs.declared.turn.Kill.{Kill as PoolKill}
use Rattle.job_pool.specs.Pools.{PoolPoint, PoolCourse, behind}
use Rattle.job_pool.specs.PoolCourses.{pool_course}
use Rattle.job_pool.specs.Pooled.{behind_effects}
use Rattle.group_commands.specs.declared.began.Began.{Began}
use Rattle.group_commands.specs.declared.began.Began.TheVariants.{Runs}
use Rattle.group_commands.specs.Begins.{id_in, start_event, group_course, scene_at, behind_begin, began_as, begins, before_starts, starts_of, point_behind, time_behind}
use Rattle.group_commands.specs.Beginning.{begin_effects, time_with}

-- ---- the effects of all begins are in front of the pool's course

abbrev Split : Scene → List PoolKill → ℕ → List DumpCommand → PoolPoint → Type 0
Split s kills x held p = group_course s kills x p (starts_of s p held) ≡ behind_effects (begin_effects s p held) (pool_course s kills x (point_behind s p held))

pub started_split : (s : Scene) (kills : List PoolKill) (x : ℕ) (held : List DumpCommand) (p : PoolPoint) → group_course s kills x p (starts_of s p held) ≡ behind_effects (begin_effects s p held) (pool_course s kills x (point_behind s p held))
started_split s kills x [] p = refl
started_split s kills x (a ∷ held) p = by (dump_start (scene_at s p) a) (λ q. started_split s kills x held q)
  where
    by : (r : Result Start (List ℕ)) → ((q : PoolPoint) → Split s kills x held q)
        → group_course s kills x p (before_starts r (starts_of s (behind_begin p r) held)) ≡ behind_effects (start_effects (scene_at s p) r ++ begin_effects s (behind_begin p r) held) (pool_course s kills x (point_behind s (behind_begin p r) held))
    by (Ok b) rest =
        let q : PoolPoint = behind p (start_event p b) in
        let c : PoolCourse = pool_course s kills x (point_behind s q held) in
        ap (λ (m : PoolCourse). behind_effects (start_event p b).effects m) (rest q)
        ∙ ap (λ (es : List Effect). record { effects = es; log = c.log; jobs = c.jobs }) (sym (append_assoc (start_event p b).effects (begin_effects s q held) c.effects))
    by (Err text) rest = rest p

pub behind_state : (s : Scene) (held : List DumpCommand) (p : PoolPoint) → (point_behind s p held).state ≡ come (begin_effects s p held) p.state
behind_state s [] p = refl
behind_state s (a ∷ held) p = by (dump_start (scene_at s p) a) (λ q. behind_state s held q)
  where
    by : (r : Result Start (List ℕ)) → ((q : PoolPoint) → (point_behind s q held).state ≡ come (begin_effects s q held) q.state)
        → (point_behind s (behind_begin p r) held).state ≡ come (start_effects (scene_at s p) r ++ begin_effects s (behind_begin p r) held) p.state
    by (Ok b) rest =
        let q : PoolPoint = behind p (start_event p b) in
        rest q ∙ sym (come_append (start_event p b).effects (begin_effects s q held) p.state)
    by (Err text) rest = rest p

-- ---- how many

pub begins_length : (s : Scene) (held : List DumpCommand) (p : PoolPoint) → length (begins s p held) ≡ length held
begins_length s [] p = refl
begins_length s (a ∷ held) p = ap suc (begins_length s held (behind_begin p (dump_start (scene_at s p) a)))

-- a begin adds at most one dump
begin_jobs : (p : PoolPoint) (r : Result Start (List ℕ)) → (length p.jobs ≤ length (behind_begin p r).jobs) × (length (behind_begin p r).jobs ≤ length p.jobs + 1)
begin_jobs p (Ok b) = (let more : length (start_event p b).jobs ≡ length p.jobs + 1 = length-append p.jobs _ in (omega (arith, more), omega (arith, more)))
begin_jobs p (Err text) = (omega arith, omega arith)

pub jobs_grow : (s : Scene) (held : List DumpCommand) (p : PoolPoint) → length p.jobs ≤ length (point_behind s p held).jobs
jobs_grow s [] p = omega arith
jobs_grow s (a ∷ held) p =
    let r : Result Start (List ℕ) = dump_start (scene_at s p) a in
    let one = begin_jobs p r in
    let rest = jobs_grow s held (behind_begin p r) in
    omega (arith, one.0, rest)

pub jobs_few : (s : Scene) (held : List DumpCommand) (p : PoolPoint) → length (point_behind s p held).jobs ≤ length p.jobs + length held
jobs_few s [] p = omega arith
jobs_few s (a ∷ held) p =
    let r : Result Start (List ℕ) = dump_start (scene_at s p) a in
    let one = begin_jobs p r in
    let rest = jobs_few s held (behind_begin p r) in
    omega (arith, one.1, rest)

-- ---- each that runs is one of the pool

began_number : (p : PoolPoint) (r : Result Start (List ℕ)) (n : ℕ) → began_as p r ≡ Runs n → n < length (behind_begin p r).jobs
began_number p (Ok b) n is =
    let same : length p.jobs ≡ n = cc in
    let more : length (start_event p b).jobs ≡ length p.jobs + 1 = length-append p.jobs _ in
    omega (arith, same, more)
began_number p (Err text) n is = absurd (cc)

pub begins_within : (s : Scene) (held : List DumpCommand) (p : PoolPoint) (i n : ℕ) → slice_get (begins s p held) i ≡ Some (Runs n) → n < length (point_behind s p held).jobs
begins_within s [] p i n at = absurd (cc)
begins_within s (a ∷ held) p zero n at =
    let r : Result Start (List ℕ) = dump_start (scene_at s p) a in
    let is : began_as p r ≡ Runs n = cc in
    let here = began_number p r n is in
    let rest = jobs_grow s held (behind_begin p r) in
    omega (arith, here, rest)
begins_within s (a ∷ held) p (suc i) n at = begins_within s held (behind_begin p (dump_start (scene_at s p) a)) i n at

-- ---- one held dump more

module _ (s : Scene) (a : DumpCommand) where
  pub point_more : (held : List DumpCommand) (p : PoolPoint) → point_behind s p (held ++ a ∷ []) ≡ behind_begin (point_behind s p held) (dump_start (scene_at s (point_behind s p held)) a)
  point_more [] p = refl
  point_more (b ∷ held) p = point_more held (behind_begin p (dump_start (scene_at s p) b))

  pub begins_more : (held : List DumpCommand) (p : PoolPoint) → begins s p (held ++ a ∷ []) ≡ begins s p held ++ began_as (point_behind s p held) (dump_start (scene_at s (point_behind s p held)) a) ∷ []
  begins_more [] p = refl
  begins_more (b ∷ held) p = ap (λ (l : List Began). began_as p (dump_start (scene_at s p) b) ∷ l) (begins_more held (behind_begin p (dump_start (scene_at s p) b)))

  pub effects_more : (held : List DumpCommand) (p : PoolPoint) → begin_effects s p (held ++ a ∷ []) ≡ begin_effects s p held ++ start_effects (scene_at s (point_behind s p held)) (dump_start (scene_at s (point_behind s p held)) a)
  effects_more [] p = append_nil_of (start_effects (scene_at s p) (dump_start (scene_at s p) a))
    where
      append_nil_of : (es : List Effect) → es ++ [] ≡ es
      append_nil_of [] = refl
      append_nil_of (e ∷ es) = ap (λ (l : List Effect). e ∷ l) (append_nil_of es)
  effects_more (b ∷ held) p =
      let r : Result Start (List ℕ) = dump_start (scene_at s p) b in
      ap (λ (es : List Effect). start_effects (scene_at s p) r ++ es) (effects_more held (behind_begin p r))
      ∙ sym (append_assoc (start_effects (scene_at s p) r) (begin_effects s (behind_begin p r) held) _)

  -- the time takes in the id of each that begins
  pub time_more : (held : List DumpCommand) (time : ℕ) (p : PoolPoint) → time_behind time p (starts_of s p (held ++ a ∷ [])) ≡ time_with (time_behind time p (starts_of s p held)) (point_behind s p held) (dump_start (scene_at s (point_behind s p held)) a)
  time_more [] time p = by (dump_start (scene_at s p) a)
    where
      by : (r : Result Start (List ℕ)) → time_behind time p (before_starts r (starts_of s (behind_begin p r) [])) ≡ time_with time p r
      by (Ok b) = refl
      by (Err text) = refl
  time_more (b ∷ held) time p = by (dump_start (scene_at s p) b) (λ t q. time_more held t q)
    where
      by : (r : Result Start (List ℕ))
          → ((t : ℕ) (q : PoolPoint) → time_behind t q (starts_of s q (held ++ a ∷ [])) ≡ time_with (time_behind t q (starts_of s q held)) (point_behind s q held) (dump_start (scene_at s (point_behind s q held)) a))
          → time_behind time p (before_starts r (starts_of s (behind_begin p r) (held ++ a ∷ []))) ≡ time_with (time_behind time p (before_starts r (starts_of s (behind_begin p r) held))) (point_behind s (behind_begin p r) held) (dump_start (scene_at s (point_behind s (behind_begin p r) held)) a)
      by (Ok c) rest = rest (max time (id_in p.log c)) (behind p (start_event p c))
      by (Err text) rest = rest time p
