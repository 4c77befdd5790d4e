-- A pool of one dump does what its course does.
use Rattle.std.proofs.Common.{zero, suc, ◌≡◌, ℕ, ◌+◌, ◌/◌, ◌%◌, ◌<◌, Bool, true, false, Option, Some, None, List, [], ◌∷◌, ◌++◌, length, refl, sym, ap, subst, ◌∙◌, arith, inl, inr}
use Rattle.std.specs.Prelude.{slice_get}
use Rattle.std.proofs.lemmas.Bool.{cases_Bool, false≢true}
use Rattle.std.proofs.lemmas.Nat.{mod_below}
use Rattle.std.proofs.lemmas.List.{append-nil}
use Rattle.budb_changes.specs.declared.change.Change.{Change}
use Rattle.plant_core.specs.Effects.{Effect}
use Rattle.dump_job.specs.declared.answer.StepAnswer.{StepAnswer}
use Rattle.dump_job.specs.declared.answer.StepAnswer.TheVariants as answers
use Rattle.dump_job.specs.Events.{Event}
use Rattle.dump_courses.specs.Scenes.{Scene}
use Rattle.dump_courses.specs.Courses.{Point, Course, around, next_event, events_left, goes_on, last_event, event_then, course, behind as behind_event}
use Rattle.dump_courses.proofs.CourseLaws.{event_falls, course_more, course_last}
use Rattle.job_pool.specs.declared.ends.JobEnd.{JobEnd}
use Rattle.job_pool.specs.declared.jobs.PoolJob.{PoolJob}
use Rattle.job_pool.specs.declared.turn.Turn.{Turn}
use Rattle.job_pool.specs.declared.turn.Turn.TheVariants as turns
use Rattle.job_pool.specs.declared.turn.Kill.{Kill}
use Rattle.job_pool.specs.Pools.{PoolPoint, PoolEvent, PoolCourse, counted, end_by, turn_event, behind, interleaved}
use Rattle.job_pool.specs.Schedules.{next_number, if_runs, running_from, picked, turn_at, next_turn, AllEnded}
use Rattle.job_pool.specs.PoolCourses.{pool_course}
use Rattle.job_pool.specs.Ones.{alone, IsCourse}
use Rattle.job_pool.proofs.CourseLaws.{turn_then, course_goes, course_stops}

picks_it : (x : ℕ) → picked x (0 ∷ []) ≡ Some 0
picks_it x =
    let some : (x / 65536) % 1 < 1 = mod_below (x / 65536) 1 (omega arith) in
    let first : (x / 65536) % 1 ≡ 0 = omega (arith, some) in
    ap (λ (i : ℕ). slice_get (0 ∷ []) i) first

steps_it : (x : ℕ) (p : Point) (k : ℕ) → next_turn [] x (alone p k).jobs ≡ Some (turns.Step 0)
steps_it x p k = ap (turn_at [] (alone p k).jobs) (picks_it (next_number x))

more_end : (a : StepAnswer) → goes_on a ≡ true → end_by a ≡ None
more_end answers.More more = refl
more_end (answers.Done id) more = absurd (false≢true more)
more_end (answers.Refused fault) more = absurd (false≢true more)
more_end answers.PlantFailed more = absurd (false≢true more)
more_end answers.CellFailed more = absurd (false≢true more)
more_end answers.Memory more = absurd (false≢true more)

last_end : (a : StepAnswer) → goes_on a ≡ false → end_by a ≡ None → ⊥
last_end answers.More last none = absurd (false≢true (sym last))
last_end (answers.Done id) last none = absurd (cc)
last_end (answers.Refused fault) last none = absurd (cc)
last_end answers.PlantFailed last none = absurd (cc)
last_end answers.CellFailed last none = absurd (cc)
last_end answers.Memory last none = absurd (cc)

-- the pool behind its step
then_it : Scene → Point → ℕ → PoolPoint
then_it s p k = behind (alone p k) (turn_event s (alone p k) (turns.Step 0))

goes_first : (s : Scene) (x : ℕ) (p : Point) (k : ℕ) → pool_course s [] x (alone p k) ≡ turn_then (turn_event s (alone p k) (turns.Step 0)) (pool_course s [] (next_number x) (then_it s p k))
unfolding then_it
goes_first s x p k = course_goes s [] x (alone p k) (turns.Step 0) (steps_it x p k)

then_more : (s : Scene) (p : Point) (k : ℕ) → goes_on (next_event s p).answer ≡ true → then_it s p k ≡ alone (behind_event p (next_event s p)) (counted k)
unfolding then_it
then_more s p k more =
    ap (λ (o : Option JobEnd). record { log = (behind_event p (next_event s p)).log; state = (behind_event p (next_event s p)).state; jobs = record { job = (next_event s p).job; steps = counted k; end = o } ∷ [] }) (more_end (next_event s p).answer more)

then_ended : (s : Scene) (p : Point) (k : ℕ) → goes_on (next_event s p).answer ≡ false → AllEnded (then_it s p k).jobs
unfolding then_it
then_ended s p k last zero q at runs = (let same : record { job = (next_event s p).job; steps = counted k; end = end_by (next_event s p).answer } ≡ q = cc in last_end (next_event s p).answer last (ap (λ (x : PoolJob). x.end) same ∙ runs))
then_ended s p k last (suc n) q at runs = absurd (cc)

last_is : (s : Scene) (x : ℕ) (p : Point) (k : ℕ) → goes_on (next_event s p).answer ≡ false → IsCourse (pool_course s [] x (alone p k)) (course s p)
unfolding then_it
last_is s x p k last =
    let stop : pool_course s [] x (alone p k) ≡ turn_then (turn_event s (alone p k) (turns.Step 0)) (record { effects = []; log = (then_it s p k).log; jobs = (then_it s p k).jobs }) =
    goes_first s x p k ∙ ap (turn_then (turn_event s (alone p k) (turns.Step 0))) (course_stops s [] (next_number x) (then_it s p k) (then_ended s p k last)) in
    let by : IsCourse (turn_then (turn_event s (alone p k) (turns.Step 0)) (record { effects = []; log = (then_it s p k).log; jobs = (then_it s p k).jobs })) (last_event p (next_event s p)) =
    record { effects = append-nil (next_event s p).effects; log = refl; job = record { job = (next_event s p).job; steps = counted k; end = end_by (next_event s p).answer }; jobs = refl; end = refl } in
    subst (λ (c : PoolCourse). IsCourse c (course s p)) (sym stop) (subst (IsCourse _) (sym (course_last s p last)) by)

more_is : (s : Scene) (x : ℕ) (p : Point) (k : ℕ) → goes_on (next_event s p).answer ≡ true → IsCourse (pool_course s [] (next_number x) (alone (behind_event p (next_event s p)) (counted k))) (course s (behind_event p (next_event s p))) → IsCourse (pool_course s [] x (alone p k)) (course s p)
more_is s x p k more rest =
    let goes : pool_course s [] x (alone p k) ≡ turn_then (turn_event s (alone p k) (turns.Step 0)) (pool_course s [] (next_number x) (alone (behind_event p (next_event s p)) (counted k))) =
    goes_first s x p k ∙ ap (λ (q : PoolPoint). turn_then (turn_event s (alone p k) (turns.Step 0)) (pool_course s [] (next_number x) q)) (then_more s p k more) in
    let by : IsCourse (turn_then (turn_event s (alone p k) (turns.Step 0)) (pool_course s [] (next_number x) (alone (behind_event p (next_event s p)) (counted k)))) (event_then (next_event s p) (course s (behind_event p (next_event s p)))) =
    record { effects = ap (λ (l : List Effect). (next_event s p).effects ++ l) rest.effects; log = rest.log; job = rest.job; jobs = rest.jobs; end = rest.end } in
    subst (λ (c : PoolCourse). IsCourse c (course s p)) (sym goes) (subst (IsCourse _) (sym (course_more s p more)) by)

within : (m : ℕ) (s : Scene) (x : ℕ) (p : Point) (k : ℕ) → events_left s.cell p.job < m → IsCourse (pool_course s [] x (alone p k)) (course s p)
within zero s x p k few = absurd (omega (arith, few))
within (suc m) s x p k few = elim (cases_Bool (goes_on (next_event s p).answer)) [
  | inl hit ↦
      (let falls : events_left s.cell (next_event s p).job < events_left s.cell p.job = event_falls (around s p) p.job hit in
      more_is s x p k hit (within m s (next_number x) (behind_event p (next_event s p)) (counted k) (omega (arith, falls, few))))
  | inr miss ↦ last_is s x p k miss
]

-- A pool of one dump, which isn't killed, does what its course does, by each schedule.
pub one_is_course : (s : Scene) (x : ℕ) (p : Point) (k : ℕ) → IsCourse (pool_course s [] x (alone p k)) (course s p)
one_is_course s x p k = within (suc (events_left s.cell p.job)) s x p k (omega arith)
