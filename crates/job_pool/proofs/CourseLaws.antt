-- The turns of a schedule end, and no dump runs behind them.
use Rattle.std.proofs.Common.{zero, suc, ◌≡◌, ℕ, ◌+◌, ◌/◌, ◌%◌, ◌<◌, ◌≤◌, List, [], ◌∷◌, ◌++◌, length, Bool, true, false, inl, inr, refl, sym, ◌∙◌, ap, subst, arith}
use Rattle.std.specs.Prelude.{◌==◌, ◌&&◌, if◌then◌else◌, Option, Some, None, slice_get}
use Rattle.std.specs.List.{list_any}
use Rattle.std.proofs.lemmas.Bool.{cases_Bool}
use Rattle.std.proofs.lemmas.Nat.{mod_below}
use Rattle.std.proofs.lemmas.Option.{slice_get-get_or}
use Rattle.std.proofs.Common.{get_or}
use Rattle.cell_core.specs.declared.stored.Stored.{Stored}
use Rattle.dump_job.specs.declared.answer.StepAnswer.{StepAnswer}
use Rattle.dump_job.specs.declared.answer.StepAnswer.TheVariants as answers
use Rattle.dump_job.specs.Events.{Event}
use Rattle.dump_courses.specs.Scenes.{Scene}
use Rattle.dump_courses.specs.Courses.{around, next_event, events_left, goes_on}
use Rattle.dump_courses.proofs.CourseLaws.{event_falls}
use Rattle.job_pool.specs.declared.ends.JobEnd.{JobEnd}
use Rattle.job_pool.specs.declared.jobs.PoolJob.{PoolJob}
use Rattle.job_pool.specs.declared.turn.Turn.{Turn}
use Rattle.job_pool.specs.declared.turn.Turn.TheVariants as turns
use Rattle.job_pool.specs.declared.turn.Kill.{Kill}
use Rattle.job_pool.specs.Pools.{PoolPoint, PoolEvent, point_of, with_job, end_by, stepped, killed, step_event, kill_event, unless_ended, step_at, kill_at, turn_event, behind, PoolCourse, interleaved}
use Rattle.job_pool.specs.Schedules.{next_number, if_runs, running_from, picked, turn_for, turn_of, turn_at, next_turn, AllEnded}
use Rattle.job_pool.proofs.NextTurns.{IsNext, next_none, next_some}
use Rattle.job_pool.specs.PoolCourses.{and_then, scheduled, turns_for, turns_left, pool_course}

-- ---- a turn of a dump that runs leaves fewer

-- a dump that has fewer turns left in the place of one that runs
fewer : (cell : List Stored) (jobs : List PoolJob) (n : ℕ) (q r : PoolJob) → slice_get jobs n ≡ Some q → q.end ≡ None → turns_for r.end (events_left cell r.job) < suc (events_left cell q.job) → turns_left cell (with_job n r jobs) < turns_left cell jobs
fewer cell [] n q r at runs less = absurd (cc)
fewer cell (p ∷ jobs) zero q r at runs less =
    let same : p ≡ q = cc in
    let left : turns_for p.end (events_left cell p.job) ≡ suc (events_left cell q.job) = ap (λ (x : PoolJob). turns_for x.end (events_left cell x.job)) same ∙ ap (λ (e : Option JobEnd). turns_for e (events_left cell q.job)) runs in
    omega (arith, left, less)
fewer cell (p ∷ jobs) (suc n) q r at runs less =
    let rest : turns_left cell (with_job n r jobs) < turns_left cell jobs = fewer cell jobs n q r at runs less in
    omega (arith, rest)

by_answer : (answer : StepAnswer) (new old : ℕ) → (goes_on answer ≡ true → new < old) → turns_for (end_by answer) new < suc old
by_answer answers.More new old less = (let falls : new < old = less refl in omega (arith, falls))
by_answer (answers.Done id) new old less = omega arith
by_answer (answers.Refused fault) new old less = omega arith
by_answer answers.PlantFailed new old less = omega arith
by_answer answers.CellFailed new old less = omega arith
by_answer answers.Memory new old less = omega arith

step_fewer : (s : Scene) (p : PoolPoint) (n : ℕ) (q : PoolJob) → slice_get p.jobs n ≡ Some q → q.end ≡ None → turns_left s.cell (turn_event s p (turns.Step n)).jobs < turns_left s.cell p.jobs
step_fewer s p n q at runs =
    let e : Event = next_event s (point_of p q) in
    let less : turns_left s.cell (step_event s p n q).jobs < turns_left s.cell p.jobs =
    fewer s.cell p.jobs n q (stepped q e) at runs (by_answer e.answer (events_left s.cell e.job) (events_left s.cell q.job) (event_falls (around s (point_of p q)) q.job)) in
    let is : turn_event s p (turns.Step n) ≡ step_event s p n q = ap (step_at s p n) at ∙ ap (λ (x : Option JobEnd). unless_ended x p (step_event s p n q)) runs in
    subst (λ (x : PoolEvent). turns_left s.cell x.jobs < turns_left s.cell p.jobs) (sym is) less

kill_fewer : (s : Scene) (p : PoolPoint) (n : ℕ) (q : PoolJob) → slice_get p.jobs n ≡ Some q → q.end ≡ None → turns_left s.cell (turn_event s p (turns.Kill n)).jobs < turns_left s.cell p.jobs
kill_fewer s p n q at runs =
    let some : 0 < suc (events_left s.cell q.job) = omega arith in
    let less : turns_left s.cell (kill_event p n q).jobs < turns_left s.cell p.jobs = fewer s.cell p.jobs n q (killed q) at runs some in
    let is : turn_event s p (turns.Kill n) ≡ kill_event p n q = ap (kill_at p n) at ∙ ap (λ (x : Option JobEnd). unless_ended x p (kill_event p n q)) runs in
    subst (λ (x : PoolEvent). turns_left s.cell x.jobs < turns_left s.cell p.jobs) (sym is) less

one_fewer : (s : Scene) (p : PoolPoint) (n : ℕ) (q : PoolJob) (b : Bool) → slice_get p.jobs n ≡ Some q → q.end ≡ None → turns_left s.cell (turn_event s p (if b then turns.Kill n else turns.Step n)).jobs < turns_left s.cell p.jobs
one_fewer s p n q true at runs = kill_fewer s p n q at runs
one_fewer s p n q false at runs = step_fewer s p n q at runs

-- ---- the next turn

next_fewer : (s : Scene) (p : PoolPoint) (kills : List Kill) (t : Turn) → IsNext kills p.jobs t → turns_left s.cell (turn_event s p t).jobs < turns_left s.cell p.jobs
next_fewer s p kills t x =
    let less = one_fewer s p x.number x.job (list_any (λ k. (k.job == x.number) && (k.after == x.job.steps)) kills) x.at x.runs in
    subst (λ (u : Turn). turns_left s.cell (turn_event s p u).jobs < turns_left s.cell p.jobs) (sym x.is) less

-- ---- all turns

some_left : (cell : List Stored) (jobs : List PoolJob) (n : ℕ) (q : PoolJob) → slice_get jobs n ≡ Some q → q.end ≡ None → 0 < turns_left cell jobs
some_left cell [] n q at runs = absurd (cc)
some_left cell (p ∷ jobs) zero q at runs =
    let same : p ≡ q = cc in
    let left : turns_for p.end (events_left cell p.job) ≡ suc (events_left cell q.job) = ap (λ (x : PoolJob). turns_for x.end (events_left cell x.job)) same ∙ ap (λ (e : Option JobEnd). turns_for e (events_left cell q.job)) runs in
    omega (arith, left)
some_left cell (p ∷ jobs) (suc n) q at runs =
    let rest : 0 < turns_left cell jobs = some_left cell jobs n q at runs in
    omega (arith, rest)

-- none runs behind so many turns as are left
pub ends_within : (m : ℕ) (s : Scene) (kills : List Kill) (x : ℕ) (p : PoolPoint) → turns_left s.cell p.jobs ≤ m → AllEnded (interleaved s p (scheduled m s kills x p)).jobs
ends_within zero s kills x p within = λ n q at runs.
    let some : 0 < turns_left s.cell p.jobs = some_left s.cell p.jobs n q at runs in
    absurd (omega (arith, some, within))
ends_within (suc m) s kills x p within = by (next_turn kills x p.jobs) refl (λ t fewer. ends_within m s kills (next_number x) (behind p (turn_event s p t)) fewer)
  where
    by : (o : Option Turn) → next_turn kills x p.jobs ≡ o → ((t : Turn) → turns_left s.cell (turn_event s p t).jobs ≤ m → AllEnded (interleaved s (behind p (turn_event s p t)) (scheduled m s kills (next_number x) (behind p (turn_event s p t)))).jobs)
        → AllEnded (interleaved s p (and_then o s p (scheduled m s kills (next_number x)))).jobs
    by None is rest = next_none kills x p.jobs is
    by (Some t) is rest = (let less = next_fewer s p kills t (next_some kills x p.jobs t is) in rest t (omega (arith, less, within)))

pub course_ends : (s : Scene) (kills : List Kill) (x : ℕ) (p : PoolPoint) → AllEnded (pool_course s kills x p).jobs
unfolding pool_course
course_ends s kills x p = ends_within (turns_left s.cell p.jobs) s kills x p (omega arith)

-- ---- turn by turn

-- a dump that runs takes a turn
next_given : (kills : List Kill) (x : ℕ) (jobs : List PoolJob) (n : ℕ) (q : PoolJob) → slice_get jobs n ≡ Some q → q.end ≡ None → next_turn kills x jobs ≡ None → ⊥
next_given kills x jobs n q at runs none = next_none kills x jobs none n q at runs

none_within : (s : Scene) (p : PoolPoint) (kills : List Kill) (x : ℕ) → turns_left s.cell p.jobs ≤ 0 → next_turn kills x p.jobs ≡ None
none_within s p kills x none = by (next_turn kills x p.jobs) refl
  where
    by : (o : Option Turn) → next_turn kills x p.jobs ≡ o → next_turn kills x p.jobs ≡ None
    by None is = is
    by (Some t) is = (let less = next_fewer s p kills t (next_some kills x p.jobs t is) in absurd (omega (arith, less, none)))

-- It doesn't depend on the bound, once that is large enough.
enough : (m n : ℕ) (s : Scene) (kills : List Kill) (x : ℕ) (p : PoolPoint) → turns_left s.cell p.jobs ≤ m → turns_left s.cell p.jobs ≤ n → scheduled m s kills x p ≡ scheduled n s kills x p
enough zero zero s kills x p one other = refl
enough zero (suc n) s kills x p one other = sym (ap (λ (o : Option Turn). and_then o s p (scheduled n s kills (next_number x))) (none_within s p kills x one))
enough (suc m) zero s kills x p one other = ap (λ (o : Option Turn). and_then o s p (scheduled m s kills (next_number x))) (none_within s p kills x other)
enough (suc m) (suc n) s kills x p one other = by (next_turn kills x p.jobs) refl (λ q less more. enough m n s kills (next_number x) q less more)
  where
    by : (o : Option Turn) → next_turn kills x p.jobs ≡ o → ((q : PoolPoint) → turns_left s.cell q.jobs ≤ m → turns_left s.cell q.jobs ≤ n → scheduled m s kills (next_number x) q ≡ scheduled n s kills (next_number x) q)
        → and_then o s p (scheduled m s kills (next_number x)) ≡ and_then o s p (scheduled n s kills (next_number x))
    by None is rest = refl
    by (Some t) is rest =
        let less = next_fewer s p kills t (next_some kills x p.jobs t is) in
        ap (λ (l : List Turn). t ∷ l) (rest (behind p (turn_event s p t)) (omega (arith, less, one)) (omega (arith, less, other)))

-- a turn, and then the rest
abbrev pub turn_then : PoolEvent → PoolCourse → PoolCourse
turn_then e c = record { effects = e.effects ++ c.effects; log = c.log; jobs = c.jobs }

pub course_goes : (s : Scene) (kills : List Kill) (x : ℕ) (p : PoolPoint) (t : Turn) → next_turn kills x p.jobs ≡ Some t → pool_course s kills x p ≡ turn_then (turn_event s p t) (pool_course s kills (next_number x) (behind p (turn_event s p t)))
unfolding pool_course
course_goes s kills x p t is =
    let less = next_fewer s p kills t (next_some kills x p.jobs t is) in
    let q : PoolPoint = behind p (turn_event s p t) in
    let more : scheduled (turns_left s.cell p.jobs) s kills x p ≡ scheduled (suc (turns_left s.cell p.jobs)) s kills x p = enough (turns_left s.cell p.jobs) (suc (turns_left s.cell p.jobs)) s kills x p (omega arith) (omega arith) in
    let rest : scheduled (turns_left s.cell p.jobs) s kills (next_number x) q ≡ scheduled (turns_left s.cell q.jobs) s kills (next_number x) q = enough (turns_left s.cell p.jobs) (turns_left s.cell q.jobs) s kills (next_number x) q (omega (arith, less)) (omega arith) in
    ap (interleaved s p) more
    ∙ ap (λ (o : Option Turn). interleaved s p (and_then o s p (scheduled (turns_left s.cell p.jobs) s kills (next_number x)))) is
    ∙ ap (λ (l : List Turn). turn_then (turn_event s p t) (interleaved s q l)) rest

pub course_stops : (s : Scene) (kills : List Kill) (x : ℕ) (p : PoolPoint) → AllEnded p.jobs → pool_course s kills x p ≡ record { effects = []; log = p.log; jobs = p.jobs }
unfolding pool_course
course_stops s kills x p ended = by (next_turn kills x p.jobs) refl
  where
    by : (o : Option Turn) → next_turn kills x p.jobs ≡ o → interleaved s p (scheduled (turns_left s.cell p.jobs) s kills x p) ≡ record { effects = []; log = p.log; jobs = p.jobs }
    by None is = ap (interleaved s p) (enough (turns_left s.cell p.jobs) (suc (turns_left s.cell p.jobs)) s kills x p (omega arith) (omega arith) ∙ ap (λ (o : Option Turn). and_then o s p (scheduled (turns_left s.cell p.jobs) s kills (next_number x))) is)
    by (Some t) is = (let x = next_some kills x p.jobs t is in absurd (ended x.number x.job x.at x.runs))
