-- A turn leaves the tapes of other ports.
use Rattle.std.proofs.Common.{◌≡◌, ℕ, Bool, true, false, Option, Some, None, List, [], ◌∷◌, ◌++◌, length, take, refl, sym, ap, subst, ◌∙◌, arith, inl, inr}
use Rattle.std.specs.Prelude.{◌≤◌, slice_get, ◌==◌, if◌then◌else◌}
use Rattle.std.proofs.lemmas.Bool.{cases_Bool, eqb-true}
use Rattle.std.proofs.lemmas.List.{take_all}
use Rattle.plant_core.specs.Crashes.{State}
use Rattle.plant_core.specs.Effects.{Effect, cuts, come}
use Rattle.dump_job.specs.declared.fields.JobFields.{JobFields}
use Rattle.dump_job.specs.Settling.{last_cut}
use Rattle.dump_courses.specs.Scenes.{Scene}
use Rattle.dump_courses.specs.Courses.{around, next_event}
use Rattle.tape_config.specs.Ports.{IsAmong}
use Rattle.dump_job.specs.Elsewhere.{IsOnPort}
use Rattle.job_pool.specs.declared.ends.JobEnd.{JobEnd}
use Rattle.job_pool.specs.declared.jobs.PoolJob.{PoolJob}
use Rattle.job_pool.specs.declared.turn.Turn.{Turn}
use Rattle.job_pool.specs.declared.turn.Turn.TheVariants.{Step, Kill}
use Rattle.job_pool.specs.Pools.{PoolPoint, PoolEvent, point_of, settling_at, step_event, kill_event, unless_ended, step_at, kill_at, turn_event, behind}
use Rattle.group_commands.proofs.Effects.{event_on, stays_elsewhere}

-- a step leaves each tape that isn't of its port, and how much of it is settled
pub step_elsewhere : (s : Scene) (p : PoolPoint) (n : ℕ) (q : PoolJob) → slice_get p.jobs n ≡ Some q → q.end ≡ None → IsOnPort q.job → (k : ℕ) → (IsAmong q.job.port k → ⊥)
    → ((behind p (turn_event s p (Step n))).state.tape k ≡ p.state.tape k) × ((behind p (turn_event s p (Step n))).state.settled k ≡ p.state.settled k)
step_elsewhere s p n q at runs on k outside =
    let is : turn_event s p (Step n) ≡ step_event s p n q = ap (step_at s p n) at ∙ ap (λ (x : Option JobEnd). unless_ended x p (step_event s p n q)) runs in
    let stays = stays_elsewhere q.job.reel.slot (next_event s (point_of p q)).effects p.state (event_on (around s (point_of p q)) q.job) k (λ same. outside (subst (IsAmong q.job.port) (sym same) on.reel)) in
    subst (λ (e : PoolEvent). ((come e.effects p.state).tape k ≡ p.state.tape k) × ((come e.effects p.state).settled k ≡ p.state.settled k)) (sym is) stays

cut_stays : (c : ℕ) (s : State) (k : ℕ) → (come (cuts c (length (s.tape c)) ∷ []) s).tape k ≡ s.tape k
cut_stays c s k = elim (cases_Bool (k == c)) [
  | inl hit ↦ (let same : k ≡ c = eqb-true k c hit in let long : length (s.tape k) ≤ length (s.tape c) = omega (arith, ap (λ (i : ℕ). length (s.tape i)) same) in rw hit (take_all (length (s.tape c)) (s.tape k) long))
  | inr miss ↦ rw miss refl
]

pub settling_stays : (o : Option ℕ) (s : State) (k : ℕ) → (come (settling_at o s) s).tape k ≡ s.tape k
settling_stays None s k = refl
settling_stays (Some c) s k = cut_stays c s k

-- a kill leaves each tape
pub kill_elsewhere : (s : Scene) (p : PoolPoint) (n : ℕ) (q : PoolJob) → slice_get p.jobs n ≡ Some q → q.end ≡ None → (k : ℕ) → (behind p (turn_event s p (Kill n))).state.tape k ≡ p.state.tape k
kill_elsewhere s p n q at runs k =
    let is : turn_event s p (Kill n) ≡ kill_event p n q = ap (kill_at p n) at ∙ ap (λ (x : Option JobEnd). unless_ended x p (kill_event p n q)) runs in
    subst (λ (e : PoolEvent). (come e.effects p.state).tape k ≡ p.state.tape k) (sym is) (settling_stays (last_cut q.job) p.state k)
