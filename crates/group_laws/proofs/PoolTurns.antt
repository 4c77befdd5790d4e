-- A turn is a step or a kill of a dump that runs, or changes nothing.
use Rattle.std.proofs.Common.{◌≡◌, ℕ, Option, Some, None, refl}
use Rattle.std.specs.Prelude.{slice_get}
use Rattle.dump_courses.specs.Scenes.{Scene}
use Rattle.job_pool.specs.declared.ends.JobEnd.{JobEnd}
use Rattle.job_pool.specs.declared.jobs.PoolJob.{PoolJob}
use Rattle.job_pool.specs.declared.turn.Turn.{Turn}
use Rattle.job_pool.specs.declared.turn.Turn.TheVariants.{Step, Kill}
use Rattle.job_pool.specs.Pools.{PoolPoint, PoolEvent, nothing_done, step_event, kill_event, unless_ended, step_at, kill_at, turn_event}

-- the dump at a number runs
abbrev pub Runs : PoolPoint → ℕ → PoolJob → Type 0
Runs p n q = (slice_get p.jobs n ≡ Some q) × (q.end ≡ None)

module _ (s : Scene) (p : PoolPoint) (Q : PoolEvent → Type 0) (nothing : Q (nothing_done p)) (step : (n : ℕ) (q : PoolJob) → Runs p n q → Q (step_event s p n q)) (kill : (n : ℕ) (q : PoolJob) → Runs p n q → Q (kill_event p n q)) where
  by_end : (n : ℕ) (q : PoolJob) (o : Option JobEnd) (e : PoolEvent) → slice_get p.jobs n ≡ Some q → q.end ≡ o → (Runs p n q → Q e) → Q (unless_ended o p e)
  by_end n q None e at runs then = then (at, runs)
  by_end n q (Some end) e at runs then = nothing

  by_step : (n : ℕ) (o : Option PoolJob) → slice_get p.jobs n ≡ o → Q (step_at s p n o)
  by_step n None at = nothing
  by_step n (Some q) at = by_end n q q.end (step_event s p n q) at refl (step n q)

  by_kill : (n : ℕ) (o : Option PoolJob) → slice_get p.jobs n ≡ o → Q (kill_at p n o)
  by_kill n None at = nothing
  by_kill n (Some q) at = by_end n q q.end (kill_event p n q) at refl (kill n q)

  pub by_turn : (t : Turn) → Q (turn_event s p t)
  by_turn (Step n) = by_step n (slice_get p.jobs n) refl
  by_turn (Kill n) = by_kill n (slice_get p.jobs n) refl
