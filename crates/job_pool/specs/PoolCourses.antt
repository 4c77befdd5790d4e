-- ALL TURNS of dumps by a schedule, until none runs.
use Rattle.std.specs.Prelude.{ℕ, zero, suc, ◌+◌, List, [], ◌∷◌, Option, Some, None}
use Rattle.cell_core.specs.declared.stored.Stored.{Stored}
use Rattle.dump_courses.specs.Scenes.{Scene}
use Rattle.dump_courses.specs.Courses.{events_left}
use Rattle.job_pool.specs.declared.ends.JobEnd.{JobEnd}
use Rattle.job_pool.specs.declared.jobs.PoolJob.{PoolJob}
use Rattle.job_pool.specs.declared.turn.Turn.{Turn}
use Rattle.job_pool.specs.declared.turn.Kill.{Kill}
use Rattle.job_pool.specs.Pools.{PoolPoint, turn_event, behind, PoolCourse, interleaved}
use Rattle.job_pool.specs.Schedules.{next_number, next_turn}

-- a turn and those at the point behind it; none where no turn is next
abbrev pub and_then : Option Turn → Scene → PoolPoint → (PoolPoint → List Turn) → List Turn
and_then None s p rest = []
and_then (Some t) s p rest = t ∷ rest (behind p (turn_event s p t))

-- at most so many
abbrev pub scheduled : ℕ → Scene → List Kill → ℕ → PoolPoint → List Turn
scheduled zero s kills x p = []
scheduled (suc m) s kills x p = and_then (next_turn kills x p.jobs) s p (scheduled m s kills (next_number x))

-- how many turns a dump takes at most: one more than what is left of it where it runs, 0 where it has ended
abbrev pub turns_for : Option JobEnd → ℕ → ℕ
turns_for None left = suc left
turns_for (Some end) left = 0

-- no more turns than these are left
abbrev pub turns_left : List Stored → List PoolJob → ℕ
turns_left cell [] = 0
turns_left cell (q ∷ jobs) = turns_for q.end (events_left cell q.job) + turns_left cell jobs

-- What comes of dumps by a schedule, until none runs.
unfoldable pub pool_course : Scene → List Kill → ℕ → PoolPoint → PoolCourse
pool_course s kills x p = interleaved s p (scheduled (turns_left s.cell p.jobs) s kills x p)
