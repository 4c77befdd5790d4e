-- A SCHEDULE: whose turn is next, and which turn is a kill.
use Rattle.std.specs.Prelude.{ℕ, suc, ◌≡◌, ◌+◌, ◌*◌, ◌/◌, ◌%◌, ◌==◌, ◌&&◌, if◌then◌else◌, List, [], ◌∷◌, length, Option, Some, None, slice_get}
use Rattle.std.specs.List.{list_any}
use Rattle.job_pool.specs.declared.ends.JobEnd.{JobEnd}
use Rattle.job_pool.specs.declared.jobs.PoolJob.{PoolJob}
use Rattle.job_pool.specs.declared.turn.Turn.{Turn}
use Rattle.job_pool.specs.declared.turn.Turn.TheVariants as turns
use Rattle.job_pool.specs.declared.turn.Kill.{Kill}

-- the number behind this one, by which the next turn is told
unfoldable pub next_number : ℕ → ℕ
next_number x = (x * 1103515245 + 12345) % 2147483648

-- ---- whose turn is next

-- the number of a dump in front of these numbers, where it runs
abbrev pub if_runs : Option JobEnd → ℕ → List ℕ → List ℕ
if_runs None n rest = n ∷ rest
if_runs (Some end) n rest = rest

-- the numbers of the dumps that run, in their order, the first one's being this
abbrev pub running_from : ℕ → List PoolJob → List ℕ
running_from n [] = []
running_from n (q ∷ jobs) = if_runs q.end n (running_from (suc n) jobs)

-- one of these by a number
abbrev pub picked : ℕ → List ℕ → Option ℕ
picked x [] = None
picked x (n ∷ ns) = slice_get (n ∷ ns) ((x / 65536) % length (n ∷ ns))

-- whose turn it is
abbrev pub number_of : Turn → ℕ
number_of (turns.Step n) = n
number_of (turns.Kill n) = n

-- the turn of a dump that runs: its kill, where one names it behind its steps, else its next step
abbrev pub turn_for : List Kill → ℕ → PoolJob → Turn
turn_for kills n q = if list_any (λ k. (k.job == n) && (k.after == q.steps)) kills then turns.Kill n else turns.Step n

-- the turn of a dump of this number, where there is one; else `None`
abbrev pub turn_of : List Kill → ℕ → Option PoolJob → Option Turn
turn_of kills n None = None
turn_of kills n (Some q) = Some (turn_for kills n q)

-- the turn of the dump whose number is picked; `None` where no number is, or no dump has it
abbrev pub turn_at : List Kill → List PoolJob → Option ℕ → Option Turn
turn_at kills jobs None = None
turn_at kills jobs (Some n) = turn_of kills n (slice_get jobs n)

-- the next turn, where a dump runs
abbrev pub next_turn : List Kill → ℕ → List PoolJob → Option Turn
next_turn kills x jobs = turn_at kills jobs (picked (next_number x) (running_from 0 jobs))

-- none of these dumps runs
abbrev pub AllEnded : List PoolJob → Type 0
AllEnded jobs = (n : ℕ) (q : PoolJob) → slice_get jobs n ≡ Some q → q.end ≡ None → ⊥
