-- What the state of a log says of its file.
use Rattle.std.specs.Prelude.{◌≡◌, ℕ, ◌+◌, ◌≤◌, ◌^◌, if◌then◌else◌, Bool, true, false, not, List, IsTrue}
use Rattle.crash_log.specs.Log.{span, Place, successor}
use Rattle.crash_log.specs.declared.state.LogState.{LogState}
use Rattle.crash_log.specs.declared.state.Needs.{Needs}
use Rattle.crash_log.specs.declared.state.Needs.TheVariants.{Nothing, Blank, Damaged, Stale}

-- the file was damaged, and wasn't formatted since
abbrev pub needs_mending : Needs → Bool
needs_mending Nothing = false
needs_mending Blank = false
needs_mending (Damaged first second) = true
needs_mending Stale = false

-- numbers that each log keeps, also where no contents are told
pub record IsBounded (log : LogState) : Type 0 where
  pub turn : log.turn ≤ 2
  pub low : 8192 ≤ log.start
  pub high : log.start ≤ 2 ^ 40
  pub room : log.size + log.more ≤ 2 ^ 38
  pub limit : log.limit ≤ 2 ^ 36
  pub none : IsTrue (needs_mending log.needs) → log.size + log.more ≡ 0

-- where the current slot begins, and the other one
abbrev pub base_of : LogState → ℕ
base_of log = if log.second then 4096 else 0

-- where the slot begins that isn't the current one: at 0 or 4096
abbrev pub other_of : LogState → ℕ
other_of log = if log.second then 0 else 4096

-- what the current slot's fields say
abbrev pub place_in : LogState → Place
place_in log = record { turn = log.turn; start = log.start; size = log.size }

-- the length of the log with what was put
abbrev pub len_of : LogState → ℕ
len_of log = log.size + log.more

-- the bytes of the log, with what was put since the last commit and without
abbrev pub put_bytes : LogState → List ℕ → List ℕ
put_bytes log file = span log.start (log.size + log.more) file

-- the bytes of the log without what was put since the last commit: those that its current slot names
abbrev pub settled_bytes : LogState → List ℕ → List ℕ
settled_bytes log file = span log.start log.size file

-- once bytes were put
abbrev pub with_more : LogState → ℕ → LogState
with_more log n = record log { needs = Nothing; more = log.more + n }

-- once the other slot is the current one, at this place
abbrev pub moved_to : LogState → Place → LogState
moved_to log p = record log { needs = Nothing; second = not log.second; turn = p.turn; start = p.start; size = p.size; more = 0; other_open = true }

-- the place that a commit of the first n bytes names
abbrev pub place_for : LogState → ℕ → ℕ → Place
place_for log start n = record { turn = successor log.turn; start = start; size = n }

-- as a blank file is formatted, and a damaged one
abbrev pub empty_state : ℕ → ℕ → Needs → LogState
empty_state f limit needs = record { file = f; limit = limit; needs = needs; second = false; turn = 0; start = 8192; size = 0; more = 0; other_open = false }
