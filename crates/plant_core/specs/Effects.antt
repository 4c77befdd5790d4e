-- What is done to a plant, one effect after the other, and what a crash on the way may leave.
use Rattle.std.specs.Prelude.{ℕ, ◌≤◌, List, [], ◌∷◌, ◌++◌, length, take, Option, Some, None, if◌then◌else◌, ◌==◌}
use Rattle.crash_moments.specs.Telling.{Extends}
use Rattle.plant_core.specs.Crashes.{State, LeftIn}
use Rattle.plant_core.specs.Records.{Record}
use Rattle.plant_core.specs.Stock.{Stock}

-- One effect on a plant: bytes appended to the log by one commit, or made the whole log; a text told whole; a record put on the
-- tape of a slot, the tape settled, the tape cut to its first records, settled.
pub data Effect : Type 0 where
  commits : List ℕ → Effect
  replaces : List ℕ → Effect
  tells : List ℕ → Effect
  puts : ℕ → Record → Effect
  settles : ℕ → Effect
  cuts : ℕ → ℕ → Effect

-- bytes put behind the log, which wait for a commit
abbrev pub log_with : List ℕ → State → State
log_with bytes s = record s { log = s.log ++ bytes }

-- the log settled whole
abbrev pub log_kept : State → State
log_kept s = record s { log_settled = length s.log }

-- what an effect makes of a state
abbrev pub comes : Effect → State → State
comes (commits bytes) s = log_kept (log_with bytes s)
comes (replaces bytes) s = record s { log = bytes; log_settled = length bytes }
comes (tells text) s = record s { told = s.told ++ text }
comes (puts k r) s = record s { tape = λ j. if j == k then s.tape j ++ r ∷ [] else s.tape j }
comes (settles k) s = record s { settled = λ j. if j == k then length (s.tape j) else s.settled j }
comes (cuts k n) s = record s {
  tape = λ j. if j == k then take n (s.tape j) else s.tape j;
  settled = λ j. if j == k then length (take n (s.tape j)) else s.settled j;
}

-- what these effects make of it, one after the other
abbrev pub come : List Effect → State → State
come [] s = s
come (e ∷ es) s = come es (comes e s)

-- what is told by these effects
abbrev pub told_by : List Effect → List ℕ
told_by [] = []
told_by (tells text ∷ es) = text ++ told_by es
told_by (e ∷ es) = told_by es

-- A load puts the loaded tape away, where it is another one: what was put on it is settled.
abbrev pub putting_away : Option ℕ → ℕ → List Effect
putting_away None slot = []
putting_away (Some k) slot = if k == slot then [] else settles k ∷ []

-- The one promise on crashes. An image is what the crash model leaves after the first effects of a list, for ONE count of them: its
-- log, its tapes and what it was told all belong to the same moment. What it was told has only grown.
pub record Joint (start : State) (effects : List Effect) (old new : Stock) : Type 0 where
  pub count : ℕ
  pub within : count ≤ length effects
  pub left : LeftIn (come (take count effects) start) new
  pub grows : Extends old.told new.told
