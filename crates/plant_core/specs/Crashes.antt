-- The crash model: what a crash may leave of a log, tapes and an output.
use Rattle.std.specs.Prelude.{◌≡◌, ◌⊎◌, ℕ, ◌<◌, ◌≤◌, List, [], ◌∷◌, ◌++◌, length, take, Some}
use Rattle.crash_moments.specs.Telling.{IsFront}
use Rattle.plant_core.specs.Records.{Record, bad}
use Rattle.plant_core.specs.Stock.{Stock}

-- The bytes of the log, the records of each tape and the told bytes, as reads give them with what was put; and how many of the
-- bytes and of each tape's records are settled.
pub record State : Type 0 where
  pub log : List ℕ
  pub tape : ℕ → List Record
  pub told : List ℕ
  pub log_settled : ℕ
  pub settled : ℕ → ℕ

-- A tape after a crash: its settled records, then a front of those put since, then at most one bad record in place of the next.
pub record IsTorn (settled : ℕ) (whole tape : List Record) : Type 0 where
  pub count : ℕ
  pub low : settled ≤ count
  pub high : count ≤ length whole
  pub is : (tape ≡ take count whole) ⊎ ((count < length whole) × (tape ≡ take count whole ++ bad ∷ []))

-- What a crash may leave: the settled log, which isn't damaged, each tape torn behind its settled records, and any front of what was
-- told, each for itself.
pub record LeftIn (s : State) (c : Stock) : Type 0 where
  pub log : c.log ≡ Some (take s.log_settled s.log)
  pub tapes : (k : ℕ) → IsTorn (s.settled k) (s.tape k) (c.tape k)
  pub told : IsFront c.told s.told

-- what reads give
abbrev pub seen_in : State → Stock
seen_in s = record { log = Some s.log; tape = s.tape; told = s.told }

-- all is settled
pub record IsSettled (s : State) : Type 0 where
  pub log : s.log_settled ≡ length s.log
  pub tapes : (k : ℕ) → s.settled k ≡ length (s.tape k)

-- no more is settled than there is
pub record IsWithin (s : State) : Type 0 where
  pub log : s.log_settled ≤ length s.log
  pub tapes : (k : ℕ) → s.settled k ≤ length (s.tape k)

-- what is settled of a log and of tapes, with all that was told
abbrev pub settled_part : State → Stock
settled_part s = record { log = Some (take s.log_settled s.log); tape = λ k. take (s.settled k) (s.tape k); told = s.told }

-- an empty log, blank tapes and nothing told
abbrev pub blank : State
blank = record { log = []; tape = λ k. []; told = []; log_settled = 0; settled = λ k. 0 }

-- the same states, part by part
pub record Alike (s t : State) : Type 0 where
  pub log : t.log ≡ s.log
  pub tape : (k : ℕ) → t.tape k ≡ s.tape k
  pub told : t.told ≡ s.told
  pub log_settled : t.log_settled ≡ s.log_settled
  pub settled : (k : ℕ) → t.settled k ≡ s.settled k
