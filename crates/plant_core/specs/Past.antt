-- What was asked of a plant in memory, and what it makes of its state.
use Rattle.std.specs.Prelude.{◌≡◌, List, ℕ, [], ◌∷◌, ◌++◌, Vec}
use Rattle.std.specs.declared.alloc.Global.{Global}
use Rattle.plant_core.specs.declared.event.Event.{Event}
use Rattle.plant_core.specs.declared.event.Event.TheVariants.{Put, Settle, Cut, LogPut, LogCommit, LogReplace, Tell}
use Rattle.plant_core.specs.declared.stored.Stored.{Stored}
use Rattle.plant_core.specs.Crashes.{State, LeftIn, blank}
use Rattle.plant_core.specs.Effects.{replaces, tells, puts, settles, cuts, comes, log_with, log_kept}
use Rattle.plant_core.specs.Records.{Record}
use Rattle.plant_core.specs.Stock.{Stock}
use Rattle.plant_core.specs.Tapes.{record_of}

-- what an event makes of a state
abbrev pub happens : Event → State → State
happens (Put k stored) s = comes (puts k (record_of stored)) s
happens (Settle k) s = comes (settles k) s
happens (Cut k n) s = comes (cuts k n) s
happens (LogPut bytes) s = log_with bytes.items s
happens LogCommit s = log_kept s
happens (LogReplace bytes) s = comes (replaces bytes.items) s
happens (Tell bytes) s = comes (tells bytes.items) s

-- what these events make of it, one after the other
abbrev pub after : List Event → State → State
after [] s = s
after (e ∷ es) s = after es (happens e s)

-- what a crash may leave after these events
abbrev pub IsLeft : List Event → Stock → Type 0
IsLeft es = LeftIn (after es blank)

-- one record more was put on a tape
pub record GainsPut (old new : List Event) (k : ℕ) (r : Record) : Type 0 where
  pub kept : Stored
  pub is : record_of kept ≡ r
  pub more : new ≡ old ++ Put k kept ∷ []

-- bytes were put on the log, made the log, or told
pub record GainsBytes (Of : Vec ℕ Global → Event) (old new : List Event) (bytes : List ℕ) : Type 0 where
  pub kept : Vec ℕ Global
  pub is : kept.items ≡ bytes
  pub more : new ≡ old ++ Of kept ∷ []
