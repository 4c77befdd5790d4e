-- The tape in hand, and what a step puts on it.
use Rattle.std.specs.Prelude.{◌≡◌, ◌≢◌, ℕ, ◌+◌, Bool, true, false, Some, Result, Ok, List, ◌++◌, length, nat_le, OnOk, IsTrue}
use Rattle.crash_moments.specs.Moments.{HasCause}
use Rattle.plant_core.specs.declared.fault.Failed.{Failed}
use Rattle.plant_core.specs.declared.plant.Plant.{Ghosts as Plant}
use Rattle.plant_core.specs.Effects.{Effect, putting_away}
use Rattle.plant_core.specs.Records.{NoBad}
use Rattle.plant_effects.specs.Runs.{state_of, loaded_of, Done, Leaves, StaysQuiet}
use Rattle.tape_config.specs.declared.port.PortFields.{PortFields}
use Rattle.tape_text.specs.Items.{Item}
use Rattle.tape_writer.specs.Room.{Counts, taken_by}
use Rattle.tape_writer.specs.Puts.{puts_on}
use Rattle.dump_job.specs.declared.fields.Reel.{Reel}

-- how many records stand on it
abbrev pub records_on : Reel → ℕ
records_on reel = reel.blocks + reel.marks

-- with so many blocks and filemarks more
abbrev pub with_more : ℕ → ℕ → Reel → Reel
with_more blocks marks reel = record { slot = reel.slot; blocks = reel.blocks + blocks; marks = reel.marks + marks }

-- as a writer counts it
abbrev pub counts_on : PortFields → Reel → Counts
counts_on port reel = record { port = port; blocks = reel.blocks; marks = reel.marks }

-- whether it stays within the capacity with so many blocks and filemarks more
abbrev pub has_room : ℕ → ℕ → Counts → Bool
has_room blocks marks c = nat_le (taken_by c.port (c.blocks + blocks) (c.marks + marks)) c.port.capacity

-- The tape in a slot that is here has so many records, and none is bad.
pub record IsOn {D : Type 0} (P : Plant D) (slot count : ℕ) (plant : D) : Type 0 where
  pub sound : P.sound plant
  pub here : IsTrue ((P.view plant).present slot)
  pub records : P.tells → length ((state_of P plant).tape slot) ≡ count
  pub whole : P.tells → NoBad ((state_of P plant).tape slot)

-- what is done on the tape of a slot, which is loaded first where it isn't
abbrev pub turn_of : {D : Type 0} → Plant D → ℕ → List Effect → D → List Effect
turn_of P slot effects plant = putting_away (loaded_of P plant) slot ++ effects

-- What a call on the tape of a slot did: all of these effects, or it found that the tape doesn't have the records that it should, which
-- comes only where contents aren't told, or the plant failed.
pub record Turns {D : Type 0} (P : Plant D) (slot : ℕ) (effects : List Effect) (result : Result Bool Failed) (old new : D) : Type 0 where
  pub told : P.tells → result ≢ Ok false
  pub done : result ≡ Ok true → Done P (turn_of P slot effects old) old new
  pub lost : result ≡ Ok false → Done P (putting_away (loaded_of P old) slot) old new
  pub leaves : Leaves P (turn_of P slot effects old) old new
  pub loaded : OnOk result (loaded_of P new ≡ Some slot)
  pub log_size : OnOk result ((P.view new).log_size ≡ (P.view old).log_size)
  pub stays : StaysQuiet P old new
  pub cause : HasCause (P.view old).faults (P.view new).faults result

-- the same where these items were put
abbrev pub Puts : {D : Type 0} → Plant D → ℕ → List Item → Result Bool Failed → D → D → Type 0
Puts P slot items result old new = Turns P slot (puts_on slot items) result old new
