-- What a function that is lent a plant did to it, as its effects. Two relations go up through all layers: `Done`, of what was done
-- whole, and `Leaves`, of what was done in part or whole; beside them `Stays`, which is owed whatever was done.
use Rattle.std.specs.Prelude.{◌≡◌, ℕ, ◌<◌, ◌≤◌, List, length, take, Option, Some}
use Rattle.crash_moments.specs.Moments.{Leads}
use Rattle.plant_core.specs.declared.plant.Plant.{Ghosts as Plant}
use Rattle.plant_core.specs.Crashes.{State, Alike}
use Rattle.plant_core.specs.Effects.{Effect, come, Joint}
use Rattle.plant_core.specs.Records.{Record, NoBad}
use Rattle.plant_core.specs.Steps.{Same}

-- what reads give of a plant, and what is settled of it
abbrev pub state_of : {D : Type 0} → Plant D → D → State
state_of P plant = (P.view plant).state

-- the slot of the loaded tape
abbrev pub loaded_of : {D : Type 0} → Plant D → D → Option ℕ
loaded_of P plant = (P.view plant).loaded

-- this holds of the loaded tape, where contents are told
abbrev pub OnLoaded : {D : Type 0} → Plant D → (List Record → Type 0) → D → Type 0
OnLoaded P Is plant = P.tells → (k : ℕ) → loaded_of P plant ≡ Some k → Is ((state_of P plant).tape k)

-- A tape takes one record more: it has fewer than 524,288, and none is bad.
abbrev pub TakesMore : List Record → Type 0
TakesMore tape = (length tape < 524288) × NoBad tape

-- all these effects were done
pub record Done {D : Type 0} (P : Plant D) (effects : List Effect) (old new : D) : Type 0 where
  pub sound : P.sound new
  pub survives : P.tells → P.survives old → P.survives new
  pub state : P.tells → Alike (come effects (state_of P old)) (state_of P new)

-- these bytes are the start of those
abbrev pub IsStartOf : List ℕ → List ℕ → Type 0
IsStartOf start whole = start ≡ take (length start) whole

-- Whatever of these effects was done: each image since is one of the crash model after the first of them. What was told has no more than
-- they tell, and all that was told before, also of a plant that wouldn't survive a crash.
pub record Leaves {D : Type 0} (P : Plant D) (effects : List Effect) (old new : D) : Type 0 where
  pub crash : P.tells → P.survives old → Leads P.time old new (Joint (state_of P old) effects)
  pub told : P.tells → IsStartOf (state_of P new).told (come effects (state_of P old)).told
  pub grows : P.tells → IsStartOf (state_of P old).told (state_of P new).told

-- Whatever was answered, it was only read: what lies beneath is as it was, and each image since is one of before.
pub record OnlyLooks {D : Type 0} (P : Plant D) (old new : D) : Type 0 where
  pub beneath : P.tells → P.beneath new ≡ P.beneath old
  pub crash : P.tells → Leads P.time old new Same

-- the loaded tape is the same, has as many records, and none was loaded
pub record SameTape {D : Type 0} (P : Plant D) (old new : D) : Type 0 where
  pub loaded : loaded_of P new ≡ loaded_of P old
  pub records : (P.view new).records ≡ (P.view old).records
  pub loads : (P.view new).loads ≡ (P.view old).loads

-- the same, and the log has as many bytes
pub record SameNumbers {D : Type 0} (P : Plant D) (old new : D) : Type 0 where
  pub tape : SameTape P old new
  pub log_size : (P.view new).log_size ≡ (P.view old).log_size

-- whatever was done: the slots stay, and no count falls
pub record Stays {D : Type 0} (P : Plant D) (old new : D) : Type 0 where
  pub slots : (P.view new).slots ≡ (P.view old).slots
  pub present : (P.view new).present ≡ (P.view old).present
  pub loads : (P.view old).loads ≤ (P.view new).loads
  pub faults : (P.view old).faults ≤ (P.view new).faults
  pub tell_faults : (P.view old).tell_faults ≤ (P.view new).tell_faults

-- whatever was done by calls on the log and the tapes alone: the count of the output is exactly as before
pub record StaysQuiet {D : Type 0} (P : Plant D) (old new : D) : Type 0 where
  pub stays : Stays P old new
  pub tell_faults : (P.view new).tell_faults ≡ (P.view old).tell_faults

-- whatever was done by calls on the output alone: the other counts are exactly as before
pub record StaysTelling {D : Type 0} (P : Plant D) (old new : D) : Type 0 where
  pub stays : Stays P old new
  pub loads : (P.view new).loads ≡ (P.view old).loads
  pub faults : (P.view new).faults ≡ (P.view old).faults
