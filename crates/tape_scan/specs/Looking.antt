-- What looking for records on tapes does to a plant: tapes are loaded, and so others are put away, and no more.
use Rattle.std.specs.Prelude.{◌≡◌, ◌≢◌, ℕ, List, length, map, slice_get, Result, Err, Some}
use Rattle.crash_moments.specs.Moments.{HasCauseAt}
use Rattle.plant_core.specs.declared.plant.Plant.{Ghosts as Plant}
use Rattle.plant_core.specs.Effects.{settles}
use Rattle.plant_effects.specs.Runs.{state_of, Done, Leaves, StaysQuiet}
use Rattle.tape_text.specs.Items.{Read}
use Rattle.tape_scan.specs.Slots.{Slot}

-- ---- slots

-- a slot of a plant: whether it is here, and what the records of its tape say
pub record IsSlot {D : Type 0} (P : Plant D) (plant : D) (k : ℕ) (s : Slot) : Type 0 where
  pub here : s.here ≡ (P.view plant).present k
  pub items : Read ((state_of P plant).tape k) s.items

-- all slots of a plant, by their numbers
pub record HasSlots {D : Type 0} (P : Plant D) (slots : List Slot) (plant : D) : Type 0 where
  pub count : length slots ≡ (P.view plant).slots
  pub each : (k : ℕ) (s : Slot) → slice_get slots k ≡ Some s → IsSlot P plant k s

-- ---- loads

-- Tapes were loaded one after the other: what was put on those that were put away is settled, and no more was done.
pub record Loads {D : Type 0} (P : Plant D) (old new : D) : Type 0 where
  pub away : List ℕ
  pub done : Done P (map settles away) old new
  pub leaves : Leaves P (map settles away) old new
  pub log_size : (P.view new).log_size ≡ (P.view old).log_size

-- the same, in part or whole
pub record LeavesLoads {D : Type 0} (P : Plant D) (old new : D) : Type 0 where
  pub away : List ℕ
  pub leaves : Leaves P (map settles away) old new

-- what a function that only looks at tapes does to a plant, whatever it answers; one of its errors is a fault of the plant
pub record LooksAt {D T E : Type 0} (P : Plant D) (fault : E) (old new : D) (result : Result T E) : Type 0 where
  pub done : result ≢ Err fault → Loads P old new
  pub leaves : LeavesLoads P old new
  pub stays : StaysQuiet P old new
  pub cause : HasCauseAt fault (P.view old).faults (P.view new).faults result
