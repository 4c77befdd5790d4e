-- More may be settled of a plant's tapes than effects say, since a tape that is put away is settled.
use Rattle.std.specs.Prelude.{◌≡◌, ℕ, ◌≤◌, List, length, take}
use Rattle.plant_core.specs.declared.plant.Plant.{Ghosts as Plant}
use Rattle.plant_core.specs.Crashes.{State}
use Rattle.plant_core.specs.Effects.{Effect, come}
use Rattle.plant_effects.specs.Runs.{state_of}

-- the same state, but that more may be settled of its tapes; no more is settled than there is
pub record IsAhead (s t : State) : Type 0 where
  pub log : t.log ≡ s.log
  pub tape : (k : ℕ) → t.tape k ≡ s.tape k
  pub told : t.told ≡ s.told
  pub log_settled : t.log_settled ≡ s.log_settled
  pub more : (k : ℕ) → s.settled k ≤ t.settled k
  pub within : (k : ℕ) → t.settled k ≤ length (t.tape k)

-- these effects were done, and more may be settled
pub record DoneAhead {D : Type 0} (P : Plant D) (effects : List Effect) (old new : D) : Type 0 where
  pub sound : P.sound new
  pub survives : P.tells → P.survives old → P.survives new
  pub state : P.tells → IsAhead (come effects (state_of P old)) (state_of P new)

-- The first so many of these effects were done and no part of the next one, and more may be settled. Calls may be made on what is left.
pub record LeftAhead {D : Type 0} (P : Plant D) (effects : List Effect) (old new : D) : Type 0 where
  pub count : ℕ
  pub few : count ≤ length effects
  pub done : DoneAhead P (take count effects) old new
