-- WHAT A STEP OF A DUMP LEAVES: the tapes of other slots than the one in hand, and its own tapes those of its port.
use Rattle.std.specs.Prelude.{◌≡◌, ◌≢◌, ℕ, Contains}
use Rattle.plant_core.specs.declared.plant.Plant.{Ghosts as Plant}
use Rattle.plant_effects.specs.Runs.{state_of}
use Rattle.tape_config.specs.Ports.{IsAmong}
use Rattle.dump_job.specs.declared.fields.Filled.{Filled}
use Rattle.dump_job.specs.declared.fields.JobFields.{JobFields}

-- A dump's tapes are in the slots of its port: that in hand, and those of the parts that are ended.
pub record IsOnPort (j : JobFields) : Type 0 where
  pub reel : IsAmong j.port j.reel.slot
  pub filled : (f : Filled) → Contains j.filled f → IsAmong j.port f.slot

-- A step left the tapes of other slots as they were, and the dump on its port.
pub record LeavesOthers {D : Type 0} (P : Plant D) (old new : D) (j k : JobFields) : Type 0 where
  pub tapes : (q : ℕ) → q ≢ j.reel.slot → (state_of P new).tape q ≡ (state_of P old).tape q
  pub port : k.port ≡ j.port
  pub on : IsOnPort j → IsOnPort k

-- Each tape has the records that it had.
abbrev pub LeavesTapes : {D : Type 0} → Plant D → D → D → Type 0
LeavesTapes P old new = (q : ℕ) → (state_of P new).tape q ≡ (state_of P old).tape q
