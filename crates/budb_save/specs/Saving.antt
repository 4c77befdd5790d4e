-- WHAT A SAVE ANSWERS AND DOES on the slot that is picked.
use Rattle.std.specs.Prelude.{ℕ, ◌+◌, Bool, nat_lt, if◌then◌else◌, Option, Some, None, Result, Ok, Err, List, [], ◌++◌, length}
use Rattle.plant_core.specs.declared.plant.Plant.{Ghosts as Plant}
use Rattle.plant_core.specs.Effects.{Effect, putting_away}
use Rattle.plant_effects.specs.Runs.{Done, SameNumbers}
use Rattle.budb_changes.specs.Bytes.{encoded}
use Rattle.budb_fold.specs.declared.database.Database.{Database}
use Rattle.budb_fold.specs.Checkpoints.{checkpoint}
use Rattle.tape_config.specs.declared.port.PortFields.{PortFields}
use Rattle.tape_writer.specs.Room.{taken_by}
use Rattle.tape_scan.specs.Slots.{Slot}
use Rattle.tape_choice.specs.Choice.{permanent_in}
use Rattle.budb_save.specs.declared.choosing.Picked.{Picked}
use Rattle.budb_save.specs.declared.choosing.Wish.TheVariants.{Saving, Reading}
use Rattle.budb_save.specs.declared.saving.Saved.{Saved}
use Rattle.budb_save.specs.declared.fault.SaveFault.{SaveFault}
use Rattle.budb_save.specs.declared.fault.SaveFault.TheVariants.{NoTape, TooBig}
use Rattle.budb_save.specs.Saves.{save_label, piece_count}
use Rattle.budb_save.specs.Writing.{putting_save}
use Rattle.budb_save.specs.Choice.{picked, pick_of}

-- what is saved of a database: the log that a checkpoint would leave
abbrev pub saved_bytes : Database → List ℕ
saved_bytes db = encoded (checkpoint db)

-- the tape that the database is saved on, and the one that it is read back from
abbrev pub save_pick : PortFields → List Slot → Option Picked
save_pick port slots = pick_of (picked Saving port slots)

-- the least slot of a coordinator that is here and whose tape has the label of a save; `None` where none is so
abbrev pub load_pick : PortFields → List Slot → Option Picked
load_pick port slots = pick_of (picked Reading port slots)

-- the label, the head, the data blocks and the two filemarks pass the tape's capacity
abbrev pub is_too_big : PortFields → ℕ → Bool
is_too_big port count = nat_lt port.capacity (taken_by port (piece_count count + 2) 2)

-- ---- what is answered

-- what saving so many bytes in this slot answers: how many and where, or that they pass the capacity of its tape
abbrev pub saved_in : PortFields → ℕ → ℕ → Result Saved SaveFault
saved_in port slot count = if is_too_big port count then Err TooBig else Ok (record { bytes = count; slot = slot })

-- of so many bytes
abbrev pub save_answer : PortFields → Option Picked → ℕ → Result Saved SaveFault
save_answer port None count = Err NoTape
save_answer port (Some p) count = saved_in port p.slot count

-- ---- what is done

-- the loaded tape is put away, and the save put on the tape of the slot, under a label that keeps its permanent name
abbrev pub putting_on : Picked → Option ℕ → List ℕ → List Effect
putting_on p loaded bytes = putting_away loaded p.slot ++ putting_save p.slot (save_label (permanent_in p.label)) bytes

-- the effects of saving these bytes in the slot that is picked; none where they pass the capacity of its tape
abbrev pub effects_in : PortFields → Picked → Option ℕ → List ℕ → List Effect
effects_in port p loaded bytes = if is_too_big port (length bytes) then [] else putting_on p loaded bytes

-- the effects of a save; none where no slot is picked
abbrev pub save_effects : PortFields → Option Picked → Option ℕ → List ℕ → List Effect
save_effects port None loaded bytes = []
save_effects port (Some p) loaded bytes = effects_in port p loaded bytes

-- nothing was done to a plant but to read
pub record Untouched {D : Type 0} (P : Plant D) (old new : D) : Type 0 where
  pub done : Done P [] old new
  pub numbers : SameNumbers P old new
