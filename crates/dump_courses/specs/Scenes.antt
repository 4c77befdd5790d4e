-- What a dump finds.
use Rattle.std.specs.Prelude.{◌≡◌, ℕ, Bool, true, false, not, List, map}
use Rattle.std.specs.List.{list_any}
use Rattle.plant_core.specs.declared.plant.Plant.{Ghosts as Plant}
use Rattle.plant_core.specs.Records.{Record, block_with, mark, bad}
use Rattle.plant_core.specs.Crashes.{State}
use Rattle.plant_effects.specs.Runs.{state_of}
use Rattle.vnode_model.specs.declared.listed.VolEntry.{VolEntry}
use Rattle.cell_core.specs.declared.cell.Cell.{Ghosts as Cell}
use Rattle.cell_core.specs.declared.stored.Stored.{Stored}
use Rattle.cell_core.specs.Calls.{entry_of_stored}
use Rattle.tape_config.specs.Configs.{Settings}
use Rattle.tape_scan.specs.Slots.{Slot}
use Rattle.tape_answers.specs.Slots.{slots_of}
use Rattle.budb_changes.specs.declared.change.Change.{Change}
use Rattle.budb_fold.specs.declared.database.Database.{Database}
use Rattle.budb_fold.specs.Database.{after}
use Rattle.budb.specs.Views.{BudbView}
use Rattle.budb.specs.Kept.{Keeps}
use Rattle.dump_courses.specs.Ahead.{IsAhead}

-- What a dump finds: the configuration, which of so many slots are here, the changes of the journal, the cell's list, the plant's state (its
-- log's bytes are those of the changes), and the session's time.
pub record Scene : Type 0 where
  pub config : Settings
  pub present : ℕ → Bool
  pub slots : ℕ
  pub log : List Change
  pub cell : List Stored
  pub state : State
  pub time : ℕ

-- the database, which the journal's changes make
abbrev pub database_in : Scene → Database
database_in s = after s.log

-- the slots, with what the records of their tapes say
abbrev pub slots_in : Scene → List Slot
slots_in s = slots_of s.slots s.present s.state.tape

-- what the cell's list says of its volumes
abbrev pub entries_in : Scene → List VolEntry
entries_in s = map entry_of_stored s.cell

-- a tape has no bad record
abbrev pub is_bad : Record → Bool
is_bad (block_with bytes) = false
is_bad mark = false
is_bad bad = true

-- the tape of a slot has no bad record
abbrev pub whole_in : Scene → ℕ → Bool
whole_in s k = not (list_any is_bad (s.state.tape k))

-- What stands there is this scene, of whose tapes more may be settled.
pub record IsScene {D E : Type 0} (P : Plant D) (C : Cell E) (s : Scene) (budb : BudbView) (plant : D) (site : E) : Type 0 where
  pub keeps : Keeps s.log s.state.log budb
  pub state : IsAhead s.state (state_of P plant)
  pub slots : (P.view plant).slots ≡ s.slots
  pub present : (k : ℕ) → (P.view plant).present k ≡ s.present k
  pub cell : C.list site ≡ s.cell

-- A command finds this scene under a configuration at a time.
pub record Finds {D E : Type 0} (P : Plant D) (C : Cell E) (s : Scene) (used : Settings) (budb : BudbView) (plant : D) (site : E) (now : ℕ) : Type 0 where
  pub config : used ≡ s.config
  pub time : now ≡ s.time
  pub scene : IsScene P C s budb plant site
