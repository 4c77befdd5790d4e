-- What a run over a plant and a cell leaves, once its session has gone.
use Rattle.std.specs.Prelude.{◌≡◌, ◌⊎◌, ℕ, List, Result, Ok, Err, Bool}
use Rattle.std.specs.Str.Lines.{lines}
use Rattle.plant_core.specs.declared.plant.Plant.{Ghosts as Plant}
use Rattle.plant_core.specs.Crashes.{Alike, IsSettled}
use Rattle.plant_effects.specs.Runs.{state_of, Done}
use Rattle.cell_core.specs.declared.cell.Cell.{Ghosts as Cell}
use Rattle.tape_config.specs.Configs.{Settings}
use Rattle.budb_changes.specs.declared.change.Change.{Change}
use Rattle.budb_changes.specs.Bytes.{encoded}
use Rattle.budb_changes.specs.Forms.{AreChanges}
use Rattle.backup_session.specs.Worlds.{World, Contents}
use Rattle.backup_session.specs.Opening.{opened}
use Rattle.backup_script.specs.declared.running.RunStop.{RunStop}
use Rattle.backup_script.specs.declared.running.RunStop.TheVariants.{Read, Plant as PlantStop, Cell as CellStop, Output, TooLong, BadLog, Memory}
use Rattle.backup_script.specs.Lines.{ended}
use Rattle.backup_script.specs.Scripts.{Outcome, script}
use Rattle.backup_script.specs.Running.{Took, TookAll, TookToQuit, TookTooMany, TookToFault}

-- the world of a plant and a cell, for the changes of the plant's log and the contents of its dumps
abbrev pub world_on : {D E : Type 0} → Plant D → Cell E → Settings → List Change → Contents → D → E → World
world_on P C config log contents plant site = opened (record { config = config; slots = (P.view plant).slots; present = (P.view plant).present }) log (C.list site) contents (state_of P plant)

-- All of this was done, plant, cell and clock are as they are behind it, and all that was put is settled.
pub record Ends {D E : Type 0} (P : Plant D) (C : Cell E) (s : Outcome) (old new : D) (site : E) (left : List ℕ) : Type 0 where
  pub done : Done P s.effects old new
  pub state : Alike s.world.state (state_of P new)
  pub settled : IsSettled s.world.state
  pub form : AreChanges s.world.log
  pub log : s.world.state.log ≡ encoded s.world.log
  pub cell : C.list site ≡ s.world.cell
  pub moments : left ≡ s.moments

-- cut short: so it is of the lines that were ended
pub record EndsShort {D E : Type 0} (P : Plant D) (C : Cell E) (w : World) (ms input rest : List ℕ) (old new : D) (site : E) (left : List ℕ) : Type 0 where
  pub took : Took input rest
  pub ends : Ends P C (script w ms (lines (ended took.taken))) old new site left

-- the bytes that are taken, by the answer
abbrev pub TakesBytes : List ℕ → List ℕ → Result Bool RunStop → Type 0
TakesBytes old new (Ok refused) = TookAll old new ⊎ TookToQuit old new
TakesBytes old new (Err TooLong) = TookTooMany old new
TakesBytes old new (Err (BadLog at)) = new ≡ old
TakesBytes old new (Err Read) = TookToFault old new
TakesBytes old new (Err PlantStop) = TookToFault old new
TakesBytes old new (Err CellStop) = TookToFault old new
TakesBytes old new (Err Output) = TookToFault old new
TakesBytes old new (Err Memory) = TookToFault old new

-- the log is no list of changes, or the outside refused, or memory ran out
abbrev pub IsRefusedLog : Result Bool RunStop → Type 0
IsRefusedLog (Ok refused) = ⊥
IsRefusedLog (Err (BadLog at)) = Unit {0}
IsRefusedLog (Err PlantStop) = Unit {0}
IsRefusedLog (Err Memory) = Unit {0}
IsRefusedLog (Err TooLong) = ⊥
IsRefusedLog (Err Read) = ⊥
IsRefusedLog (Err CellStop) = ⊥
IsRefusedLog (Err Output) = ⊥
