-- What comes of commands that are given one after the other: the world behind them, and all that they tell.
use Rattle.std.specs.Prelude.{◌≡◌, ℕ, List, [], ◌∷◌, ◌++◌}
use Rattle.plant_core.specs.declared.plant.Plant.{Ghosts as Plant}
use Rattle.plant_core.specs.Crashes.{Alike, IsSettled}
use Rattle.plant_effects.specs.Runs.{state_of}
use Rattle.cell_core.specs.declared.cell.Cell.{Ghosts as Cell}
use Rattle.budb_changes.specs.Bytes.{encoded}
use Rattle.budb_changes.specs.Forms.{AreChanges}
use Rattle.backup_session.specs.Views.{SessionView}
use Rattle.backup_session.specs.Fitting.{Fits}
use Rattle.backup_words.specs.declared.command.Command.{Command}
use Rattle.backup_session.specs.Worlds.{World, Turn, after_turn, at_moment}
use Rattle.backup_session.specs.Machine.{turn}
use Rattle.backup_session.specs.Held.{HeldFor}
use Rattle.rehearsal.specs.declared.batch.Batch.{Batch}

-- a world, and what was told so far
pub record Stage : Type 0 where
  pub world : World
  pub told : List ℕ

-- a command's turn is done, and its reply told
abbrev pub then_turn : Stage → Turn → Stage
then_turn s t = record { world = after_turn s.world t; told = s.told ++ t.reply }

-- a world after these commands at one moment, and all that they told
unfoldable pub given : Stage → ℕ → List Command → Stage
given s now [] = s
given s now (command ∷ commands) = given (then_turn s (turn s.world now command)) now commands

-- the same after these batches of commands
unfoldable pub played : Stage → List Batch → Stage
played s [] = s
played s (batch ∷ batches) = played (given s batch.now batch.commands) batches

-- ---- each command that asks the archive finds a plant that holds it

-- each of these commands at a moment finds the archive where it asks for it
unfoldable pub FindsHeld : Stage → ℕ → List Command → Type 0
FindsHeld s now [] = Unit {0}
FindsHeld s now (command ∷ commands) = HeldFor (at_moment s.world now) command × FindsHeld (then_turn s (turn s.world now command)) now commands

-- each command of these batches finds it
unfoldable pub AllFindHeld : Stage → List Batch → Type 0
AllFindHeld s [] = Unit {0}
AllFindHeld s (batch ∷ batches) = FindsHeld s batch.now batch.commands × AllFindHeld (given s batch.now batch.commands) batches

-- ---- inside the crate

-- a session, a plant and a cell have come so far
pub record Reached {D E : Type 0} (P : Plant D) (C : Cell E) (s : Stage) (plant : D) (site : E) (session : SessionView) (text : List ℕ) : Type 0 where
  pub fits : Fits P C s.world plant site session
  pub told : text ≡ s.told

-- A plant and a cell stand in a world, as between two sessions.
pub record StandsOn {D E : Type 0} (P : Plant D) (C : Cell E) (w : World) (plant : D) (site : E) : Type 0 where
  pub form : AreChanges w.log
  pub journal : w.state.log ≡ encoded w.log
  pub state : Alike w.state (state_of P plant)
  pub settled : IsSettled w.state
  pub slots : (P.view plant).slots ≡ w.setting.slots
  pub present : (k : ℕ) → (P.view plant).present k ≡ w.setting.present k
  pub cell : C.list site ≡ w.cell
