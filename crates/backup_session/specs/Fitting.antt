-- A session fits a plant and a cell in a world, and what a turn leaves.
use Rattle.std.specs.Prelude.{◌≡◌, ℕ, List, [], ◌∷◌, ◌++◌, Contains}
use Rattle.plant_core.specs.declared.plant.Plant.{Ghosts as Plant}
use Rattle.plant_core.specs.Crashes.{Alike, IsSettled}
use Rattle.plant_core.specs.Effects.{come, told_by}
use Rattle.plant_effects.specs.Runs.{state_of, Done}
use Rattle.cell_core.specs.declared.cell.Cell.{Ghosts as Cell}
use Rattle.cell_core.specs.declared.stored.Stored.{Stored}
use Rattle.budb.specs.Kept.{Keeps}
use Rattle.dump_courses.specs.Ahead.{IsAhead, DoneAhead}
use Rattle.backup_session.specs.Views.{SessionView, ReplyView}
use Rattle.restore_commands.specs.Answers.{RestoreAnswer}
use Rattle.backup_session.specs.Worlds.{World, Turn, before_reply}
use Rattle.backup_session.specs.Restores.{restored}

-- What stands there is this world: the log's bytes are those of the changes, the database is what they make, and time, configuration,
-- slots, groups and the cell's list are the world's; so is the state, but that more may be settled of tapes.
pub record Stands {D E : Type 0} (P : Plant D) (C : Cell E) (w : World) (plant : D) (site : E) (session : SessionView) : Type 0 where
  pub keeps : Keeps w.log w.state.log session.budb
  pub time : session.time ≡ w.time
  pub config : session.config ≡ w.setting.config
  pub state : IsAhead w.state (state_of P plant)
  pub slots : (P.view plant).slots ≡ w.setting.slots
  pub present : (k : ℕ) → (P.view plant).present k ≡ w.setting.present k
  pub groups : session.groups ≡ w.groups
  pub cell : C.list site ≡ w.cell

-- A turn was done: its effects on the plant, but that more may be settled, and its reply is handed back; what is left is the world behind it,
-- where the reply isn't told yet. Where all that was put was settled, it is again.
pub record TurnDone {D E : Type 0} (P : Plant D) (C : Cell E) (w : World) (t : Turn) (old new : D) (site : E) (session : SessionView) (reply : ReplyView) : Type 0 where
  pub done : DoneAhead P t.effects old new
  pub text : reply.text ≡ t.reply
  pub stands : Stands P C (before_reply w t) new site session
  pub settles : IsSettled w.state → IsSettled (come t.effects w.state)

-- Some turn was done, whatever the archive holds, and none of its effects tells anything.
pub record SomeTurnDone {D E : Type 0} (P : Plant D) (C : Cell E) (w : World) (old new : D) (site : E) (session : SessionView) (reply : ReplyView) : Type 0 where
  pub turn : Turn
  pub turned : TurnDone P C w turn old new site session reply
  pub silent : told_by turn.effects ≡ []

-- A restore was answered, whatever stands on the tapes: with this reply, and the cell has some list; nothing else was done.
pub record SomeRestore {D E : Type 0} (P : Plant D) (C : Cell E) (w : World) (old new : D) (site : E) (session : SessionView) (reply : ReplyView) : Type 0 where
  pub answer : RestoreAnswer
  pub turned : TurnDone P C w (restored w answer) old new site session reply

-- ---- where all that was put is settled, as it is between two commands of a script

-- A world stands there, and all of it is settled.
pub record Fits {D E : Type 0} (P : Plant D) (C : Cell E) (w : World) (plant : D) (site : E) (session : SessionView) : Type 0 where
  pub keeps : Keeps w.log w.state.log session.budb
  pub time : session.time ≡ w.time
  pub config : session.config ≡ w.setting.config
  pub state : Alike w.state (state_of P plant)
  pub settled : IsSettled w.state
  pub slots : (P.view plant).slots ≡ w.setting.slots
  pub present : (k : ℕ) → (P.view plant).present k ≡ w.setting.present k
  pub groups : session.groups ≡ w.groups
  pub cell : C.list site ≡ w.cell

-- A turn was done there: exactly its effects, and all is settled behind it.
pub record Turned {D E : Type 0} (P : Plant D) (C : Cell E) (w : World) (t : Turn) (old new : D) (site : E) (session : SessionView) (reply : ReplyView) : Type 0 where
  pub done : Done P t.effects old new
  pub text : reply.text ≡ t.reply
  pub fits : Fits P C (before_reply w t) new site session

-- some turn was done there
pub record TurnedSomehow {D E : Type 0} (P : Plant D) (C : Cell E) (w : World) (old new : D) (site : E) (session : SessionView) (reply : ReplyView) : Type 0 where
  pub turn : Turn
  pub turned : Turned P C w turn old new site session reply
  pub silent : told_by turn.effects ≡ []

-- the cell was left on the way: its list is the one before, or one of those after a change
abbrev pub OnTheWay : List Stored → List (List Stored) → List Stored → Type 0
OnTheWay old cells new = Contains (old ∷ cells) new

-- ---- inside the crate: a world that stands there, and a turn that was done, of the plant alone

-- The plant's part of a world stands there: the journal with its database, time, configuration, slots and tapes, of which more may be
-- settled. The cell isn't spoken of.
pub record FitsPlant {D : Type 0} (P : Plant D) (w : World) (plant : D) (session : SessionView) : Type 0 where
  pub keeps : Keeps w.log w.state.log session.budb
  pub time : session.time ≡ w.time
  pub config : session.config ≡ w.setting.config
  pub state : IsAhead w.state (state_of P plant)
  pub slots : (P.view plant).slots ≡ w.setting.slots
  pub present : (k : ℕ) → (P.view plant).present k ≡ w.setting.present k
  pub groups : session.groups ≡ w.groups

-- A turn was done that is one of the groups alone, and its reply is handed back: all else of the session stays.
pub record OnGroups (t : Turn) (old new : SessionView) (reply : ReplyView) : Type 0 where
  pub text : reply.text ≡ t.reply
  pub session : new ≡ record old { groups = t.groups }

-- The plant's part of a turn was done: its effects, with the reply handed back, and the plant's part of the world after it stands there.
pub record TurnedPlant {D : Type 0} (P : Plant D) (w : World) (t : Turn) (old new : D) (session : SessionView) (reply : ReplyView) : Type 0 where
  pub done : DoneAhead P t.effects old new
  pub text : reply.text ≡ t.reply
  pub fits : FitsPlant P (before_reply w t) new session
  pub settles : IsSettled w.state → IsSettled (come t.effects w.state)

-- a part of a turn was done, and its text was put behind what was there to be told
pub record Stepped {D : Type 0} (P : Plant D) (w : World) (t : Turn) (old new : D) (session : SessionView) (before after : List ℕ) : Type 0 where
  pub done : DoneAhead P t.effects old new
  pub text : after ≡ before ++ t.reply
  pub fits : FitsPlant P (before_reply w t) new session
  pub settles : IsSettled w.state → IsSettled (come t.effects w.state)
