-- What the machine knows between two commands, and what comes of one.
use Rattle.std.specs.Prelude.{ℕ, List, [], ◌∷◌, Bool, min, max, Result}
use Rattle.vnode_model.specs.declared.volumes.VolumeFields.{VolumeFields}
use Rattle.plant_core.specs.Crashes.{State}
use Rattle.plant_core.specs.Effects.{Effect, tells, come}
use Rattle.cell_core.specs.declared.stored.Stored.{Stored}
use Rattle.budb_changes.specs.declared.change.Change.{Change}
use Rattle.tape_config.specs.Configs.{Settings}
use Rattle.tape_answers.specs.Slots.{slots_of}
use Rattle.archive_model.specs.Archives.{Archive, Refusal}
use Rattle.backup_session.specs.declared.groups.Groups.{Groups}

-- What stays during a run: the configuration, how many slots there are, and which of them are here.
pub record Setting : Type 0 where
  pub config : Settings
  pub slots : ℕ
  pub present : ℕ → Bool

-- What each dump has of a volume: its contents, or the refusal by which its play ends. No call reads them: they are what the tapes mean.
abbrev pub Contents : Type 0
Contents = ℕ → List ℕ → Result VolumeFields Refusal

-- What a command finds: the changes of the journal, the session's time, the cell's list, the contents of the dumps, the plant's state
-- (its log's bytes are those of the changes), and the group that is open, with the dumps of the last one.
pub record World : Type 0 where
  pub setting : Setting
  pub log : List Change
  pub time : ℕ
  pub cell : List Stored
  pub contents : Contents
  pub state : State
  pub groups : Groups

-- the archive of a world
abbrev pub archive_of : World → Archive
archive_of w = record { log = w.log; slots = slots_of w.setting.slots w.setting.present w.state.tape; contents = w.contents }

-- What comes of a command: its effects on the plant but for the reply; the reply; the changes of the journal and the session's time after
-- it; the lists that the cell has on the way, after each change of it, none where it isn't changed; what the dumps have behind it; and the group
-- that is open then, with the dumps of the last one. Loading a tape is no effect: by it more may be settled than they say, and nothing is where all was settled.
pub record Turn : Type 0 where
  pub effects : List Effect
  pub reply : List ℕ
  pub log : List Change
  pub time : ℕ
  pub cells : List (List Stored)
  pub contents : Contents
  pub groups : Groups

-- the last of these lists; this one where there is none
abbrev pub last_cell : List Stored → List (List Stored) → List Stored
last_cell cell [] = cell
last_cell cell (c ∷ cs) = last_cell c cs

-- the world when a command is done, and its reply isn't told yet
abbrev pub before_reply : World → Turn → World
before_reply w t = record w { log = t.log; time = t.time; cell = last_cell w.cell t.cells; contents = t.contents; state = come t.effects w.state; groups = t.groups }

-- a text is told
abbrev pub with_told : World → List ℕ → World
with_told w text = record w { state = come (tells text ∷ []) w.state }

-- the world behind a command
abbrev pub after_turn : World → Turn → World
after_turn w t = with_told (before_reply w t) t.reply

-- The session's time at a moment of the clock: the greatest of both. A moment above 4,294,967,295 counts as that.
abbrev pub at_moment : World → ℕ → World
at_moment w now = record w { time = max w.time (min now 4294967295) }
