-- THE THREE SESSIONS OF A REHEARSAL: in which world each one begins, and what comes of it.
use Rattle.std.specs.Prelude.{◌≡◌, ℕ, ◌+◌, ◌-◌, Bool, not, ◌&&◌, ◌==◌, nat_lt, List, [], ◌∷◌, length, Some, None, Err}
use Rattle.plant_core.specs.Crashes.{State, IsSettled, blank}
use Rattle.media_core.specs.Media.{Image}
use Rattle.plant_media.specs.Stock.{stock_of}
use Rattle.cell_core.specs.declared.stored.Stored.{Stored}
use Rattle.budb_changes.specs.declared.change.Change.{Change}
use Rattle.budb_changes.specs.Bytes.{encoded}
use Rattle.budb_changes.specs.Forms.{AreChanges}
use Rattle.tape_config.specs.declared.line.Entry.TheVariants.{Device}
use Rattle.tape_config.specs.Configs.{Settings}
use Rattle.archive_model.specs.Archives.{NoDump}
use Rattle.backup_session.specs.Worlds.{World, Setting, Contents}
use Rattle.backup_session.specs.Opening.{opened, no_groups, first_time}
use Rattle.rehearsal.specs.Commands.{first_session, second_session, third_session}
use Rattle.rehearsal.specs.Playing.{Stage, played}

-- ---- settings

-- `slots:0-3 0`: one port with four slots
abbrev pub settings : Settings
settings = record { entries = Device (record { offset = 0; capacity = 2147483648; filemark = 0; first = 0; last = 3 }) ∷ []; cell = None }

-- all four tapes are here, or all but that of slot 2
abbrev pub all_here : ℕ → Bool
all_here k = nat_lt k 4

-- all tapes are here, that of slot 2 excepted
abbrev pub one_out : ℕ → Bool
one_out k = nat_lt k 4 && not (k == 2)

-- the settings of a rehearsal, with these tapes here
abbrev pub setting : (ℕ → Bool) → Setting
setting present = record { config = settings; slots = 4; present = present }

-- ---- worlds

-- blank tapes under an empty journal, beside an empty cell; no dump has contents
abbrev pub nothing_dumped : Contents
nothing_dumped id name = Err NoDump

-- the world in which a rehearsal begins: nothing is dumped, no change is in the journal, and no volume is in the cell
abbrev pub blank_world : World
blank_world = opened (setting all_here) [] [] nothing_dumped blank

-- A session is opened behind another one, over its cell and its tapes, of which these are here, and over the journal of these changes.
abbrev pub resting : List Change → State → State
resting log s = record { log = encoded log; tape = s.tape; told = s.told; log_settled = length (encoded log); settled = λ k. length (s.tape k) }

-- the world of a session that is opened after another one, with these changes in the journal and these tapes here
abbrev pub reopened : (ℕ → Bool) → List Change → World → World
reopened present log w = opened (setting present) log w.cell w.contents (resting log w.state)

-- a world, and nothing told yet
abbrev pub start : World → Stage
start w = record { world = w; told = [] }

-- ---- the sessions

-- volumes are made and dumped
unfoldable pub dumped : ℕ → Stage
dumped n = played (start blank_world) (first_session n)

-- the tape of slot 2 is out, and the journal is lost
unfoldable pub lost : ℕ → World
lost n = reopened one_out [] (dumped n).world

-- what the second session leaves and tells: the scan with a tape out, and the restores that it refuses
unfoldable pub scanned : ℕ → Stage
scanned n = played (start (lost n)) (second_session n)

-- the tape is put back, under the journal that the second session left
unfoldable pub put_back : ℕ → World
put_back n = reopened all_here (scanned n).world.log (scanned n).world

-- what the third session leaves and tells: the scan with all tapes, and the restores
unfoldable pub restored : ℕ → Stage
restored n = played (start (put_back n)) (third_session n)

-- ---- inside the crate: media and a cell in a world

-- a session begins in a world: with these settings, at the time that an opening finds, and no group is open
pub record Begins (w : World) : Type 0 where
  pub config : w.setting.config ≡ settings
  pub time : w.time ≡ first_time w.log w.cell
  pub groups : w.groups ≡ no_groups

-- the files are those of a world, as between two sessions, and so is the cell's list
pub record Stands (w : World) (image : Image) (list : List Stored) : Type 0 where
  pub form : AreChanges w.log
  pub journal : w.state.log ≡ encoded w.log
  pub settled : IsSettled w.state
  pub log : (stock_of image).log ≡ Some w.state.log
  pub tape : (k : ℕ) → (stock_of image).tape k ≡ w.state.tape k
  pub told : image.told ≡ w.state.told
  pub cell : list ≡ w.cell

-- so many files are there, and these are here
pub record HasFiles (w : World) (count : ℕ) (here : ℕ → Bool) : Type 0 where
  pub slots : count - 1 ≡ w.setting.slots
  pub present : (k : ℕ) → here (k + 1) ≡ w.setting.present k
