-- The world in which a session begins.
use Rattle.std.specs.Prelude.{ℕ, max, List, [], None, Result, Ok, Err}
use Rattle.std.specs.List.{fold}
use Rattle.vnode_model.specs.declared.listed.EntryState.{EntryState}
use Rattle.vnode_model.specs.declared.listed.EntryState.TheVariants.{Good, Bad}
use Rattle.cell_core.specs.declared.stored.Stored.{Stored}
use Rattle.cell_core.specs.Calls.{state_of}
use Rattle.budb_changes.specs.declared.records.VolRecordFields.{VolRecordFields}
use Rattle.budb_changes.specs.declared.records.DumpRecordFields.{DumpRecordFields}
use Rattle.budb_changes.specs.declared.change.Change.{Change}
use Rattle.budb_fold.specs.declared.database.Database.{Database}
use Rattle.budb_fold.specs.Database.{after}
use Rattle.budb_changes.specs.Forms.{IsLog}
use Rattle.budb.specs.Views.{BudbView}
use Rattle.budb.specs.Kept.{Keeps}
use Rattle.bk_text.specs.Places.{FailsAt}
use Rattle.plant_core.specs.Crashes.{State}
use Rattle.backup_session.specs.declared.stops.OpenStop.{OpenStop}
use Rattle.backup_session.specs.declared.stops.OpenStop.TheVariants as stop
use Rattle.backup_session.specs.Worlds.{World, Setting, Contents}
use Rattle.backup_session.specs.declared.groups.Groups.{Groups}

-- the greatest of a time and the clone times of a listed dump
abbrev pub with_clone : ℕ → VolRecordFields → ℕ
with_clone time volume = max time volume.clone

-- the greatest of a time and the clone times of a dump
abbrev pub with_clones : ℕ → DumpRecordFields → ℕ
with_clones time dump = fold with_clone time dump.volumes

-- the greatest of the greatest id, and of all clone times of listed dumps
abbrev pub database_time : Database → ℕ
database_time db = fold with_clones db.greatest db.listed

-- the greatest of a time and what a cell's entry tells as its latest change; a bad image tells none
abbrev pub with_state : ℕ → EntryState → ℕ
with_state time (Good id kind latest) = max time latest
with_state time (Bad at) = time

-- the greatest of a time and a volume's latest change; a bad image counts for nothing
abbrev pub with_stored : ℕ → Stored → ℕ
with_stored time stored = with_state time (state_of stored.image)

-- The session's time at its opening: the greatest of all ids and clone times of the database, and of all entries of the cell.
abbrev pub first_time : List Change → List Stored → ℕ
first_time log cell = fold with_stored (database_time (after log)) cell

-- no group is open, and none was ended
abbrev pub no_groups : Groups
no_groups = record { «open» = None; jobs = [] }

-- the world of a log's changes, a cell's list, the contents of the dumps, and what stands in a plant, where no group is open
abbrev pub opened : Setting → List Change → List Stored → Contents → State → World
opened setting log cell contents state = record { setting = setting; log = log; time = first_time log cell; cell = cell; contents = contents; state = state; groups = no_groups }

-- A database that keeps the log; where the log is no list of changes, the place at which it stops being one; unless the plant fails
-- or memory runs out.
abbrev pub OpensDatabase : List ℕ → Result BudbView OpenStop → Type 0
OpensDatabase bytes (Ok budb) = (log : List Change) × Keeps log bytes budb
OpensDatabase bytes (Err (stop.BadLog at)) = FailsAt IsLog bytes at
OpensDatabase bytes (Err stop.Plant) = Unit {0}
OpensDatabase bytes (Err stop.Cell) = Unit {0}
OpensDatabase bytes (Err stop.Memory) = Unit {0}

-- this holds unless a call of the plant failed
abbrev pub UnlessFailed : {T : Type 0} → Result T OpenStop → Type 0 → Type 0
UnlessFailed (Ok session) holds = holds
UnlessFailed (Err stop.Plant) holds = Unit {0}
UnlessFailed (Err stop.Cell) holds = holds
UnlessFailed (Err (stop.BadLog at)) holds = holds
UnlessFailed (Err stop.Memory) holds = holds

-- a session was opened, or memory ran out
abbrev pub OpensOrLacksMemory : {T : Type 0} → Result T OpenStop → Type 0
OpensOrLacksMemory (Ok session) = Unit {0}
OpensOrLacksMemory (Err stop.Plant) = ⊥
OpensOrLacksMemory (Err stop.Cell) = ⊥
OpensOrLacksMemory (Err (stop.BadLog at)) = ⊥
OpensOrLacksMemory (Err stop.Memory) = Unit {0}
