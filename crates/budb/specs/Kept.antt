-- The database of a log, and what opening it answers.
use Rattle.std.specs.Prelude.{◌≡◌, ℕ, List, Result, Ok, Err}
use Rattle.bk_text.specs.Places.{FailsAt}
use Rattle.budb_changes.specs.declared.change.Change.{Change}
use Rattle.budb_changes.specs.Bytes.{encoded}
use Rattle.budb_changes.specs.Forms.{AreChanges, IsLog}
use Rattle.budb_fold.specs.Database.{after}
use Rattle.budb.specs.declared.fault.BudbFault.{BudbFault}
use Rattle.budb.specs.declared.fault.BudbFault.TheVariants.{BadLog, Failed, Memory}
use Rattle.budb.specs.Views.{BudbView}

-- The log's bytes are those of these changes, and the database is what they make.
pub record Keeps (log : List Change) (bytes : List ℕ) (budb : BudbView) : Type 0 where
  pub form : AreChanges log
  pub is : bytes ≡ encoded log
  pub fold : budb.database ≡ after log

-- A database that keeps the log; where the log is no list of changes, the place at which it stops being one; unless the
-- outside refuses or memory runs out.
abbrev pub Opens : List ℕ → Result BudbView BudbFault → Type 0
Opens bytes (Ok budb) = (log : List Change) × Keeps log bytes budb
Opens bytes (Err (BadLog at)) = FailsAt IsLog bytes at
Opens bytes (Err Failed) = Unit {0}
Opens bytes (Err Memory) = Unit {0}

-- this holds unless the outside refused
abbrev pub UnlessFailed : Result BudbView BudbFault → Type 0 → Type 0
UnlessFailed (Ok budb) holds = holds
UnlessFailed (Err (BadLog at)) holds = holds
UnlessFailed (Err Failed) holds = Unit {0}
UnlessFailed (Err Memory) holds = holds
