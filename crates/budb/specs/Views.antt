-- The database as contracts see it.
use Rattle.std.specs.Prelude.{◌≡◌, List, [], Option, Some, None, IfSome}
use Rattle.std.specs.Option.{unwrap_or}
use Rattle.budb_changes.specs.declared.change.Change.{Change}
use Rattle.budb_changes.specs.Bytes.{encoded}
use Rattle.budb_changes.specs.Forms.{AreChanges}
use Rattle.budb_fold.specs.declared.database.Database.{Database}
use Rattle.budb_fold.specs.Database.{after_from}
use Rattle.budb_index.specs.Indexed.{Indexed}
use Rattle.budb_index.specs.Relistings.{relistings_of, HasRoom}
use Rattle.budb.specs.declared.prepared.Prepared.{Prepared}
use Rattle.budb.specs.declared.copies.Behind.{Behind}

-- What the log's changes make, and the changes that are prepared, where some are. An empty list may be prepared too.
pub record BudbView : Type 0 where
  pub database : Database
  pub prepared : Option (List Change)

-- the changes that are prepared
abbrev pub prepared_of : BudbView → List Change
prepared_of budb = unwrap_or budb.prepared []

-- ---- inside the crate

-- the changes of what is prepared; `None` where nothing is, which isn't the same as none of them
abbrev pub changes_of : Option Prepared → Option (List Change)
changes_of None = None
changes_of (Some one) = Some one.changes

-- the changes are encoded, the database after them is made, and the index has room for what they list
pub record IsPrepared (db : Database) (index : Indexed) (one : Prepared) : Type 0 where
  pub form : AreChanges one.changes
  pub bytes : one.bytes ≡ encoded one.changes
  pub database : one.database ≡ after_from one.changes db
  pub coming : one.coming ≡ relistings_of one.changes
  pub room : HasRoom index one.coming

-- the copy is the database once its changes are made
abbrev pub CatchesUp : Database → Behind → Type 0
CatchesUp db copy = after_from copy.changes copy.database ≡ db

-- the index has the listed dumps, what is prepared, where something is, is ready for a commit, and a copy that is behind catches up
pub record IsKept (db : Database) (index : Indexed) (prepared : Option Prepared) (behind : Option Behind) : Type 0 where
  pub listed : index.listed ≡ db.listed
  pub ready : IfSome prepared (IsPrepared db index)
  pub copy : IfSome behind (CatchesUp db)
