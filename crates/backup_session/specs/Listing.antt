-- WHAT A SCAN THAT ADDS DUMPS LISTS.
use Rattle.std.specs.Prelude.{◌≡◌, ℕ, ◌<◌, ◌≤◌, Bool, not, ◌&&◌, List, [], ◌∷◌, ◌++◌, length, map, filter}
use Rattle.budb_changes.specs.declared.records.DumpRecordFields.{DumpRecordFields}
use Rattle.budb_changes.specs.declared.change.Change.{Change}
use Rattle.budb_changes.specs.declared.change.Change.TheVariants as change
use Rattle.budb_changes.specs.Bytes.{encoded}
use Rattle.budb_fold.specs.Database.{after, has_dump}
use Rattle.tape_scan.specs.Slots.{Located}
use Rattle.tape_scan.specs.Scanned.{Scanned}
use Rattle.tape_answers.specs.Slots.{slot_of}
use Rattle.backup_session.specs.Worlds.{World, Turn}
use Rattle.backup_session.specs.Scanning.{has_wrong_parent}

-- A dump that may be listed: it isn't listed yet, and its parent isn't wrong.
abbrev pub may_be_listed : List DumpRecordFields → DumpRecordFields → Bool
may_be_listed listed d = not (has_dump listed d.id) && not (has_wrong_parent d)

-- the changes that list dumps, one each
abbrev pub found_changes : List DumpRecordFields → List Change
found_changes dumps = map change.Found dumps

-- a log with the records of these dumps has room, which is told of some dumps alone; and it has none for one more
abbrev pub HasRoom : List Change → List DumpRecordFields → Type 0
HasRoom log [] = Unit {0}
HasRoom log (d ∷ dumps) = length (encoded (log ++ found_changes (d ∷ dumps))) ≤ 268435456

-- the log has no room for the first of these dumps behind those that are listed; of none nothing is said
abbrev pub IsFullAt : List Change → List DumpRecordFields → List DumpRecordFields → Type 0
IsFullAt log listed [] = Unit {0}
IsFullAt log listed (d ∷ dumps) = 268435456 < length (encoded (log ++ found_changes (listed ++ d ∷ [])))

-- Of these dumps those are listed for whose records a log has room, up to the first for which it has none.
pub record IsRoomFor (log : List Change) (dumps listed : List DumpRecordFields) : Type 0 where
  pub more : List DumpRecordFields
  pub are : dumps ≡ listed ++ more
  pub room : HasRoom log listed
  pub full : IsFullAt log listed more

-- A turn lists what is whole over the tapes in these slots: of the whole dumps, by ascending id, those that may be listed, so far as the
-- log has room for their records. Nothing else is changed in the journal, and they stand behind what was listed.
pub record ListsWhole (w : World) (slots : List ℕ) (t : Turn) : Type 0 where
  pub whole : List DumpRecordFields
  pub left : List Located
  pub scanned : Scanned (map (slot_of w.setting.present w.state.tape) slots) whole left
  pub listed : List DumpRecordFields
  pub room : IsRoomFor w.log (filter (may_be_listed (after w.log).listed) whole) listed
  pub log : t.log ≡ w.log ++ found_changes listed
  pub database : (after t.log).listed ≡ (after w.log).listed ++ listed
