-- WHAT A COMMAND FINDS. One that asks the archive is said by a look-up in it, which is so of a plant that holds it. All others take the
-- plant as it is.
use Rattle.std.specs.Prelude.{List, Bool, true, false}
use Rattle.plant_core.specs.Crashes.{seen_in}
use Rattle.budb_changes.specs.declared.records.DumpRecordFields.{DumpRecordFields}
use Rattle.archive_model.specs.Archives.{Holds}
use Rattle.backup_words.specs.declared.command.Command.{Command}
use Rattle.backup_session.specs.Asks.{asks_archive}
use Rattle.backup_session.specs.Worlds.{World, archive_of}

-- the plant holds the archive of the world
abbrev pub HoldsArchive : World → Type 0
HoldsArchive w = (records : List DumpRecordFields) × Holds (seen_in w.state) (archive_of w) records

-- where that is asked for
abbrev pub HeldWhere : Bool → World → Type 0
HeldWhere true w = HoldsArchive w
HeldWhere false w = Unit {0}

-- what a command finds: the archive of the world, where it asks for it
abbrev pub HeldFor : World → Command → Type 0
HeldFor w command = HeldWhere (asks_archive command) w
