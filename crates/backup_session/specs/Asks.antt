-- WHAT A COMMAND ASKS OF THE WORLD that it finds. Which commands have to find the archive, which volumes may be put, and which scripts have to
-- find a world that is fit to be dumped are read from it: a further family of commands is one more row here.
use Rattle.std.specs.Prelude.{ℕ, Bool, true, false}
use Rattle.backup_words.specs.declared.command.Command.{Command}
use Rattle.backup_words.specs.declared.command.Command.TheVariants.{Database, Tape, Cell, Dump, Group, Restore}
use Rattle.backup_words.specs.declared.command.TapeCommand.{TapeCommand}
use Rattle.backup_words.specs.declared.command.TapeCommand.TheVariants.{Labeltape, Readlabel, Scantape, Savedb, Restoredb}
use Rattle.backup_words.specs.declared.command.GroupCommand.{GroupCommand}
use Rattle.backup_words.specs.declared.command.GroupCommand.TheVariants.{Together, Kill, End, Jobs}
use Rattle.backup_words.specs.declared.command.RestoreCommand.{RestoreCommand}

-- Nothing; that the plant holds the archive of the world, in which these volumes are looked up; that the world is fit to be dumped; or that the
-- plant holds the archive with the changes that are read back at this port.
pub data Asks : Type 0 where
  AsksNothing : Asks
  AsksArchive : RestoreCommand → Asks
  AsksFitness : Asks
  AsksSaved : ℕ → Asks

-- what a command on tapes asks: a database that is read back
abbrev pub tape_asks : TapeCommand → Asks
tape_asks (Labeltape name pname offset slot) = AsksNothing
tape_asks (Readlabel offset slot) = AsksNothing
tape_asks (Scantape dbadd offset) = AsksNothing
tape_asks (Savedb offset) = AsksNothing
tape_asks (Restoredb offset) = AsksSaved offset

-- what a command on groups asks: the end of one dumps
abbrev pub group_asks : GroupCommand → Asks
group_asks (Together schedule) = AsksNothing
group_asks (Kill job after) = AsksNothing
group_asks End = AsksFitness
group_asks Jobs = AsksNothing

-- what a command asks of the world that it finds
abbrev pub asks : Command → Asks
asks (Database command) = AsksNothing
asks (Tape command) = tape_asks command
asks (Cell command) = AsksNothing
asks (Dump command) = AsksFitness
asks (Group command) = group_asks command
asks (Restore command) = AsksArchive command

-- ---- read from it

-- it asks for an archive
abbrev pub is_archive : Asks → Bool
is_archive AsksNothing = false
is_archive (AsksArchive command) = true
is_archive AsksFitness = false
is_archive (AsksSaved offset) = false

-- it asks for a world that is fit to be dumped
abbrev pub is_fitness : Asks → Bool
is_fitness AsksNothing = false
is_fitness (AsksArchive command) = false
is_fitness AsksFitness = true
is_fitness (AsksSaved offset) = false

-- a command that asks the archive: what a dump has of a volume
abbrev pub asks_archive : Command → Bool
asks_archive command = is_archive (asks command)

-- a command that asks for a world that is fit to be dumped
abbrev pub asks_dump : Command → Bool
asks_dump command = is_fitness (asks command)

-- it reads a saved database back
abbrev pub is_saved : Asks → Bool
is_saved AsksNothing = false
is_saved (AsksArchive command) = false
is_saved AsksFitness = false
is_saved (AsksSaved offset) = true

-- a command that reads a saved database back
abbrev pub asks_saved : Command → Bool
asks_saved command = is_saved (asks command)
