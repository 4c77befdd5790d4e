-- The first word of the line that says a command.
use Rattle.std.specs.Prelude.{ℕ, List, codes}
use Rattle.backup_words.specs.declared.command.Command.{Command}
use Rattle.backup_words.specs.declared.command.Command.TheVariants.{Database, Tape, Cell, Dump, Group, Restore}
use Rattle.backup_words.specs.declared.command.DatabaseCommand.{DatabaseCommand}
use Rattle.backup_words.specs.declared.command.DatabaseCommand.TheVariants.{Addvolset, Delvolset, Addvolentry, Delvolentry, Listvolsets, Adddump, Setexp, Deldump, Listdumps, Listhosts, Checkpoint, Addhost, Delhost, Deletedump, Dumpinfo, Volinfo, Dbverify}
use Rattle.backup_words.specs.declared.command.TapeCommand.{TapeCommand}
use Rattle.backup_words.specs.declared.command.TapeCommand.TheVariants.{Labeltape, Readlabel, Scantape, Savedb, Restoredb}
use Rattle.backup_words.specs.declared.command.GroupCommand.{GroupCommand}
use Rattle.backup_words.specs.declared.command.GroupCommand.TheVariants.{Together, Kill, End, Jobs}
use Rattle.backup_words.specs.declared.command.RestoredVolumes.{RestoredVolumes}
use Rattle.backup_words.specs.declared.command.RestoredVolumes.TheVariants.{One, OfDisk, OfSet}

-- of a command on the database: its own word
abbrev pub database_word : DatabaseCommand → List ℕ
database_word (Addvolset name) = codes "addvolset"
database_word (Delvolset name) = codes "delvolset"
database_word (Addvolentry name server partition volumes) = codes "addvolentry"
database_word (Delvolentry name entry) = codes "delvolentry"
database_word (Listvolsets name) = codes "listvolsets"
database_word (Adddump dump expires) = codes "adddump"
database_word (Setexp dump expires) = codes "setexp"
database_word (Deldump dump) = codes "deldump"
database_word Listdumps = codes "listdumps"
database_word Listhosts = codes "listhosts"
database_word Checkpoint = codes "checkpoint"
database_word (Addhost tapehost portoffset) = codes "addhost"
database_word (Delhost tapehost portoffset) = codes "delhost"
database_word (Deletedump dumpid) = codes "deletedump"
database_word (Dumpinfo ndumps id) = codes "dumpinfo"
database_word (Volinfo volume) = codes "volinfo"
database_word Dbverify = codes "dbverify"

-- of a command on tapes: its own word
abbrev pub tape_word : TapeCommand → List ℕ
tape_word (Labeltape name pname portoffset slot) = codes "labeltape"
tape_word (Readlabel portoffset slot) = codes "readlabel"
tape_word (Scantape dbadd portoffset) = codes "scantape"
tape_word (Savedb portoffset) = codes "savedb"
tape_word (Restoredb portoffset) = codes "restoredb"

-- of a command on a group of dumps: its own word
abbrev pub group_word : GroupCommand → List ℕ
group_word (Together schedule) = codes "together"
group_word (Kill job after) = codes "kill"
group_word End = codes "end"
group_word Jobs = codes "jobs"

-- of a command that restores: by what it restores
abbrev pub restore_word : RestoredVolumes → List ℕ
restore_word (One wanted) = codes "volrestore"
restore_word (OfDisk disk) = codes "diskrestore"
restore_word (OfSet name) = codes "volsetrestore"

-- THE FIRST WORD of the line that says a command: the command's own; for each command on the cell it is `vos`.
unfoldable pub command_word : Command → List ℕ
command_word (Database command) = database_word command
command_word (Tape command) = tape_word command
command_word (Cell command) = codes "vos"
command_word (Dump command) = codes "dump"
command_word (Group command) = group_word command
command_word (Restore command) = restore_word command.volumes
