-- Commands whose changes, labels and volumes have bytes.
use Rattle.std.specs.Prelude.{All, IfSome}
use Rattle.bk_text.specs.Alphabets.{IsName, IsHost, IsSetName, IsTapeName}
use Rattle.bk_text.specs.LevelPaths.{IsLevelPath}
use Rattle.byte_formats.specs.Forms.{IsTwo, IsFour, IsAnyOr}
use Rattle.budb_changes.specs.Printable.{IsPatternBytes}
use Rattle.budb_changes.specs.Forms.{IsExpiry}
use Rattle.dump_stream.specs.Forms.{IsBytes}
use Rattle.backup_words.specs.declared.command.Command.{Command}
use Rattle.backup_words.specs.declared.command.Command.TheVariants.{Database, Tape, Cell, Dump, Group, Restore}
use Rattle.backup_words.specs.declared.command.DatabaseCommand.{DatabaseCommand}
use Rattle.backup_words.specs.declared.command.DatabaseCommand.TheVariants.{Addvolset, Delvolset, Addvolentry, Delvolentry, Listvolsets, Adddump, Setexp, Deldump, Listdumps, Listhosts, Checkpoint, Addhost, Delhost, Deletedump, Dumpinfo, Volinfo, Dbverify}
use Rattle.backup_words.specs.declared.command.TapeCommand.{TapeCommand}
use Rattle.backup_words.specs.declared.command.TapeCommand.TheVariants.{Labeltape, Readlabel, Scantape, Savedb, Restoredb}
use Rattle.backup_words.specs.declared.command.CellCommand.{CellCommand}
use Rattle.backup_words.specs.declared.command.CellCommand.TheVariants.{VosCreate, VosWrite, VosRmvnode, VosBackup, VosRemove, VosListvol}
use Rattle.backup_words.specs.declared.command.GroupCommand.{GroupCommand}
use Rattle.backup_words.specs.declared.command.GroupCommand.TheVariants.{Together, Kill, End, Jobs}
use Rattle.backup_words.specs.declared.command.RestoredVolumes.{RestoredVolumes}
use Rattle.backup_words.specs.declared.command.RestoredVolumes.TheVariants.{One, OfDisk, OfSet}

-- Fields that go into changes of the journal have the forms in which the journal writes them.
abbrev pub DatabaseForms : DatabaseCommand → Type 0
DatabaseForms (Addvolset name) = IsSetName name
DatabaseForms (Delvolset name) = IsSetName name
DatabaseForms (Addvolentry name server partition pattern) = IsSetName name × IsAnyOr IsHost server × IsAnyOr IsName partition × IsPatternBytes pattern
DatabaseForms (Delvolentry name number) = IsSetName name × IsFour number
DatabaseForms (Listvolsets name) = Unit {0}
DatabaseForms (Adddump paths expiry) = All IsLevelPath paths × IsExpiry expiry
DatabaseForms (Setexp paths expiry) = All IsLevelPath paths × IsExpiry expiry
DatabaseForms (Deldump path) = IsLevelPath path
DatabaseForms Listdumps = Unit {0}
DatabaseForms Listhosts = Unit {0}
DatabaseForms Checkpoint = Unit {0}
DatabaseForms (Addhost host port) = IsHost host × IsTwo port
DatabaseForms (Delhost host port) = IsTwo port
DatabaseForms (Deletedump id) = IsFour id
DatabaseForms (Dumpinfo count id) = Unit {0}
DatabaseForms (Volinfo name) = Unit {0}
DatabaseForms Dbverify = Unit {0}

-- Fields of a label have the forms of names of tapes.
abbrev pub TapeForms : TapeCommand → Type 0
TapeForms (Labeltape name pname portoffset slot) = IfSome name IsTapeName × IfSome pname IsTapeName
TapeForms (Readlabel portoffset slot) = Unit {0}
TapeForms (Scantape dbadd portoffset) = Unit {0}
TapeForms (Savedb portoffset) = Unit {0}
TapeForms (Restoredb portoffset) = Unit {0}

-- Fields that go into the cell have the forms of names of servers, partitions and volumes, of numbers of vnodes, and of data.
abbrev pub CellForms : CellCommand → Type 0
CellForms (VosCreate server partition name) = IsHost server × IsName partition × IsName name
CellForms (VosWrite volume vnode text size) = IsFour vnode × IfSome text IsBytes
CellForms (VosRmvnode volume vnode) = Unit {0}
CellForms (VosBackup volume) = Unit {0}
CellForms (VosRemove volume) = Unit {0}
CellForms VosListvol = Unit {0}

-- The schedule of a group, the number of a held dump and the number of its steps are numbers of four bytes.
abbrev pub GroupForms : GroupCommand → Type 0
GroupForms (Together schedule) = IsFour schedule
GroupForms (Kill job after) = IsFour job × IsFour after
GroupForms End = Unit {0}
GroupForms Jobs = Unit {0}

-- Servers and partitions that volumes are restored to have the forms of their names.
abbrev pub RestoredForms : RestoredVolumes → Type 0
RestoredForms (One wanted) = IsHost wanted.server × IsName wanted.partition
RestoredForms (OfDisk disk) = IsHost disk.server × IsName disk.partition × IfSome disk.new_server IsHost × IfSome disk.new_partition IsName
RestoredForms (OfSet name) = Unit {0}

-- A command's fields have the forms in which the journal, tapes and the cell write them.
abbrev pub HasForms : Command → Type 0
HasForms (Database command) = DatabaseForms command
HasForms (Tape command) = TapeForms command
HasForms (Cell command) = CellForms command
HasForms (Dump command) = IsSetName command.set × IsLevelPath command.level
HasForms (Group command) = GroupForms command
HasForms (Restore command) = RestoredForms command.volumes
