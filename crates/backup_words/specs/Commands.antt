-- What a line says.
use Rattle.std.specs.Prelude.{◌≡◌, ℕ, List, [], length, drop, Bool, not, ◌&&◌, ◌||◌, ◌==◌, nat_lt, if◌then◌else◌, option_map, unwrap_or, Option, Some, None, Result, Ok, Err}
use Rattle.std.specs.List.{position_or_len}
use Rattle.bk_text.specs.Blanks.{words_of}
use Rattle.backup_words.specs.declared.kinds.Kind.{Kind}
use Rattle.backup_words.specs.declared.kinds.Kind.TheVariants.{Addvolset, Delvolset, Addvolentry, Delvolentry, Listvolsets, Adddump, Setexp, Deldump, Listdumps, Listhosts, Checkpoint, Addhost, Delhost, Labeltape, Readlabel, Scantape, Savedb, Restoredb, Dump, Together, Kill, End, Jobs, Deletedump, Dumpinfo, Volinfo, Dbverify, Volrestore, Diskrestore, Volsetrestore, VosCreate, VosWrite, VosRmvnode, VosBackup, VosRemove, VosListvol}
use Rattle.backup_words.specs.declared.options.OptionName.TheVariants as option
use Rattle.backup_words.specs.declared.options.Rule.{Rule}
use Rattle.backup_words.specs.declared.command.Command.{Command}
use Rattle.backup_words.specs.declared.command.Command.TheVariants as command
use Rattle.backup_words.specs.declared.command.DatabaseCommand.TheVariants as database
use Rattle.backup_words.specs.declared.command.TapeCommand.TheVariants as tape
use Rattle.backup_words.specs.declared.command.CellCommand.TheVariants as cell
use Rattle.backup_words.specs.declared.command.GroupCommand.TheVariants as group
use Rattle.backup_words.specs.declared.command.RestoredVolumes.{RestoredVolumes}
use Rattle.backup_words.specs.declared.command.RestoredVolumes.TheVariants.{One, OfDisk, OfSet}
use Rattle.backup_words.specs.declared.command.Wanted.{Wanted}
use Rattle.backup_words.specs.declared.command.Disk.{Disk}
use Rattle.backup_words.specs.declared.faults.ValueFault.{ValueFault}
use Rattle.backup_words.specs.declared.faults.ValueFault.TheVariants.{Unfit, NoPattern, NoDate, TooEarly}
use Rattle.backup_words.specs.declared.faults.WordFault.{WordFault}
use Rattle.backup_words.specs.declared.faults.WordFault.TheVariants.{NoSuchCommand, BadOption, MissingOption, BadValue, LineTooLong, NotAscii, BadPattern, BadDate, DateOutOfRange, Memory}
use Rattle.backup_words.specs.Options.{option_word}
use Rattle.backup_words.specs.Kinds.{kind_of, name_length}
use Rattle.bk_text.specs.Partitions.{without_slash}
use Rattle.backup_words.specs.Words.{has, wrong_word, missing}
use Rattle.backup_words.specs.Values.{value_fault, first_word, maybe_word, word_at, number_at, maybe_number, words_at, unless_any, expiry_at, maybe_date}
use Rattle.backup_words.specs.Table.{rules_of}

-- a port offset, which is 0 where it is left out
abbrev pub port_at : List (List ℕ) → ℕ
port_at words = unwrap_or (maybe_number option.Portoffset words) 0

-- the volume that is wanted: the last dump before a date, where one is given
abbrev pub wanted_in : List (List ℕ) → Wanted
wanted_in w = record { name = word_at option.Volume w; before = maybe_date option.Date w; server = word_at option.Server w; partition = without_slash (word_at option.Partition w) }

-- the partition whose volumes are wanted, and where they are put
abbrev pub disk_in : List (List ℕ) → Disk
disk_in w = record {
  server = word_at option.Server w;
  partition = without_slash (word_at option.Partition w);
  new_server = maybe_word option.Newserver w;
  new_partition = option_map without_slash (maybe_word option.Newpartition w);
}

-- volumes are restored
abbrev pub restoring : RestoredVolumes → List (List ℕ) → Command
restoring volumes w = command.Restore (record { volumes = volumes; extension = maybe_word option.Extension w; trial = has option.N w })

-- THE COMMANDS, of words that fit.
abbrev pub built : Kind → List (List ℕ) → Command
built Addvolset w = command.Database (database.Addvolset (word_at option.Name w))
built Delvolset w = command.Database (database.Delvolset (word_at option.Name w))
built Addvolentry w = command.Database (database.Addvolentry (word_at option.Name w) (unless_any (word_at option.Server w)) (option_map without_slash (unless_any (word_at option.Partition w))) (word_at option.Volumes w))
built Delvolentry w = command.Database (database.Delvolentry (word_at option.Name w) (number_at option.Entry w))
built Listvolsets w = command.Database (database.Listvolsets (maybe_word option.Name w))
built Adddump w = command.Database (database.Adddump (words_at option.Dump w) (expiry_at option.Expires w))
built Setexp w = command.Database (database.Setexp (words_at option.Dump w) (expiry_at option.Expires w))
built Deldump w = command.Database (database.Deldump (word_at option.Dump w))
built Listdumps w = command.Database database.Listdumps
built Listhosts w = command.Database database.Listhosts
built Checkpoint w = command.Database database.Checkpoint
built Addhost w = command.Database (database.Addhost (word_at option.Tapehost w) (port_at w))
built Delhost w = command.Database (database.Delhost (word_at option.Tapehost w) (port_at w))
built Labeltape w = command.Tape (tape.Labeltape (maybe_word option.Name w) (maybe_word option.Pname w) (port_at w) (maybe_number option.Slot w))
built Readlabel w = command.Tape (tape.Readlabel (port_at w) (maybe_number option.Slot w))
built Scantape w = command.Tape (tape.Scantape (has option.Dbadd w) (port_at w))
built Savedb w = command.Tape (tape.Savedb (port_at w))
built Restoredb w = command.Tape (tape.Restoredb (port_at w))
built Dump w = command.Dump (record { set = word_at option.Volumeset w; level = word_at option.Dump w; offset = port_at w; append = has option.Append w; trial = has option.N w })
built Together w = command.Group (group.Together (number_at option.Schedule w))
built Kill w = command.Group (group.Kill (number_at option.Job w) (number_at option.After w))
built End w = command.Group group.End
built Jobs w = command.Group group.Jobs
built Deletedump w = command.Database (database.Deletedump (number_at option.Dumpid w))
built Dumpinfo w = command.Database (database.Dumpinfo (maybe_number option.Ndumps w) (maybe_number option.Id w))
built Volinfo w = command.Database (database.Volinfo (word_at option.Volume w))
built Dbverify w = command.Database database.Dbverify
built Volrestore w = restoring (One (wanted_in w)) w
built Diskrestore w = restoring (OfDisk (disk_in w)) w
built Volsetrestore w = restoring (OfSet (word_at option.Name w)) w
built VosCreate w = command.Cell (cell.VosCreate (word_at option.Server w) (without_slash (word_at option.Partition w)) (word_at option.Name w))
built VosWrite w = command.Cell (cell.VosWrite (word_at option.Volume w) (number_at option.Vnode w) (maybe_word option.Text w) (maybe_number option.Size w))
built VosRmvnode w = command.Cell (cell.VosRmvnode (word_at option.Volume w) (number_at option.Vnode w))
built VosBackup w = command.Cell (cell.VosBackup (word_at option.Volume w))
built VosRemove w = command.Cell (cell.VosRemove (word_at option.Volume w))
built VosListvol w = command.Cell cell.VosListvol

-- a fault of values, as a line is refused by it
abbrev pub told : ValueFault → WordFault
told (Unfit option) = BadValue (option_word option)
told (NoPattern at) = BadPattern at
told (NoDate at) = BadDate at
told TooEarly = DateOutOfRange

-- Why the words behind a command's name are refused: an option or value that isn't taken, then an option that isn't
-- there, and then the values.
abbrev pub refusal : List Rule → List (List ℕ) → Option WordFault
refusal rules words =
    elim (wrong_word rules [] 0 words) [
      | Some word ↦ Some (BadOption word)
      | None ↦
          elim (missing words rules) [
            | Some option ↦ Some (MissingOption (option_word option))
            | None ↦
                option_map told (value_fault words rules)
          ]
    ]

-- the command, where nothing is wrong with its words; else what is wrong
abbrev pub command_with : Kind → List (List ℕ) → Option WordFault → Result Command WordFault
command_with kind words None = Ok (built kind words)
command_with kind words (Some fault) = Err fault

-- what the words of a line say
abbrev pub words_say : List (List ℕ) → Result Command WordFault
words_say words = elim (kind_of words) [ None ↦ Err (NoSuchCommand (first_word words)) | Some kind ↦ command_with kind (drop (name_length kind) words) (refusal (rules_of kind) (drop (name_length kind) words)) ]

-- a byte that is neither a tab nor 32 to 126
abbrev pub is_foreign : ℕ → Bool
is_foreign b = not ((b == 9) || (nat_lt 31 b && nat_lt b 127))

-- WHAT A LINE SAYS.
unfoldable pub command_of : List ℕ → Result Command WordFault
command_of line =
    if nat_lt 4096 (length line) then Err LineTooLong else
    if nat_lt (position_or_len is_foreign line) (length line) then Err (NotAscii (position_or_len is_foreign line)) else words_say (words_of line)

-- the command or the refusal that is wanted, unless memory runs out
abbrev pub UnlessMemory : {A : Type 0} → Result A WordFault → Result A WordFault → Type 0
UnlessMemory wanted (Err Memory) = Unit {0}
UnlessMemory wanted result = result ≡ wanted
