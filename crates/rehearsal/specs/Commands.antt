-- WHAT A REHEARSAL DOES: the commands of its three sessions, at their moments.
use Rattle.std.specs.Prelude.{ℕ, ◌+◌, ◌*◌, ◌%◌, List, [], ◌∷◌, ◌++◌, map, Bool, true, false, ◌==◌, Some, None}
use Rattle.std.specs.List.{filter, flat_map}
use Rattle.bk_text.specs.declared.expiry.Expiry.TheVariants.{Unset}
use Rattle.backup_words.specs.declared.command.Command.{Command}
use Rattle.backup_words.specs.declared.command.Command.TheVariants.{Database, Tape, Cell, Dump, Restore}
use Rattle.backup_words.specs.declared.command.DatabaseCommand.TheVariants.{Addhost, Addvolset, Addvolentry, Adddump}
use Rattle.backup_words.specs.declared.command.TapeCommand.TheVariants.{Scantape}
use Rattle.backup_words.specs.declared.command.CellCommand.TheVariants.{VosCreate, VosWrite}
use Rattle.backup_words.specs.declared.command.RestoredVolumes.TheVariants.{One}
use Rattle.backup_words.specs.declared.command.Wanted.{Wanted}
use Rattle.rehearsal.specs.declared.batch.Batch.{Batch}
use Rattle.rehearsal.specs.Names.{tape_host, server, partition, volumes, volume_name, extension, set_name, pattern, full_level, first_level, second_level, third_level}

-- some commands at one moment
abbrev pub at : ℕ → List Command → Batch
at now commands = record { now = now; commands = commands }

-- ---- the commands

-- vnode 2 of a volume gets so many bytes
abbrev pub writing : ℕ → ℕ → Command
writing k size = Cell (VosWrite (volume_name k) 2 None (Some size))

-- a volume is made
abbrev pub creating : ℕ → Command
creating k = Cell (VosCreate server partition (volume_name k))

-- a volume is created, and its vnode written
abbrev pub making : ℕ → List Command
making k = creating k ∷ (writing k (1000 * k) ∷ [])

-- the set is dumped at a level
abbrev pub dumping : List ℕ → Command
dumping level = Dump (record { set = set_name; level = level; offset = 0; append = false; trial = false })

-- a volume is restored beside itself, as it is now
abbrev pub wanted : ℕ → Wanted
wanted k = record { name = volume_name k; before = None; server = server; partition = partition }

-- a volume is restored under its own name with the extension
abbrev pub restoring : ℕ → Command
restoring k = Restore (record { volumes = One (wanted k); extension = Some extension; trial = false })

-- a tape host is added
abbrev pub hosting : Command
hosting = Database (Addhost tape_host 0)

-- the tapes are scanned, and the dumps that are found are added
abbrev pub scanning : Command
scanning = Tape (Scantape true 0)

-- ---- the first session: volumes are made, dumped, changed and dumped

-- the volume set is added, its entry, and the levels
abbrev pub adding_set : Command
adding_set = Database (Addvolset set_name)

-- the volume set gets an entry for any server and partition
abbrev pub adding_entry : Command
adding_entry = Database (Addvolentry set_name None None pattern)

-- the four levels are added, without an expiration
abbrev pub adding_levels : Command
adding_levels = Database (Adddump (full_level ∷ (first_level ∷ (second_level ∷ (third_level ∷ [])))) Unset)

-- a tape host, the volume set and the levels are added
abbrev pub adding : List Command
adding = hosting ∷ (adding_set ∷ (adding_entry ∷ (adding_levels ∷ [])))

-- in a round each third volume is changed
abbrev pub is_changed : ℕ → ℕ → Bool
is_changed r k = k % 3 == r % 3

-- in a round the volumes that are changed in it
abbrev pub changing : ℕ → ℕ → List Command
changing n r = map (λ k. writing k (1000 * k + r)) (filter (is_changed r) (volumes n))

-- volumes are changed, and the set is dumped at the round's level
abbrev pub round : ℕ → ℕ → List ℕ → List Batch
round n r level = at (1000050 + 100 * r) (changing n r) ∷ (at (1000100 + 100 * r) (dumping level ∷ []) ∷ [])

-- the first session: the service is set up, volumes are made, and they are dumped once fully and three times by increments
abbrev pub first_session : ℕ → List Batch
first_session n =
    at 1000000 (adding ++ flat_map making (volumes n)) ∷ (at 1000100 (dumping full_level ∷ []) ∷ (round n 1 first_level ++ round n 2 second_level ++ round n 3 third_level))

-- ---- the second and the third session: the tapes are scanned, and each volume is restored

-- the second session: a tape host is added, the tapes are scanned, and each volume's restore is tried
abbrev pub second_session : ℕ → List Batch
second_session n = at 1000500 (hosting ∷ (scanning ∷ map restoring (volumes n))) ∷ []

-- the third session: the tapes are scanned again, and each volume is restored
abbrev pub third_session : ℕ → List Batch
third_session n = at 1000600 (scanning ∷ map restoring (volumes n)) ∷ []
