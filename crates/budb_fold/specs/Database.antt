-- The database that changes make: the fold of a log.
use Rattle.std.specs.Prelude.{ℕ, List, [], ◌∷◌, ◌++◌, max, Bool, true, not, ◌&&◌, ◌==◌, nat_lt, if◌then◌else◌, Option, Some, None, is_some, Result, Ok, Err}
use Rattle.std.specs.List.{filter, list_any, list_all}
use Rattle.std.specs.Option.{unwrap_or}
use Rattle.volume_sets.specs.Testing.{is_pattern}
use Rattle.volume_sets.specs.Sets.{after_add as after_add_set, after_remove as after_remove_set, after_add_entry, after_remove_entry}
use Rattle.volume_sets.specs.declared.sets.SetEntry.{SetEntry}
use Rattle.volume_sets.specs.declared.sets.VolumeSet.{VolumeSet}
use Rattle.volume_sets.specs.declared.sets.SetsFault.{SetsFault}
use Rattle.dump_levels.specs.declared.levels.Level.{Level}
use Rattle.dump_levels.specs.declared.levels.LevelFault.{LevelFault}
use Rattle.dump_levels.specs.Trees.{after_add as after_add_level, after_set as after_set_level, after_remove as after_remove_level}
use Rattle.budb_changes.specs.declared.records.VolRecordFields.{VolRecordFields}
use Rattle.budb_changes.specs.declared.records.DumpRecordFields.{DumpRecordFields}
use Rattle.budb_changes.specs.declared.change.Change.{Change}
use Rattle.budb_changes.specs.declared.change.Change.TheVariants.{AddSet, DelSet, AddEntry, DelEntry, AddLevel, SetExpiry, DelLevel, AddHost, DelHost, Begin, Take, Done1, Forget, Found1, Done, Found}
use Rattle.budb_fold.specs.declared.database.HostPort.{HostPort}
use Rattle.budb_fold.specs.declared.database.Database.{Database}

-- Sets, levels and hosts stand in the order of adding, dumps in the order of recording; `greatest` is the greatest id
-- that was begun or recorded.
abbrev pub blank : Database
blank = record { sets = []; levels = []; hosts = []; greatest = 0; listed = [] }

-- ---- what is there

-- a tape host stands at this port offset
abbrev pub is_port : ℕ → HostPort → Bool
is_port port host = host.port == port

-- some tape host stands at this port offset
abbrev pub has_port : List HostPort → ℕ → Bool
has_port hosts port = list_any (is_port port) hosts

-- a dump's record has this id
abbrev pub is_dump : ℕ → DumpRecordFields → Bool
is_dump id dump = dump.id == id

-- some listed dump has this id
abbrev pub has_dump : List DumpRecordFields → ℕ → Bool
has_dump listed id = list_any (is_dump id) listed

-- a dump's record has this initial id, which is the id of the first dump on its tapes
abbrev pub is_initial : ℕ → DumpRecordFields → Bool
is_initial initial dump = dump.initial == initial

-- ---- what fits

-- the volume was dumped whole
abbrev pub is_whole : VolRecordFields → Bool
is_whole volume = volume.from == 0

-- A record has an id other than 0 that isn't listed, and a parent below it; without a parent it has whole volumes alone.
abbrev pub fits_record : DumpRecordFields → List DumpRecordFields → Bool
fits_record dump listed =
    not (dump.id == 0) && not (has_dump listed dump.id) && nat_lt dump.parent dump.id
    && (if dump.parent == 0 then list_all is_whole dump.volumes else true)

-- the entry of a volume set for a server and a partition, where `None` is any, and a pattern of names
abbrev pub entry_of : Option (List ℕ) → Option (List ℕ) → List ℕ → SetEntry
entry_of server partition pattern = record { server = server; partition = partition; pattern = pattern }

-- ---- what a change makes

-- all but those that are so
abbrev pub without : {X : Type 0} → (X → Bool) → List X → List X
without is_so xs = filter (λ x. not (is_so x)) xs

-- what a call on the sets leaves, and one on the levels; none where it is refused
abbrev pub with_sets : Database → Result (List VolumeSet) SetsFault → Option Database
with_sets db (Ok sets) = Some (record db { sets = sets })
with_sets db (Err fault) = None

-- the database with the levels that a call on them leaves; `None` where the call is refused
abbrev pub with_levels : Database → Result (List Level) LevelFault → Option Database
with_levels db (Ok levels) = Some (record db { levels = levels })
with_levels db (Err fault) = None

-- an entry is put last, where its pattern is one
abbrev pub with_entry : Database → List ℕ → SetEntry → Option Database
with_entry db set entry = if is_pattern entry.pattern then with_sets db (after_add_entry set entry db.sets) else None

-- a tape host is put last, where its port has none
abbrev pub with_host : Database → HostPort → Option Database
with_host db host = if has_port db.hosts host.port then None else Some (record db { hosts = db.hosts ++ host ∷ [] })

-- a record that fits is listed last, and its id counts as begun
abbrev pub with_record : Database → DumpRecordFields → Option Database
with_record db dump =
    if fits_record dump db.listed then Some (record db { greatest = max db.greatest dump.id; listed = db.listed ++ dump ∷ [] }) else None

-- What a change makes of a database; none where it doesn't fit. What isn't there may be forgotten.
abbrev pub made : Change → Database → Option Database
made (AddSet set) db = with_sets db (after_add_set set db.sets)
made (DelSet set) db = with_sets db (after_remove_set set db.sets)
made (AddEntry set server partition pattern) db = with_entry db set (entry_of server partition pattern)
made (DelEntry set number) db = with_sets db (after_remove_entry set number db.sets)
made (AddLevel level expiry) db = with_levels db (after_add_level db.levels level expiry)
made (SetExpiry level expiry) db = with_levels db (after_set_level db.levels level expiry)
made (DelLevel level) db = with_levels db (after_remove_level db.levels level)
made (AddHost host port) db = with_host db (record { host = host; port = port })
made (DelHost port) db = Some (record db { hosts = without (is_port port) db.hosts })
made (Begin id) db = Some (record db { greatest = max db.greatest id })
made (Take initial) db = Some (record db { listed = without (is_initial initial) db.listed })
made (Done1 dump) db = with_record db dump
made (Forget id) db = Some (record db { listed = without (is_dump id) db.listed })
made (Found1 dump) db = with_record db dump
made (Done dump) db = with_record db dump
made (Found dump) db = with_record db dump

-- whether a change fits the database: one that doesn't changes nothing
abbrev pub fits : Change → Database → Bool
fits change db = is_some (made change db)

-- ---- the fold

-- a change that doesn't fit changes nothing at all
abbrev pub after_change : Change → Database → Database
after_change change db = unwrap_or (made change db) db

-- one change after the other
abbrev pub after_from : List Change → Database → Database
after_from [] db = db
after_from (change ∷ changes) db = after_from changes (after_change change db)

-- the database of a log
abbrev pub after : List Change → Database
after changes = after_from changes blank
