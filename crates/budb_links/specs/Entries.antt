-- Records of dumps, each at a place.
use Rattle.std.specs.Prelude.{ℕ, ◌%◌, List, [], ◌∷◌, map, not, ◌==◌, if◌then◌else◌, length, Option, Some, None}
use Rattle.std.specs.List.{filter, find}
use Rattle.std.specs.Int.{w32, to_be_bytes}
use Rattle.bk_text.specs.Blanks.{is_same_text}
use Rattle.budb_changes.specs.declared.records.DumpRecordFields.{DumpRecordFields}

-- a record, and its place
pub record Entry : Type 0 where
  pub place : ℕ
  pub dump : DumpRecordFields

-- the records in the order of recording, and how many more have room
pub record Recorded : Type 0 where
  pub entries : List Entry
  pub spare_records : ℕ

-- the entry of a dump's record that stands at a place
abbrev pub entry_at : ℕ → DumpRecordFields → Entry
entry_at place dump = record { place = place; dump = dump }

-- the records alone, and their places
abbrev pub dumps_of : List Entry → List DumpRecordFields
dumps_of = map (λ entry. entry.dump)

-- the places of the records, in the order of recording
abbrev pub places_of : List Entry → List ℕ
places_of = map (λ entry. entry.place)

-- the records of a volume set, and those of an initial id in its four bytes
abbrev pub of_set : List ℕ → List Entry → List Entry
of_set key = filter (λ entry. is_same_text entry.dump.set key)

-- the records of dumps in the dump set of an initial id, whose key is its four bytes, the highest first
abbrev pub of_initial : List ℕ → List Entry → List Entry
of_initial key = filter (λ entry. is_same_text (to_be_bytes w32 entry.dump.initial) key)

-- the record of an id
abbrev pub record_of : ℕ → List DumpRecordFields → Option DumpRecordFields
record_of id = find (λ dump. dump.id == id)

-- all records but that of an id
abbrev pub without_id : ℕ → List Entry → List Entry
without_id id = filter (λ entry. not (entry.dump.id == id))

-- the record at a place
abbrev pub record_at : ℕ → List Entry → Option DumpRecordFields
record_at place [] = None
record_at place (entry ∷ entries) = if entry.place == place then Some entry.dump else record_at place entries

-- how many records have an id with the same remainder
abbrev pub of_bucket : ℕ → List DumpRecordFields → ℕ
of_bucket id dumps = length (filter (λ dump. dump.id % 1024 == id % 1024) dumps)
