-- How records are stored: each at the place of its id, in the chain of all records.
use Rattle.std.specs.Prelude.{◌≡◌, ◌≢◌, ◌⊎◌, ℕ, zero, suc, ◌+◌, ◌^◌, ◌<◌, ◌≤◌, List, [], ◌∷◌, length, map, Option, Some, None, slice_index_or}
use Rattle.std.specs.List.{AllByRecursion}
use Rattle.std.specs.Int.{w32, to_be_bytes}
use Rattle.budb_changes.specs.declared.records.DumpRecordFields.{DumpRecordFields}
use Rattle.budb_links.specs.Stands.{Stand, place_of}
use Rattle.budb_links.specs.Chained.{Woven, stand_at, chain_of}
use Rattle.budb_links.specs.Entries.{Entry, entry_at}
use Rattle.budb_links.specs.Keys.{Numbering, numbers_in, number_of}

-- what stands at a place, such as a record
abbrev pub slot_at : {X : Type 0} → List (Option X) → ℕ → Option X
slot_at slots place = slice_index_or slots place None

-- the member of a chain that a record is: its place, and its dump's id
abbrev pub stand_of : Entry → Stand
stand_of entry = stand_at entry.place entry.dump.id

-- the members of a chain: the first one has all records
abbrev pub stands_at : ℕ → List Entry → List Stand
stands_at zero entries = map stand_of entries
stands_at (suc head) entries = []

-- the record that a member stands for, where there is one
abbrev pub with_slot : ℕ → Option DumpRecordFields → List Entry → List Entry
with_slot place None entries = entries
with_slot place (Some dump) entries = entry_at place dump ∷ entries

-- the records that the members of a chain stand for
abbrev pub entries_of : List (Option DumpRecordFields) → List Stand → List Entry
entries_of slots [] = []
entries_of slots (s ∷ ss) = with_slot s.place (slot_at slots s.place) (entries_of slots ss)

-- no two records have an id
abbrev pub DistinctIds : List Entry → Type 0
DistinctIds [] = Unit {0}
DistinctIds (entry ∷ entries) = AllByRecursion (λ other. other.dump.id ≢ entry.dump.id) entries × DistinctIds entries

-- a record stands at the place
abbrev pub HasPlace : ℕ → List Entry → Type 0
HasPlace place [] = ⊥
HasPlace place (entry ∷ entries) = (entry.place ≡ place) ⊎ HasPlace place entries

-- nothing stands at the places, and none of them is there twice
abbrev pub AreFree : {X : Type 0} → List (Option X) → List ℕ → Type 0
AreFree slots [] = Unit {0}
AreFree slots (place ∷ places) =
    (place < length slots) × (slot_at slots place ≡ None) × AllByRecursion (λ other. other ≢ place) places × AreFree slots places

-- these records are stored: each at its place, and in the chain of all; all other places are free
pub record Stores (arena : Woven) (slots : List (Option DumpRecordFields)) (free : List ℕ) (entries : List Entry) : Type 0 where
  pub chains : (head : ℕ) → chain_of arena 0 head ≡ stands_at head entries
  pub holds : AllByRecursion (λ entry. slot_at slots entry.place ≡ Some entry.dump) entries
  pub only : (place : ℕ) (dump : DumpRecordFields) → slot_at slots place ≡ Some dump → HasPlace place entries
  pub ids : DistinctIds entries
  pub vacant : AreFree slots free
  pub all : length free + length entries ≡ length slots
  pub rows : length slots ≤ length arena.rows
  pub heads : 0 < length slots → 0 < length arena.ends

-- the id of each record has the number of its place, no other id has one, and the numbers are those of the places
pub record NumbersIds (ids : Numbering) (places : ℕ) (entries : List Entry) : Type 0 where
  pub placed : (id : ℕ) → id < 2 ^ 32 → number_of (to_be_bytes w32 id) ids.used ≡ place_of id (map stand_of entries)
  pub count : numbers_in ids ≡ places

-- so many numbers from one on
abbrev pub numbers_from : ℕ → ℕ → List ℕ
numbers_from first zero = []
numbers_from first (suc count) = first ∷ numbers_from (first + 1) count
