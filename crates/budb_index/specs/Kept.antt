-- What is so of the records of an index.
use Rattle.std.specs.Prelude.{◌≡◌, ◌≢◌, ℕ, ◌≤◌, List, [], ◌∷◌, length, true, Some}
use Rattle.std.specs.List.{AllByRecursion}
use Rattle.budb_changes.specs.declared.records.DumpRecordFields.{DumpRecordFields}
use Rattle.budb_fold.specs.Database.{is_initial}
use Rattle.budb_fold.specs.Lookups.{record_of}

-- each volume has a fragment, so that a walk by a volume's name comes by each record that has the volume
abbrev pub HasFrags : DumpRecordFields → Type 0
HasFrags dump = AllByRecursion (λ volume. 1 ≤ length volume.frags) dump.volumes

-- no two records have an id
abbrev pub AreOnce : List DumpRecordFields → Type 0
AreOnce [] = Unit {0}
AreOnce (dump ∷ dumps) = AllByRecursion (λ other. other.id ≢ dump.id) dumps × AreOnce dumps

-- no two of the indexed records have the same id, and each volume of each of them has a fragment
pub record KeepsIndex (dumps : List DumpRecordFields) : Type 0 where
  pub once : AreOnce dumps
  pub frags : AllByRecursion HasFrags dumps

-- a record of this id is listed, and is of the initial id
pub record IsOfInitial (initial id : ℕ) (dumps : List DumpRecordFields) : Type 0 where
  pub dump : DumpRecordFields
  pub found : record_of dumps id ≡ Some dump
  pub each : AllByRecursion (λ other. other.id ≡ id → is_initial initial other ≡ true) dumps
