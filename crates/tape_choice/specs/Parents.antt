-- Which dumps lie in the chain of a dump's parents.
use Rattle.std.specs.Prelude.{◌≡◌, ℕ, Some, List, [], ◌∷◌}
use Rattle.budb_changes.specs.declared.records.DumpRecordFields.{DumpRecordFields}
use Rattle.budb_fold.specs.Lookups.{record_of}

-- Upwards from an id: these dumps are passed, the listed one of the id and then each one's parent, and after them this dump is reached.
abbrev pub Reaches : List DumpRecordFields → ℕ → List DumpRecordFields → DumpRecordFields → Type 0
Reaches listed id [] d = record_of listed id ≡ Some d
Reaches listed id (p ∷ passed) d = (record_of listed id ≡ Some p) × Reaches listed p.parent passed d

-- a dump that is reached upwards from an id
pub record IsReached (listed : List DumpRecordFields) (id : ℕ) (d : DumpRecordFields) : Type 0 where
  pub passed : List DumpRecordFields
  pub reached : Reaches listed id passed d
