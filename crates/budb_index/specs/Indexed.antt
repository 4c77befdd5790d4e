-- The index as contracts see it.
use Rattle.std.specs.Prelude.{ℕ, List}
use Rattle.budb_changes.specs.declared.records.DumpRecordFields.{DumpRecordFields}
use Rattle.budb_links.specs.Linked.{Linked, listed}

-- the listed dumps in the order of recording, and how many more records and fragments have room
pub record Indexed : Type 0 where
  pub listed : List DumpRecordFields
  pub spare_records : ℕ
  pub spare_frags : ℕ

-- what is seen of links
abbrev pub indexed : Linked → Indexed
indexed links = record { listed = listed links; spare_records = links.spare_records; spare_frags = links.spare_frags }
