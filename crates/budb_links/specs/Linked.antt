-- Records of dumps, linked by index.
use Rattle.std.specs.Prelude.{ℕ, List}
use Rattle.budb_changes.specs.declared.records.DumpRecordFields.{DumpRecordFields}
use Rattle.budb_links.specs.Entries.{Entry, dumps_of, places_of}
use Rattle.budb_links.specs.Frags.{Placed}

-- the records in the order of recording and their fragments in the same order, and how many more of both have room
pub record Linked : Type 0 where
  pub entries : List Entry
  pub frags : List Placed
  pub spare_records : ℕ
  pub spare_frags : ℕ

-- the records alone, and their places
abbrev pub listed : Linked → List DumpRecordFields
listed links = dumps_of links.entries

-- the places of the records, in the order of recording
abbrev pub places : Linked → List ℕ
places links = places_of links.entries
