-- The dumps that have a volume.
use Rattle.std.specs.Prelude.{ℕ, List, map, Bool, is_some}
use Rattle.std.specs.List.{filter}
use Rattle.budb_changes.specs.declared.records.DumpRecordFields.{DumpRecordFields}
use Rattle.budb_fold.specs.Lookups.{volume_of}

-- a dump has a volume of exactly this name
abbrev pub has_volume : List ℕ → DumpRecordFields → Bool
has_volume name dump = is_some (volume_of dump name)

-- the ids of the listed dumps that have one, in the order of recording
abbrev pub holders : List DumpRecordFields → List ℕ → List ℕ
holders listed name = map (λ dump. dump.id) (filter (has_volume name) listed)
