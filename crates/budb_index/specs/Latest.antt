-- The best of pairs of a dump and a volume, a pair at a time.
use Rattle.std.specs.Prelude.{ℕ, List, [], ◌∷◌, if◌then◌else◌, Option, Some, None}
use Rattle.std.specs.List.{flat_map}
use Rattle.budb_changes.specs.declared.records.DumpRecordFields.{DumpRecordFields}
use Rattle.budb_fold.specs.Lookups.{VolumeDump, volume_of, dump_by, is_before, beats}

-- the one of two that goes before the other
abbrev pub better : List ℕ → Option VolumeDump → VolumeDump → Option VolumeDump
better name None one = Some one
better name (Some best) one = if beats name one best then Some one else Some best

-- the same, where only a clone time below the bound counts
abbrev pub better_before : List ℕ → Option ℕ → Option VolumeDump → Option VolumeDump → Option VolumeDump
better_before name before best None = best
better_before name before best (Some one) = if is_before before one then better name best one else best

-- the best one of these and of one that there was
abbrev pub best_of : List ℕ → Option VolumeDump → List VolumeDump → Option VolumeDump
best_of name best [] = best
best_of name best (one ∷ others) = best_of name (better name best one) others

-- the pairs of exactly one name
abbrev pub name_dumps : List ℕ → List DumpRecordFields → List VolumeDump
name_dumps name = flat_map (λ dump. dump_by dump (volume_of dump name))
