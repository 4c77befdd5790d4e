-- Look-ups in the listed dumps: parents, from times and latest dumps. Of one name in a record the first alone counts.
use Rattle.std.specs.Prelude.{ℕ, List, [], ◌∷◌, ◌++◌, max, Bool, true, not, ◌&&◌, ◌||◌, ◌==◌, nat_eq, nat_lt, if◌then◌else◌, Option, Some, None}
use Rattle.std.specs.Option.{unwrap_or}
use Rattle.std.specs.List.{filter, find, list_any, flat_map, ends_with}
use Rattle.bk_text.specs.Bases.{backup_ending}
use Rattle.bk_text.specs.Blanks.{is_same_text}
use Rattle.dump_levels.specs.Elements.{paths_above}
use Rattle.budb_changes.specs.declared.records.VolRecordFields.{VolRecordFields}
use Rattle.budb_changes.specs.declared.records.DumpRecordFields.{DumpRecordFields}

-- the record of an id, and the volume of a name in a record
abbrev pub record_of : List DumpRecordFields → ℕ → Option DumpRecordFields
record_of records id = find (λ dump. dump.id == id) records

-- the first volume of this name in a dump's record; `None` where the record lacks the name
abbrev pub volume_of : DumpRecordFields → List ℕ → Option VolRecordFields
volume_of dump name = find (λ volume. is_same_text volume.name name) dump.volumes

-- ---- parents and from times

-- the dumps of a set at a level
abbrev pub dumps_at : List DumpRecordFields → List ℕ → List ℕ → List DumpRecordFields
dumps_at listed set level = filter (λ dump. is_same_text dump.set set && is_same_text dump.level level) listed

-- the greatest id of these dumps; none where there is no dump
abbrev pub greatest_id : List DumpRecordFields → Option ℕ
greatest_id [] = None
greatest_id (dump ∷ dumps) = Some (max dump.id (unwrap_or (greatest_id dumps) 0))

-- the greatest id of the listed dumps of a set at a level; `None` where it has no dump there
abbrev pub greatest_at : List DumpRecordFields → List ℕ → List ℕ → Option ℕ
greatest_at listed set level = greatest_id (dumps_at listed set level)

-- the greatest id at the first of these levels that has a dump; 0 where none has
abbrev pub parent_at : List DumpRecordFields → List ℕ → List (List ℕ) → ℕ
parent_at listed set [] = 0
parent_at listed set (level ∷ levels) = unwrap_or (greatest_at listed set level) (parent_at listed set levels)

-- The parent of a dump of a set at a level: of the listed dumps of the same set the one with the greatest id at the
-- closest level above; where there is none, the next level above is asked. 0 where there is none at all.
abbrev pub parent_of : List DumpRecordFields → List ℕ → List ℕ → ℕ
parent_of listed set level = parent_at listed set (paths_above level)

-- A volume's from time is its clone time in the parent. It is 0 where there is no parent, where the parent doesn't hold
-- the name, and where the volume was born at or after that clone time.
abbrev pub from_volume : Option VolRecordFields → ℕ → ℕ
from_volume None born = 0
from_volume (Some volume) born = if nat_lt born volume.clone then volume.clone else 0

-- the from time of the volume of a name that was born at this second since 1970, by the record of the dump's
-- parent; 0, for the whole volume, where there is no parent
abbrev pub from_of : Option DumpRecordFields → List ℕ → ℕ → ℕ
from_of None name born = 0
from_of (Some parent) name born = from_volume (volume_of parent name) born

-- ---- the latest dump of a volume

-- a dump of a volume: the dump's record, and the volume's in it
pub record VolumeDump : Type 0 where
  pub dump : DumpRecordFields
  pub volume : VolRecordFields

-- A base name finds the dumps of itself and of its backup volume; a name that ends in `.backup` finds its own alone.
abbrev pub names_for : List ℕ → List (List ℕ)
names_for name = if ends_with nat_eq name backup_ending then name ∷ [] else name ∷ (name ++ backup_ending) ∷ []

-- the dump with this volume of its record, as a list of one; empty where the record lacks the volume
abbrev pub dump_by : DumpRecordFields → Option VolRecordFields → List VolumeDump
dump_by dump None = []
dump_by dump (Some volume) = record { dump = dump; volume = volume } ∷ []

-- the listed pairs whose volume's name fits, and whose clone time is below the bound where there is one
abbrev pub is_before : Option ℕ → VolumeDump → Bool
is_before None one = true
is_before (Some bound) one = nat_lt one.volume.clone bound

-- the listed dumps with their volumes of the names that a name finds, with clone times below the bound; `None` is
-- no bound
abbrev pub volume_dumps : List DumpRecordFields → List ℕ → Option ℕ → List VolumeDump
volume_dumps listed name before = filter (is_before before) (flat_map (λ dump. flat_map (λ n. dump_by dump (volume_of dump n)) (names_for name)) listed)

-- One goes before another: a greater clone time, then a greater id, then the name itself before its backup volume's.
abbrev pub beats : List ℕ → VolumeDump → VolumeDump → Bool
beats name a b =
    nat_lt b.volume.clone a.volume.clone
    || (b.volume.clone == a.volume.clone && (nat_lt b.dump.id a.dump.id
    || (b.dump.id == a.dump.id && is_same_text a.volume.name name && not (is_same_text b.volume.name name))))

-- the pair that none of the others goes before
abbrev pub latest : List DumpRecordFields → List ℕ → Option ℕ → Option VolumeDump
latest listed name before = find (λ one. not (list_any (λ other. beats name other one) (volume_dumps listed name before))) (volume_dumps listed name before)
