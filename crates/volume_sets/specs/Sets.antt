-- What the calls make of the volume sets, which stand in the order in which they were added. A set is the row of a map from
-- names to entries: the first row whose key is the name is the set of this name.
use Rattle.std.specs.Prelude.{ℕ, zero, suc, ◌-◌, List, [], ◌∷◌, ◌++◌, length, Bool, ◌&&◌, nat_lt, nat_le, map, if◌then◌else◌, Option, is_some, Result, Ok, Err}
use Rattle.std.specs.Option.{unwrap_or}
use Rattle.std.specs.List.{remove, IsDistinct}
use Rattle.std.specs.Map.{lookup, remove_entry, set_value, keys_of}
use Rattle.bk_text.specs.Blanks.{is_same_text}
use Rattle.volume_sets.specs.declared.sets.SetEntry.{SetEntry}
use Rattle.volume_sets.specs.declared.sets.VolumeSet.{VolumeSet}
use Rattle.volume_sets.specs.declared.sets.SetsFault.{SetsFault}
use Rattle.volume_sets.specs.declared.sets.SetsFault.TheVariants.{SetExists, NoSuchSet, NoSuchEntry}

-- a row of the map: a name, and what stands there
abbrev pub Row : Type 0
Row = List ℕ × List SetEntry

-- the volume set of a row of the map
abbrev pub set_of : Row → VolumeSet
set_of row = record { name = row.0; entries = row.1 }

-- the row of the map that a volume set is: its entries under its name
abbrev pub row_of : VolumeSet → Row
row_of set = (set.name, set.entries)

-- the entries of the set of a name
abbrev pub entries_of : List ℕ → List VolumeSet → Option (List SetEntry)
entries_of name sets = lookup (is_same_text name) (map row_of sets)

-- there is a set of this name
abbrev pub has_set : List ℕ → List VolumeSet → Bool
has_set name sets = is_some (entries_of name sets)

-- the same entries; none where there is no set of this name
abbrev pub entries_under : List ℕ → List VolumeSet → List SetEntry
entries_under name sets = unwrap_or (entries_of name sets) []

-- the entries of the set at a place
abbrev pub entries_at : ℕ → List VolumeSet → List SetEntry
entries_at at [] = []
entries_at zero (set ∷ sets) = set.entries
entries_at (suc n) (set ∷ sets) = entries_at n sets

-- each name stands once
abbrev pub NamesOnce : List VolumeSet → Type 0
NamesOnce sets = IsDistinct is_same_text (keys_of (map row_of sets))

-- the set of this name gets these entries
abbrev pub with_entries : List ℕ → List SetEntry → List VolumeSet → List VolumeSet
with_entries name entries sets = map set_of (set_value (is_same_text name) (map row_of sets) entries)

-- the others, where the set of this name goes
abbrev pub without_set : List ℕ → List VolumeSet → List VolumeSet
without_set name sets = map set_of (remove_entry (is_same_text name) (map row_of sets))

-- an empty set is put last, where there is none of this name
abbrev pub after_add : List ℕ → List VolumeSet → Result (List VolumeSet) SetsFault
after_add name sets = if has_set name sets then Err SetExists else Ok (sets ++ record { name = name; entries = [] } ∷ [])

-- the set of this name goes
abbrev pub after_remove : List ℕ → List VolumeSet → Result (List VolumeSet) SetsFault
after_remove name sets = if has_set name sets then Ok (without_set name sets) else Err NoSuchSet

-- the set of this name gets an entry, behind those that it has
abbrev pub after_add_entry : List ℕ → SetEntry → List VolumeSet → Result (List VolumeSet) SetsFault
after_add_entry name entry sets = if has_set name sets then Ok (with_entries name (entries_under name sets ++ entry ∷ []) sets) else Err NoSuchSet

-- Entries have the numbers from 1 on. One goes, and those behind it close up.
abbrev pub after_remove_entry : List ℕ → ℕ → List VolumeSet → Result (List VolumeSet) SetsFault
after_remove_entry name number sets =
    if has_set name sets then
    (if nat_lt 0 number && nat_le number (length (entries_under name sets)) then Ok (with_entries name (remove (entries_under name sets) (number - 1)) sets) else Err NoSuchEntry)
    else Err NoSuchSet
