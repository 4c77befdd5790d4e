-- The sets as rows of their map, and back.
use Rattle.std.proofs.Common.{zero, suc, ◌≡◌, ℕ, List, [], ◌∷◌, ◌++◌, Bool, true, false, map, refl, ap, Some, is_some, slice_get}
use Rattle.std.specs.Prelude.{if◌then◌else◌}
use Rattle.bk_text.specs.Blanks.{is_same_text}
use Rattle.indexmap.specs.IndexMap.{insert_entry}
use Rattle.volume_sets.specs.declared.sets.SetEntry.{SetEntry}
use Rattle.volume_sets.specs.declared.sets.VolumeSet.{VolumeSet}
use Rattle.volume_sets.specs.Sets.{Row, set_of, row_of, entries_of, has_set, entries_at}

pub rows_back : (rows : List Row) → map row_of (map set_of rows) ≡ rows
rows_back [] = refl
rows_back (row ∷ rows) = ap (λ (l : List Row). row ∷ l) (rows_back rows)

pub sets_back : (sets : List VolumeSet) → map set_of (map row_of sets) ≡ sets
sets_back [] = refl
sets_back (set ∷ sets) = ap (λ (l : List VolumeSet). set ∷ l) (sets_back sets)

-- what stands at a place of the map
pub entries_there : (rows : List Row) (i : ℕ) (entries : List SetEntry) → slice_get (map (λ row. row.1) rows) i ≡ Some entries → entries ≡ entries_at i (map set_of rows)
entries_there [] i entries at = cc
entries_there (row ∷ rows) zero entries at = cc
entries_there (row ∷ rows) (suc i) entries at = entries_there rows i entries at

-- a new name comes last
pub put_behind : (name : List ℕ) (entries : List SetEntry) (rows : List Row) → has_set name (map set_of rows) ≡ false
    → map set_of (insert_entry is_same_text rows name entries) ≡ map set_of rows ++ record { name = name; entries = entries } ∷ []
put_behind name entries [] free = refl
put_behind name entries (row ∷ rows) free = go (is_same_text name row.0) free (put_behind name entries rows)
  where
    go : (t : Bool) → is_some (if t then Some row.1 else entries_of name (map set_of rows)) ≡ false
        → (has_set name (map set_of rows) ≡ false → map set_of (insert_entry is_same_text rows name entries) ≡ map set_of rows ++ record { name = name; entries = entries } ∷ [])
        → map set_of (if t then (row.0, entries) ∷ rows else row ∷ insert_entry is_same_text rows name entries) ≡ set_of row ∷ (map set_of rows ++ record { name = name; entries = entries } ∷ [])
    go true free more = absurd (cc)
    go false free more = ap (λ (l : List VolumeSet). set_of row ∷ l) (more free)
