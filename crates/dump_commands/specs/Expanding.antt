-- Which volumes of a cell a volume set has, as a function of the set's entries.
use Rattle.std.specs.Prelude.{ℕ, ◌+◌, List, [], ◌∷◌, Bool, true, false, ◌&&◌, Option, Some, None, if◌then◌else◌}
use Rattle.std.specs.List.{list_any}
use Rattle.bk_text.specs.Blanks.{is_same_text}
use Rattle.bk_text.specs.Patterns.{Item}
use Rattle.vnode_model.specs.declared.listed.VolEntry.{VolEntry}
use Rattle.volume_sets.specs.declared.reading.State.TheVariants.{Start}
use Rattle.volume_sets.specs.declared.sets.SetEntry.{SetEntry}
use Rattle.volume_sets.specs.Matching.{match_items}
use Rattle.volume_sets.specs.Reading.{set_mind, read}

-- any server or partition, or exactly this one
abbrev pub is_any_or : Option (List ℕ) → List ℕ → Bool
is_any_or None found = true
is_any_or (Some wanted) found = is_same_text wanted found

-- the items of a pattern match the whole of a name
abbrev pub items_match : Option (List Item) → List ℕ → Bool
items_match None name = false
items_match (Some items) name = match_items items name

-- A pattern matches a name: the items that are read of the pattern match the whole of the name.
unfoldable pub matches : List ℕ → List ℕ → Bool
matches pattern name = items_match (read Start (set_mind false []) pattern) name

-- an entry has a volume, whatever stands there: its server, its partition and its name
abbrev pub suits : SetEntry → VolEntry → Bool
suits entry volume = is_any_or entry.server volume.server && (is_any_or entry.partition volume.partition && matches entry.pattern volume.name)

-- some entry of these has the volume
abbrev pub some_suits : List SetEntry → VolEntry → Bool
some_suits entries volume = list_any (λ entry. suits entry volume) entries

-- the places, from this one on, of the volumes of a list that are so
abbrev pub places_from : (VolEntry → Bool) → ℕ → List VolEntry → List ℕ
places_from such at [] = []
places_from such at (volume ∷ cell) = if such volume then at ∷ places_from such (at + 1) cell else places_from such (at + 1) cell

-- THE EXPANSION: the places in the cell's list, in order, of the volumes that some entry has.
unfoldable pub expansion : List SetEntry → List VolEntry → List ℕ
expansion entries cell = places_from (some_suits entries) 0 cell
