-- What is left of a chain.
use Rattle.std.specs.Prelude.{◌≡◌, ℕ, List, [], ◌∷◌, ◌++◌, map, max, ◌==◌, if◌then◌else◌, Option, Some, None, slice_get}
use Rattle.std.specs.List.{filter}
use Rattle.std.specs.Option.{unwrap_or}
use Rattle.bk_text.specs.Blanks.{is_same_text}
use Rattle.budb_changes.specs.declared.records.DumpRecordFields.{DumpRecordFields}
use Rattle.budb_links.specs.declared.frags.FragPlace.{FragPlace}
use Rattle.budb_links.specs.Entries.{Entry, dumps_of, of_set}
use Rattle.budb_links.specs.Frags.{Placed, of_volume, frags_of}

-- those of a chain from a place on; none where no place is given
abbrev pub left_from : {X : Type 0} → (X → ℕ) → Option ℕ → List X → List X
left_from place None chain = []
left_from place (Some at) [] = []
left_from place (Some at) (x ∷ chain) = if place x == at then x ∷ chain else left_from place (Some at) chain

-- the place is one of these, or there is none
abbrev pub StandsIn : Option ℕ → List ℕ → Type 0
StandsIn at places = (index : ℕ) × (at ≡ slice_get places index)

-- what a call gives of what is left, and what it leaves
abbrev pub IsNext : {X : Type 0} → Option X → List X → List X → Type 0
IsNext None before behind = before ≡ []
IsNext (Some x) before behind = before ≡ x ∷ behind

-- the records of a volume set from a place on
abbrev pub set_left : List ℕ → Option ℕ → List Entry → List DumpRecordFields
set_left key at entries = dumps_of (left_from (λ entry. entry.place) at (of_set key entries))

-- the fragments of the volumes of a name from a place on
abbrev pub volume_left : List ℕ → Option ℕ → List Placed → List FragPlace
volume_left key at frags = map (λ p. p.fragment.which) (left_from (λ p. p.place) at (of_volume key frags))

-- ---- whole chains

-- the records of the volume set of this name, in their order
abbrev pub dumps_of_set : List ℕ → List DumpRecordFields → List DumpRecordFields
dumps_of_set key = filter (λ dump. is_same_text dump.set key)

-- which fragments of the records' volumes are those of the volumes of this name, in their order
abbrev pub frags_named : List ℕ → List DumpRecordFields → List FragPlace
frags_named key listed = map (λ f. f.which) (filter (λ f. is_same_text f.name key) (frags_of listed))

-- ---- what is found on the way

-- the greater of an id so far and others, where there are these
abbrev pub greater : Option ℕ → Option ℕ → Option ℕ
greater None rest = rest
greater (Some id) rest = Some (max id (unwrap_or rest 0))

-- an id, where it isn't the last one
abbrev pub unless_last : Option ℕ → ℕ → List ℕ
unless_last None id = id ∷ []
unless_last (Some last) id = if last == id then [] else id ∷ []

-- ids without those that are the same as the one before, behind a last one
abbrev pub runs_behind : Option ℕ → List ℕ → List ℕ
runs_behind last [] = []
runs_behind last (id ∷ ids) = unless_last last id ++ runs_behind (Some id) ids
