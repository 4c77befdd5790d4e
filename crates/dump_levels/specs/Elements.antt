-- The elements of a level's path, and what they say of two levels.
use Rattle.std.specs.Prelude.{zero, suc, ℕ, ◌-◌, List, [], ◌∷◌, length, take, drop, Bool, ◌==◌, Option, Some, None}
use Rattle.std.specs.List.{starts_with}
use Rattle.bk_text.specs.Blanks.{is_same_text}
use Rattle.bk_text.specs.LevelPaths.{path_of, elements_of}

-- A level is at another one or below it where its elements begin with the other's: `/fuller` isn't below `/full`.
abbrev pub is_within : List ℕ → List ℕ → Bool
is_within upper path = starts_with is_same_text (elements_of path) (elements_of upper)

-- the path of the first so many elements; the top has none
abbrev pub front_path : ℕ → List (List ℕ) → Option (List ℕ)
front_path zero elements = None
front_path (suc n) elements = Some (path_of (take (suc n) elements))

-- the path above: all elements but the last
abbrev pub path_above : List ℕ → Option (List ℕ)
path_above path = front_path (length (elements_of path) - 1) (elements_of path)

-- the paths of the first n elements, of one fewer, and so on down to one
abbrev pub front_paths : ℕ → List (List ℕ) → List (List ℕ)
front_paths zero elements = []
front_paths (suc n) elements = path_of (take (suc n) elements) ∷ front_paths n elements

-- all paths above, the closest first
abbrev pub paths_above : List ℕ → List (List ℕ)
paths_above path = front_paths (length (elements_of path) - 1) (elements_of path)
