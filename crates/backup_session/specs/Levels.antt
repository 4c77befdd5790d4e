-- What a line's dump levels must be.
use Rattle.std.specs.Prelude.{ℕ, List, [], ◌∷◌, ◌++◌, Bool, true, ◌||◌, if◌then◌else◌, Option, Some, None}
use Rattle.std.specs.List.{list_any}
use Rattle.bk_text.specs.Blanks.{is_same_text}
use Rattle.dump_levels.specs.declared.levels.Level.{Level}
use Rattle.dump_levels.specs.Elements.{path_above}
use Rattle.dump_levels.specs.Trees.{has_level}

-- a path is one of these
abbrev pub has_path : List (List ℕ) → List ℕ → Bool
has_path paths path = list_any (λ there. is_same_text there path) paths

-- Of paths behind others in a line the first that is a level's already, or stands in front of it in the line.
abbrev pub first_known : List Level → List (List ℕ) → List (List ℕ) → Option (List ℕ)
first_known levels before [] = None
first_known levels before (path ∷ paths) = if has_level levels path || has_path before path then Some path else first_known levels (before ++ path ∷ []) paths

-- the path above is a level's, or stands in front in the line, where there is a path above
abbrev pub is_founded : List Level → List (List ℕ) → Option (List ℕ) → Bool
is_founded levels before None = true
is_founded levels before (Some upper) = has_level levels upper || has_path before upper

-- of paths behind others in a line the first whose path above is neither a level's nor in front of it in the line
abbrev pub first_unfounded : List Level → List (List ℕ) → List (List ℕ) → Option (List ℕ)
first_unfounded levels before [] = None
first_unfounded levels before (path ∷ paths) = if is_founded levels before (path_above path) then first_unfounded levels (before ++ path ∷ []) paths else Some path

-- of paths the first that is no level's
abbrev pub first_missing : List Level → List (List ℕ) → Option (List ℕ)
first_missing levels [] = None
first_missing levels (path ∷ paths) = if has_level levels path then first_missing levels paths else Some path
