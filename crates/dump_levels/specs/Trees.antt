-- What the calls make of the levels, which stand in the order in which they were added.
use Rattle.std.specs.Prelude.{ℕ, List, [], ◌∷◌, ◌++◌, Bool, true, not, map, if◌then◌else◌, Option, Some, None, Result, Ok, Err}
use Rattle.std.specs.List.{list_any, filter}
use Rattle.bk_text.specs.declared.expiry.Expiry.{Expiry}
use Rattle.dump_levels.specs.declared.levels.Level.{Level}
use Rattle.dump_levels.specs.declared.levels.LevelFault.{LevelFault}
use Rattle.dump_levels.specs.declared.levels.LevelFault.TheVariants.{LevelExists, NoParentLevel, NoSuchLevel}
use Rattle.bk_text.specs.Blanks.{is_same_text}
use Rattle.dump_levels.specs.Elements.{is_within, path_above}

-- a level of this path
abbrev pub is_level : List ℕ → Level → Bool
is_level path level = is_same_text level.path path

-- some level has this path
abbrev pub has_level : List Level → List ℕ → Bool
has_level levels path = list_any (is_level path) levels

-- the level above is there, where there is a path above
abbrev pub has_upper : List Level → Option (List ℕ) → Bool
has_upper levels None = true
has_upper levels (Some upper) = has_level levels upper

-- A level is put last. It isn't there yet, and the level above it is.
abbrev pub after_add : List Level → List ℕ → Expiry → Result (List Level) LevelFault
after_add levels path expiry =
    if has_level levels path then Err LevelExists else
    if has_upper levels (path_above path) then Ok (levels ++ record { path = path; expiry = expiry } ∷ []) else Err NoParentLevel

-- a level, with this expiration where it has this path
abbrev pub expiring : List ℕ → Expiry → Level → Level
expiring path expiry level = if is_level path level then record { path = level.path; expiry = expiry } else level

-- the level of this path gets another expiration
abbrev pub after_set : List Level → List ℕ → Expiry → Result (List Level) LevelFault
after_set levels path expiry = if has_level levels path then Ok (map (expiring path expiry) levels) else Err NoSuchLevel

-- the level of this path goes, and all below it go with it
abbrev pub after_remove : List Level → List ℕ → Result (List Level) LevelFault
after_remove levels path =
    if has_level levels path then Ok (filter (λ level. not (is_within path level.path)) levels) else Err NoSuchLevel
