-- The path of a dump level.
use Rattle.std.specs.Prelude.{◌≡◌, ℕ, ◌<◌, ◌≤◌, List, [], ◌∷◌, ◌++◌, length, drop, ◌==◌, All, ◌⊎◌, Option, Some, None}
use Rattle.std.specs.List.{flat_map, slice_split}
use Rattle.bk_text.specs.Alphabets.{IsNameByte, IsElement}

-- the path of these elements: each has a slash in front
abbrev pub path_of : List (List ℕ) → List ℕ
path_of elements = flat_map (λ element. 47 ∷ element) elements

-- the elements of a path: what stands behind each of its slashes
abbrev pub elements_of : List ℕ → List (List ℕ)
elements_of path = drop 1 (slice_split (λ b. b == 47) path)

-- a text that is the path of these elements of a level
pub record IsPathOf (elements : List (List ℕ)) (text : List ℕ) : Type 0 where
  pub each : All IsElement elements
  pub joined : text ≡ path_of elements

-- a level's path: one element or more, and at most 256 bytes in all
pub record IsLevelPath (text : List ℕ) : Type 0 where
  pub elements : List (List ℕ)
  pub some : 0 < length elements
  pub short : length text ≤ 256
  pub is : IsPathOf elements text

-- the path without its last element, where these are the elements before it: none where there are none
abbrev pub IsAbove : List (List ℕ) → Option (List ℕ) → Type 0
IsAbove elements None = elements ≡ []
IsAbove elements (Some path) = (0 < length elements) × IsPathOf elements path

-- where the last slash of a path stands: behind the elements before the last one
abbrev pub IsLastSlash : List ℕ → ℕ → Type 0
IsLastSlash text at = (elements : List (List ℕ)) (last : List ℕ) → IsPathOf (elements ++ last ∷ []) text → at ≡ length (path_of elements)

-- A byte that may follow at a place of a path, where the element there has so many bytes so far: a slash, with room
-- for one byte behind it, or one more byte of the element.
abbrev pub MayFollow : ℕ → ℕ → ℕ → Type 0
MayFollow count at b = ((b ≡ 47) × (0 < count) × (at < 255)) ⊎ (IsNameByte b × (count < 28) × (at < 256))

-- A byte that may follow in a path of a stated length, where the element there has so many bytes so far and so many
-- bytes stand behind this one.
abbrev pub MayFollowBefore : ℕ → ℕ → ℕ → Type 0
MayFollowBefore count left b = ((b ≡ 47) × (0 < count) × (0 < left)) ⊎ (IsNameByte b × (count < 28) × (count ≡ 27 → left ≡ 1 → ⊥))
