-- The forms of fields.
use Rattle.std.specs.Prelude.{◌≡◌, ◌⊎◌, ℕ, ◌≤◌, List, [], Option, Some, None, ⊤}
use Rattle.bk_text.specs.Alphabets.{IsWord, IsNameByte}

-- numbers of two bytes and of four
abbrev pub IsTwo : ℕ → Type 0
IsTwo n = n ≤ 65535

-- a number that four bytes can tell: at most 4,294,967,295
abbrev pub IsFour : ℕ → Type 0
IsFour n = n ≤ 4294967295

-- the greatest length of what the names of a dump's tapes begin with
abbrev pub base_most : ℕ
base_most = 69

-- what the names of a dump's tapes begin with: a tape's name with room left for a number
abbrev pub IsBase : List ℕ → Type 0
IsBase = IsWord IsNameByte (λ b. ⊤) base_most

-- any, or one of a form
abbrev pub IsAnyOr : (List ℕ → Type 0) → Option (List ℕ) → Type 0
IsAnyOr Form None = Unit {0}
IsAnyOr Form (Some name) = Form name

-- one of a form, or empty
abbrev pub IsMaybe : (List ℕ → Type 0) → List ℕ → Type 0
IsMaybe Form text = Form text ⊎ (text ≡ [])
