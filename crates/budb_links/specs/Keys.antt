-- Numbers of keys: each key that has one is there once, in ascending byte order.
use Rattle.std.specs.Prelude.{◌≡◌, ℕ, ◌<◌, ◌≤◌, List, [], ◌∷◌, ◌++◌, ◌+◌, length, if◌then◌else◌, Option, Some, None, slice_index_or}
use Rattle.std.specs.List.{AllByRecursion, insert, remove}
use Rattle.std.specs.Ordering.{nat_cmp}
use Rattle.std.specs.declared.cmp.Ordering.{Ordering}
use Rattle.std.specs.declared.cmp.Ordering.TheVariants.{Less}
use Rattle.std.specs.Cmp.Lexicographic.{slice_cmp}
use Rattle.bk_text.specs.Blanks.{is_same_text}

-- a key and its number
pub record Numbered : Type 0 where
  pub key : List ℕ
  pub number : ℕ

-- the keys with their numbers, and the numbers that no key has
pub record Numbering : Type 0 where
  pub used : List Numbered
  pub spare : List ℕ

-- a key in its bytes, with the number that it has
abbrev pub numbered : List ℕ → ℕ → Numbered
numbered key number = record { key = key; number = number }

-- how many numbers there are
abbrev pub numbers_in : Numbering → ℕ
numbers_in numbering = length numbering.used + length numbering.spare

-- the number of a key
abbrev pub number_of : List ℕ → List Numbered → Option ℕ
number_of key [] = None
number_of key (u ∷ us) = if is_same_text u.key key then Some u.number else number_of key us

-- the byte order of keys
abbrev pub key_order : List ℕ → List ℕ → Ordering
key_order = slice_cmp nat_cmp

-- each key is before those behind it
abbrev pub Ascending : List Numbered → Type 0
Ascending [] = Unit {0}
Ascending (u ∷ us) = AllByRecursion (λ other. key_order u.key other.key ≡ Less) us × Ascending us

-- the key stands at this place of the list
pub record IsKeyAt (key : List ℕ) (us : List Numbered) (at : ℕ) : Type 0 where
  pub within : at < length us
  pub there : (d : Numbered) → number_of key us ≡ Some (slice_index_or us at d).number
  pub without : (other : List ℕ) → number_of other (remove us at) ≡ (if is_same_text key other then None else number_of other us)
  pub ascending : Ascending (remove us at)

-- the key doesn't stand in the list, and would stand at this place
pub record IsNewAt (key : List ℕ) (us : List Numbered) (at : ℕ) : Type 0 where
  pub within : at ≤ length us
  pub absent : number_of key us ≡ None
  pub among : (number : ℕ) (other : List ℕ) → number_of other (insert us at (numbered key number)) ≡ (if is_same_text key other then Some number else number_of other us)
  pub ascending : (number : ℕ) → Ascending (insert us at (numbered key number))

-- the spare numbers with one that is given back
abbrev pub given_back : List ℕ → Option ℕ → List ℕ
given_back spare None = spare
given_back spare (Some number) = spare ++ number ∷ []
