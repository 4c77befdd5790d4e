-- The bytes of fields.
use Rattle.std.specs.Prelude.{ℕ, List, [], ◌∷◌, ◌++◌, length, Option, Some, None}
use Rattle.std.specs.Int.{w16, w32, to_be_bytes}

-- a number of two bytes, and of four, the most significant byte first
unfoldable pub two : ℕ → List ℕ
two n = to_be_bytes w16 n

unfoldable pub four : ℕ → List ℕ
four n = to_be_bytes w32 n

-- a text behind its length in one byte, and in two
unfoldable pub text1 : List ℕ → List ℕ
text1 bytes = length bytes ∷ bytes

unfoldable pub text2 : List ℕ → List ℕ
text2 bytes = two (length bytes) ++ bytes

-- a server or a partition, or an empty text for any
unfoldable pub any_or : Option (List ℕ) → List ℕ
any_or None = text1 []
any_or (Some name) = text1 name
