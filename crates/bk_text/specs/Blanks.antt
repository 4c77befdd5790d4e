-- The words of a text.
use Rattle.std.specs.Prelude.{ℕ, List, length, map, Bool, ◌||◌, ◌==◌, nat_eq, nat_lt}
use Rattle.std.specs.List.{filter, slice_split}
use Rattle.std.specs.Cmp.Lexicographic.{pointwise}
use Rattle.std.specs.Char.{to_ascii_lowercase}

-- a space or a tab
abbrev pub is_blank : ℕ → Bool
is_blank b = (b == 32) || (b == 9)

-- the words of a text: the pieces between spaces and tabs that have a byte
abbrev pub words_of : List ℕ → List (List ℕ)
words_of text = filter (λ word. nat_lt 0 (length word)) (slice_split is_blank text)

-- a word in either case
abbrev pub is_same_word : List ℕ → List ℕ → Bool
is_same_word word known = pointwise nat_eq (map to_ascii_lowercase word) known

-- the same text
abbrev pub is_same_text : List ℕ → List ℕ → Bool
is_same_text = pointwise (λ a b. a == b)
