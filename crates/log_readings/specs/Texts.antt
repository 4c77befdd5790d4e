-- Readers of texts.
use Rattle.std.specs.Prelude.{zero, suc, ℕ, ◌+◌, ◌-◌, nat_lt, ◌==◌, List, [], ◌∷◌, Bool, not, ◌&&◌, if◌then◌else◌, Option, Some, None, Ok}
use Rattle.bk_text.specs.Tests.{is_name_byte, is_allowed, is_allowed_first}
use Rattle.bk_text.specs.declared.words.Alphabet.{Alphabet}
use Rattle.byte_formats.specs.declared.text.Text.{Text}
use Rattle.byte_formats.specs.Texts.{alphabet_of, most_of}
use Rattle.log_readings.specs.Readers.{Read, Reader, taken_as, read_byte, read_as, read_both, read_pair, read_times, read_one, read_two}

-- a word of so many bytes of an alphabet
unfoldable pub read_word : Alphabet → ℕ → Reader (List ℕ)
read_word alphabet n = read_as (λ p. p.0 ∷ p.1) (read_pair (read_byte (λ b. is_allowed_first alphabet b && is_allowed alphabet b)) (read_times (n - 1) (read_byte (is_allowed alphabet))))

-- A byte that may follow in a level's path, where the element there has so many bytes so far and so many bytes stand behind
-- this one. An element has at most 28 bytes, and a path doesn't end with a slash.
abbrev pub may_follow : ℕ → ℕ → ℕ → Bool
may_follow count left b = if b == 47 then nat_lt 0 count && nat_lt 0 left else is_name_byte b && (nat_lt count 28 && not ((count == 27) && (left == 1)))

-- how many bytes the element has then
abbrev pub count_behind : ℕ → ℕ → ℕ
count_behind count b = if b == 47 then 0 else count + 1

-- the last so many bytes of a path, where the element there has so many bytes so far
unfoldable pub read_path_rest : ℕ → ℕ → Reader (List ℕ)
read_path_rest zero count = λ bytes. Ok ([], bytes)
read_path_rest (suc n) count = read_as (λ p. p.0 ∷ p.1) (read_both (read_byte (may_follow count n)) (λ b. read_path_rest n (count_behind count b)))

-- a path of so many bytes
unfoldable pub read_path : ℕ → Reader (List ℕ)
read_path n = read_as (λ p. p.0 ∷ p.1) (read_pair (read_byte (λ b. b == 47)) (read_path_rest (n - 1) 0))

-- texts behind their lengths, which have one byte or two
unfoldable pub read_text1 : ℕ → ℕ → (ℕ → Reader (List ℕ)) → Reader (List ℕ)
read_text1 low high text = read_as (λ p. p.1) (read_both (read_one low high) text)

unfoldable pub read_text2 : ℕ → ℕ → (ℕ → Reader (List ℕ)) → Reader (List ℕ)
read_text2 low high text = read_as (λ p. p.1) (read_both (read_two low high) text)

unfoldable pub read_text : Text → Reader (List ℕ)
read_text form = read_text1 1 (most_of form) (read_word (alphabet_of form))

unfoldable pub read_level : Reader (List ℕ)
read_level = read_text2 2 256 read_path

-- an empty text, or one of a form
unfoldable pub read_or : {X Z : Type 0} → Z → (X → Z) → Reader X → List ℕ → Read Z
read_or none some read [] = taken_as some (read [])
read_or none some read (zero ∷ rest) = Ok (none, rest)
read_or none some read (suc b ∷ rest) = taken_as some (read (suc b ∷ rest))

unfoldable pub read_any : Reader (List ℕ) → Reader (Option (List ℕ))
read_any read = read_or None (λ text. Some text) read

unfoldable pub read_maybe : Reader (List ℕ) → Reader (List ℕ)
read_maybe read = read_or [] (λ text. text) read
