-- Words, numbers and refusals in lines. Numbers are plain decimals, names stand as they are, and a line feed ends each line.
use Rattle.std.specs.Prelude.{ℕ, List, [], ◌∷◌, ◌++◌, Bool, ◌==◌, nat_eq, codes}
use Rattle.std.specs.Fmt.{decimal}
use Rattle.std.specs.List.{list_any, slice_split, starts_with}
use Rattle.backup_replies.specs.declared.refusals.Refusal.{Refusal}
use Rattle.backup_replies.specs.Refusals.{refusal_text}

-- a word behind a space, and a number behind one
abbrev pub then_word : List ℕ → List ℕ
then_word word = 32 ∷ word

-- a number behind a space
abbrev pub then_number : ℕ → List ℕ
then_number n = 32 ∷ decimal n

-- what ends a line
abbrev pub line_feed : List ℕ
line_feed = 10 ∷ []

-- the line of a command that is done, which is the last one of its reply
abbrev pub ok_line : List ℕ
ok_line = codes "ok" ++ line_feed

-- ---- refusals

-- a refusal, by its number and its name
abbrev pub refused : Refusal → List ℕ
refused refusal = codes "refused" ++ then_word (refusal_text refusal)

-- its line: with nothing behind it, with a word, with a number, with a word and a number, and with two numbers
abbrev pub refused_alone : Refusal → List ℕ
refused_alone refusal = refused refusal ++ line_feed

-- the line of a refusal, with a word behind it
abbrev pub refused_word : Refusal → List ℕ → List ℕ
refused_word refusal word = refused refusal ++ then_word word ++ line_feed

-- the line of a refusal, with a number behind it
abbrev pub refused_number : Refusal → ℕ → List ℕ
refused_number refusal n = refused refusal ++ then_number n ++ line_feed

-- the line of a refusal, with a word and a number behind it
abbrev pub refused_at : Refusal → List ℕ → ℕ → List ℕ
refused_at refusal word n = refused refusal ++ then_word word ++ then_number n ++ line_feed

-- the line of a refusal, with two numbers behind it
abbrev pub refused_numbers : Refusal → ℕ → ℕ → List ℕ
refused_numbers refusal m n = refused refusal ++ then_number m ++ then_number n ++ line_feed

-- ---- what was told

-- a byte that ends a line
abbrev pub is_feed : ℕ → Bool
is_feed b = b == 10

-- a line that begins with `refused`
abbrev pub is_refusal : List ℕ → Bool
is_refusal line = starts_with nat_eq line (codes "refused")

-- some line of a text begins with `refused`
abbrev pub has_refusal : List ℕ → Bool
has_refusal text = list_any is_refusal (slice_split is_feed text)
