-- Expirations as they are written in words.
use Rattle.std.specs.Prelude.{ℕ, ◌+◌, ◌-◌, List, [], ◌∷◌, length, take, slice_index, Bool, ◌&&◌, ◌||◌, ◌==◌, nat_lt, is_some, codes, if◌then◌else◌, Option, Some, None, Result, Ok, Err}
use Rattle.std.specs.Char.{to_ascii_lowercase}
use Rattle.bk_text.specs.declared.expiry.Expiry.{Expiry}
use Rattle.bk_text.specs.declared.expiry.Expiry.TheVariants.{Never, At, In}
use Rattle.dump_levels.specs.declared.dates.DateFault.{DateFault}
use Rattle.dump_levels.specs.declared.dates.DateFault.TheVariants.{BadDate}
use Rattle.bk_text.specs.Blanks.{words_of, is_same_word}
use Rattle.bk_text.specs.Digits.{digits_of}
use Rattle.dump_levels.specs.Dates.{day_of, date_says}

-- "at", "in" and "never"
abbrev pub at_word : List ℕ
at_word = codes "at"

-- "in", which stands before a span of time after a dump, and is read in either case
abbrev pub in_word : List ℕ
in_word = codes "in"

-- "never", in place of a date: the dumps never expire; it is read in either case
abbrev pub never_word : List ℕ
never_word = codes "never"

-- a number of this unit, where the letter behind it is the unit's; it is at least 1
abbrev pub unit_amount : ℕ → ℕ → Option ℕ → Option ℕ
unit_amount unit letter (Some n) = if (letter == unit) && nat_lt 0 n then Some n else None
unit_amount unit letter None = None

-- one to four digits and a unit, whose letter is in either case
abbrev pub amount_of : ℕ → List ℕ → Option ℕ
amount_of unit word = unit_amount unit (to_ascii_lowercase (slice_index word (length word - 1))) (digits_of 1 4 (take (length word - 1) word))

-- Days, behind years and months, are the last word. They may be wanting where there are years or months.
abbrev pub days_say : ℕ → ℕ → ℕ → List (List ℕ) → Result Expiry DateFault
days_say at years months [] = if (years == 0) && (months == 0) then Err (BadDate at) else Ok (In years months 0)
days_say at years months (word ∷ rest) = elim (amount_of 100 word) [ None ↦ Err (BadDate at) | Some days ↦ elim rest [ [] ↦ Ok (In years months days) | _ ∷ _ ↦ Err (BadDate (at + 1)) ] ]

-- perhaps months, and then days
abbrev pub months_say : ℕ → ℕ → List (List ℕ) → Result Expiry DateFault
months_say at years [] = days_say at years 0 []
months_say at years (word ∷ rest) = elim (amount_of 109 word) [ None ↦ days_say at years 0 (word ∷ rest) | Some months ↦ days_say (at + 1) years months rest ]

-- so long after a dump: perhaps years, and then months and days
abbrev pub span_says : ℕ → List (List ℕ) → Result Expiry DateFault
span_says at [] = months_say at 0 []
span_says at (word ∷ rest) = elim (amount_of 121 word) [ None ↦ months_say at 0 (word ∷ rest) | Some years ↦ months_say (at + 1) years rest ]

-- nothing stands behind NEVER
abbrev pub never_says : ℕ → List (List ℕ) → Result Expiry DateFault
never_says at [] = Ok Never
never_says at (word ∷ rest) = Err (BadDate at)

-- the expiration at a second since 1970 in UTC, or the fault of its date
abbrev pub at_moment : Result ℕ DateFault → Result Expiry DateFault
at_moment (Ok second) = Ok (At second)
at_moment (Err fault) = Err fault

-- a moment: NEVER, or a date up to the last second of 2037
abbrev pub moment_says : ℕ → List (List ℕ) → Result Expiry DateFault
moment_says at [] = Err (BadDate at)
moment_says at (word ∷ rest) = if is_same_word word never_word then never_says (at + 1) rest else at_moment (date_says at 0 2145916799 (word ∷ rest))

-- a word that begins a moment
abbrev pub begins_moment : List ℕ → Bool
begins_moment word = is_same_word word never_word || is_some (day_of word)

-- An expiration: `at` and a moment, or `in` and a span. `at` and `in` may be left out.
abbrev pub expiry_says : List (List ℕ) → Result Expiry DateFault
expiry_says [] = Err (BadDate 0)
expiry_says (word ∷ rest) =
    if is_same_word word at_word then moment_says 1 rest else
    if is_same_word word in_word then span_says 1 rest else
    if begins_moment word then moment_says 0 (word ∷ rest) else span_says 0 (word ∷ rest)

-- the expiration that a text tells, or why it tells none; a word that doesn't fit is told by its number from 0 on
abbrev pub expiry_of : List ℕ → Result Expiry DateFault
expiry_of text = expiry_says (words_of text)
