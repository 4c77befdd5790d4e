-- Dates as they are written in words.
use Rattle.std.specs.Prelude.{ℕ, ◌+◌, ◌*◌, List, [], ◌∷◌, Bool, ◌&&◌, ◌==◌, nat_lt, if◌then◌else◌, Option, Some, None, Result, Ok, Err}
use Rattle.std.specs.List.{before_first, after_first}
use Rattle.dump_levels.specs.declared.calendar.Day.{Day}
use Rattle.dump_levels.specs.declared.dates.DateFault.{DateFault}
use Rattle.dump_levels.specs.declared.dates.DateFault.TheVariants.{BadDate, DateOutOfRange}
use Rattle.bk_text.specs.Blanks.{words_of}
use Rattle.bk_text.specs.Digits.{digits_of}
use Rattle.dump_levels.specs.Calendar.{is_day, second_of}

-- the '/' between month, day and year
abbrev pub is_slash : ℕ → Bool
is_slash b = b == 47

-- the ':' between hour and minute
abbrev pub is_colon : ℕ → Bool
is_colon b = b == 58

-- a day that the calendar has
abbrev pub real_day : Option ℕ → Option ℕ → Option ℕ → Option Day
real_day (Some month) (Some day) (Some year) = if is_day (record { year = year; month = month; day = day }) then Some (record { year = year; month = month; day = day }) else None
real_day _ _ _ = None

-- mm/dd/yyyy: a month and a day of one or two digits, and a year of four
abbrev pub day_of : List ℕ → Option Day
day_of word =
    real_day (digits_of 1 2 (before_first is_slash word)) (digits_of 1 2 (before_first is_slash (after_first is_slash word))) (digits_of 4 4 (after_first is_slash (after_first is_slash word)))

-- an hour below 24 and a minute below 60, as the minutes since midnight
abbrev pub real_minutes : Option ℕ → Option ℕ → Option ℕ
real_minutes (Some hour) (Some minute) = if nat_lt hour 24 && nat_lt minute 60 then Some (hour * 60 + minute) else None
real_minutes _ _ = None

-- hh:MM: an hour and a minute of one or two digits
abbrev pub minutes_of : List ℕ → Option ℕ
minutes_of word = real_minutes (digits_of 1 2 (before_first is_colon word)) (digits_of 1 2 (after_first is_colon word))

-- What stands behind the word of the day: nothing, which is midnight, or the time of day alone. A word that doesn't
-- fit is told by its number.
abbrev pub time_says : ℕ → List (List ℕ) → Result ℕ DateFault
time_says at [] = Ok 0
time_says at (word ∷ rest) = elim (minutes_of word) [ None ↦ Err (BadDate at) | Some minutes ↦ elim rest [ [] ↦ Ok minutes | _ ∷ _ ↦ Err (BadDate (at + 1)) ] ]

-- The second that comes so long after a minute begins, and at the latest this one. A day before 1970 is out of range,
-- where every word fits.
abbrev pub moment_of : ℕ → ℕ → Day → Result ℕ DateFault → Result ℕ DateFault
moment_of added latest d (Err fault) = Err fault
moment_of added latest d (Ok minutes) =
    if nat_lt d.year 1970 then Err DateOutOfRange else
    if nat_lt 2037 d.year then Ok latest else Ok (second_of d minutes + added)

-- a day in words, from the word of this number on, and perhaps a time of day
abbrev pub date_says : ℕ → ℕ → ℕ → List (List ℕ) → Result ℕ DateFault
date_says at added latest [] = Err (BadDate at)
date_says at added latest (word ∷ rest) = elim (day_of word) [ None ↦ Err (BadDate at) | Some d ↦ moment_of added latest d (time_says (at + 1) rest) ]

-- A date for a restore: the first second after its minute, so that every dump of that minute counts. Past 2037 it is
-- the first second of 2038.
abbrev pub date_of : List ℕ → Result ℕ DateFault
date_of text = date_says 0 60 2145916800 (words_of text)
