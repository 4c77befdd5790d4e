-- An expiration in words has the form of the journal: its numbers have two bytes, and its moment four.
use Rattle.std.proofs.Common.{zero, suc, ◌≡◌, ℕ, ◌+◌, ◌-◌, ◌*◌, ◌<◌, ◌≤◌, Bool, true, false, List, [], ◌∷◌, length, take, refl, arith}
use Rattle.std.specs.Prelude.{◌==◌, ◌&&◌, ◌||◌, nat_lt, nat_le, slice_index, if◌then◌else◌, Option, Some, None, IfSome, Result, Ok, Err, IfOk}
use Rattle.std.specs.List.{before_first, after_first}
use Rattle.std.specs.Str.{all_ascii_digits}
use Rattle.std.specs.Str.Parse.{digits_value}
use Rattle.std.specs.Char.{to_ascii_lowercase}
use Rattle.std.proofs.lemmas.Bool.{and_parts, leb-true, ltb-true, ltb-false}
use Rattle.std.proofs.lemmas.Str.Parse.{digits_value_short}
use Rattle.bk_text.specs.declared.expiry.Expiry.{Expiry}
use Rattle.bk_text.specs.declared.expiry.Expiry.TheVariants.{In}
use Rattle.bk_text.specs.Blanks.{is_same_word}
use Rattle.bk_text.specs.Digits.{number_of, digits_of}
use Rattle.bk_text.proofs.DigitLaws.{own}
use Rattle.byte_formats.specs.Forms.{IsTwo, IsFour}
use Rattle.dump_levels.specs.declared.calendar.Day.{Day}
use Rattle.dump_levels.specs.declared.dates.DateFault.{DateFault}
use Rattle.dump_levels.specs.declared.dates.DateFault.TheVariants.{BadDate, DateOutOfRange}
use Rattle.dump_levels.specs.Calendar.{is_leap, is_day, days_in_month, days_of_years, days_of_months, second_of}
use Rattle.dump_levels.specs.Dates.{is_slash, is_colon, real_day, day_of, real_minutes, minutes_of, time_says, moment_of, date_says}
use Rattle.dump_levels.specs.Expiries.{at_word, in_word, never_word, unit_amount, amount_of, days_say, months_say, span_says, never_says, at_moment, moment_says, begins_moment, expiry_says}
use Rattle.budb_changes.specs.Forms.{IsExpiry}

-- ---- numbers of few digits

number_small : (word : List ℕ) (b : Bool) → all_ascii_digits word ≡ b → length word ≤ 4 → IfSome (if b then Some (digits_value 10 word) else None) (λ n. n < 10000)
number_small word true digits short = digits_value_short own word 4 digits short
number_small word false digits short = tt

digits_small : (least : ℕ) (word : List ℕ) (b : Bool) → (nat_le least (length word) && nat_le (length word) 4) ≡ b → IfSome (if b then number_of word else None) (λ n. n < 10000)
digits_small least word true is = number_small word (all_ascii_digits word) refl (leb-true (length word) 4 (and_parts (nat_le least (length word)) (nat_le (length word) 4) is).1)
digits_small least word false is = tt

unit_small : (unit letter : ℕ) (found : Option ℕ) → IfSome found (λ n. n < 10000) → IfSome (unit_amount unit letter found) IsTwo
unit_small unit letter None small = tt
unit_small unit letter (Some n) small = go ((letter == unit) && nat_lt 0 n)
  where
    go : (b : Bool) → IfSome (if b then Some n else None) IsTwo
    go true = omega (arith, small)
    go false = tt

amount_small : (unit : ℕ) (word : List ℕ) → IfSome (amount_of unit word) IsTwo
amount_small unit word =
    let front = take (length word - 1) word in
    unit_small unit (to_ascii_lowercase (slice_index word (length word - 1))) (digits_of 1 4 front) (digits_small 1 front (nat_le 1 (length front) && nat_le (length front) 4) refl)

-- ---- dates

year_most : (b : Bool) → (if b then 366 else 365) ≤ 366
year_most true = omega arith
year_most false = omega arith

years_most : (n : ℕ) → days_of_years n ≤ 366 * n
years_most zero = omega arith
years_most (suc n) = omega (arith, years_most n, year_most (is_leap (1970 + n)))

february_most : (b : Bool) → (if b then 29 else 28) ≤ 31
february_most true = omega arith
february_most false = omega arith

short_most : (b : Bool) → (if b then 30 else 31) ≤ 31
short_most true = omega arith
short_most false = omega arith

month_most : (year month : ℕ) → days_in_month year month ≤ 31
month_most year month = go (month == 2)
  where
    go : (b : Bool) → (if b then (if is_leap year then 29 else 28) else if (month == 4) || (month == 6) || (month == 9) || (month == 11) then 30 else 31) ≤ 31
    go true = february_most (is_leap year)
    go false = short_most ((month == 4) || (month == 6) || (month == 9) || (month == 11))

months_most : (year n : ℕ) → days_of_months year n ≤ 31 * n
months_most year zero = omega arith
months_most year (suc n) = omega (arith, months_most year n, month_most year (suc n))

-- a day of the calendar
record Within (d : Day) : Type 0 where
  month : d.month ≤ 12
  day : d.day ≤ 31

within : (d : Day) → is_day d ≡ true → Within d
within d is =
    let one = and_parts (nat_le 1 d.month) _ is in
    let two = and_parts (nat_le d.month 12) _ one.1 in
    let three = and_parts (nat_le 1 d.day) _ two.1 in
    let last = leb-true d.day (days_in_month d.year d.month) three.1 in
    record { month = leb-true d.month 12 two.0; day = omega (arith, last, month_most d.year d.month) }

second_most : (d : Day) (minutes : ℕ) → is_day d ≡ true → d.year ≤ 2037 → minutes < 1440 → second_of d minutes ≤ 4294967295
second_most d minutes is late early =
    let w = within d is in
    omega (arith, w.month, w.day, late, early, years_most (d.year - 1970), months_most d.year (d.month - 1))

day_real : (month day year : Option ℕ) → IfSome (real_day month day year) (λ d. is_day d ≡ true)
day_real (Some month) (Some day) (Some year) = go (is_day (record { year = year; month = month; day = day })) refl
  where
    go : (b : Bool) → is_day (record { year = year; month = month; day = day }) ≡ b → IfSome (if b then Some (record { year = year; month = month; day = day }) else None) (λ d. is_day d ≡ true)
    go true is = is
    go false is = tt
day_real (Some month) (Some day) None = tt
day_real (Some month) None year = tt
day_real None day year = tt

minutes_real : (hour minute : Option ℕ) → IfSome (real_minutes hour minute) (λ n. n < 1440)
minutes_real (Some hour) (Some minute) = go (nat_lt hour 24 && nat_lt minute 60) refl
  where
    go : (b : Bool) → (nat_lt hour 24 && nat_lt minute 60) ≡ b → IfSome (if b then Some (hour * 60 + minute) else None) (λ n. n < 1440)
    go true is = let parts = and_parts (nat_lt hour 24) (nat_lt minute 60) is in omega (arith, ltb-true hour 24 parts.0, ltb-true minute 60 parts.1)
    go false is = tt
minutes_real (Some hour) None = tt
minutes_real None minute = tt

alone : (at minutes : ℕ) (rest : List (List ℕ)) → minutes < 1440 → IfOk (elim rest [ [] ↦ Ok minutes | _ ∷ _ ↦ Err (BadDate (at + 1)) ]) (λ n. n < 1440)
alone at minutes [] is = is
alone at minutes (word ∷ rest) is = tt

time_found : (at : ℕ) (rest : List (List ℕ)) (found : Option ℕ) → IfSome found (λ n. n < 1440) → IfOk (elim found [ None ↦ Err (BadDate at) | Some minutes ↦ elim rest [ [] ↦ Ok minutes | _ ∷ _ ↦ Err (BadDate (at + 1)) ] ]) (λ n. n < 1440)
time_found at rest None is = tt
time_found at rest (Some minutes) is = alone at minutes rest is

time_within : (at : ℕ) (words : List (List ℕ)) → IfOk (time_says at words) (λ n. n < 1440)
time_within at [] = omega arith
time_within at (word ∷ rest) = time_found at rest (minutes_of word) (minutes_real (digits_of 1 2 (before_first is_colon word)) (digits_of 1 2 (after_first is_colon word)))

moment_within : (d : Day) (time : Result ℕ DateFault) → is_day d ≡ true → IfOk time (λ n. n < 1440) → IfOk (moment_of 0 2145916799 d time) IsFour
moment_within d (Err fault) is early = tt
moment_within d (Ok minutes) is early = go (nat_lt d.year 1970) (nat_lt 2037 d.year) refl
  where
    go : (a b : Bool) → nat_lt 2037 d.year ≡ b → IfOk (if a then Err DateOutOfRange else if b then Ok 2145916799 else Ok (second_of d minutes + 0)) IsFour
    go true b late = tt
    go false true late = omega arith
    go false false late = omega (arith, second_most d minutes is (ltb-false 2037 d.year late) early)

date_found : (at : ℕ) (rest : List (List ℕ)) (found : Option Day) → IfSome found (λ d. is_day d ≡ true) → IfOk (elim found [ None ↦ Err (BadDate at) | Some d ↦ moment_of 0 2145916799 d (time_says (at + 1) rest) ]) IsFour
date_found at rest None is = tt
date_found at rest (Some d) is = moment_within d (time_says (at + 1) rest) is (time_within (at + 1) rest)

date_within : (at : ℕ) (words : List (List ℕ)) → IfOk (date_says at 0 2145916799 words) IsFour
date_within at [] = tt
date_within at (word ∷ rest) = date_found at rest (day_of word) (day_real (digits_of 1 2 (before_first is_slash word)) (digits_of 1 2 (before_first is_slash (after_first is_slash word))) (digits_of 4 4 (after_first is_slash (after_first is_slash word))))

-- ---- spans

last_days : (at years months days : ℕ) (rest : List (List ℕ)) → IsTwo years → IsTwo months → IsTwo days → IfOk (elim rest [ [] ↦ Ok (In years months days) | _ ∷ _ ↦ Err (BadDate (at + 1)) ]) IsExpiry
last_days at years months days [] y m d = (y, m, d)
last_days at years months days (word ∷ rest) y m d = tt

days_found : (at years months : ℕ) (rest : List (List ℕ)) (found : Option ℕ) → IsTwo years → IsTwo months → IfSome found IsTwo
    → IfOk (elim found [ None ↦ Err (BadDate at) | Some days ↦ elim rest [ [] ↦ Ok (In years months days) | _ ∷ _ ↦ Err (BadDate (at + 1)) ] ]) IsExpiry
days_found at years months rest None y m is = tt
days_found at years months rest (Some days) y m is = last_days at years months days rest y m is

days_within : (at years months : ℕ) (words : List (List ℕ)) → IsTwo years → IsTwo months → IfOk (days_say at years months words) IsExpiry
days_within at years months [] y m = go ((years == 0) && (months == 0))
  where
    go : (b : Bool) → IfOk (if b then Err (BadDate at) else Ok (In years months 0)) IsExpiry
    go true = tt
    go false = (y, m, omega arith)
days_within at years months (word ∷ rest) y m = days_found at years months rest (amount_of 100 word) y m (amount_small 100 word)

months_found : (at years : ℕ) (word : List ℕ) (rest : List (List ℕ)) (found : Option ℕ) → IsTwo years → IfSome found IsTwo
    → IfOk (elim found [ None ↦ days_say at years 0 (word ∷ rest) | Some months ↦ days_say (at + 1) years months rest ]) IsExpiry
months_found at years word rest None y is = days_within at years 0 (word ∷ rest) y (omega arith)
months_found at years word rest (Some months) y is = days_within (at + 1) years months rest y is

months_within : (at years : ℕ) (words : List (List ℕ)) → IsTwo years → IfOk (months_say at years words) IsExpiry
months_within at years [] y = days_within at years 0 [] y (omega arith)
months_within at years (word ∷ rest) y = months_found at years word rest (amount_of 109 word) y (amount_small 109 word)

years_found : (at : ℕ) (word : List ℕ) (rest : List (List ℕ)) (found : Option ℕ) → IfSome found IsTwo
    → IfOk (elim found [ None ↦ months_say at 0 (word ∷ rest) | Some years ↦ months_say (at + 1) years rest ]) IsExpiry
years_found at word rest None is = months_within at 0 (word ∷ rest) (omega arith)
years_found at word rest (Some years) is = months_within (at + 1) years rest is

span_within : (at : ℕ) (words : List (List ℕ)) → IfOk (span_says at words) IsExpiry
span_within at [] = months_within at 0 [] (omega arith)
span_within at (word ∷ rest) = years_found at word rest (amount_of 121 word) (amount_small 121 word)

-- ---- expirations

never_within : (at : ℕ) (words : List (List ℕ)) → IfOk (never_says at words) IsExpiry
never_within at [] = tt
never_within at (word ∷ rest) = tt

second_within : (r : Result ℕ DateFault) → IfOk r IsFour → IfOk (at_moment r) IsExpiry
second_within (Ok second) is = is
second_within (Err fault) is = tt

chosen : (b : Bool) (r s : Result Expiry DateFault) → IfOk r IsExpiry → IfOk s IsExpiry → IfOk (if b then r else s) IsExpiry
chosen true r s is_r is_s = is_r
chosen false r s is_r is_s = is_s

at_within : (at : ℕ) (words : List (List ℕ)) → IfOk (moment_says at words) IsExpiry
at_within at [] = tt
at_within at (word ∷ rest) = chosen (is_same_word word never_word) _ _ (never_within (at + 1) rest) (second_within (date_says at 0 2145916799 (word ∷ rest)) (date_within at (word ∷ rest)))

pub expiry_within : (words : List (List ℕ)) → IfOk (expiry_says words) IsExpiry
expiry_within [] = tt
expiry_within (word ∷ rest) =
    chosen (is_same_word word at_word) _ _ (at_within 1 rest)
    (chosen (is_same_word word in_word) _ _ (span_within 1 rest)
    (chosen (begins_moment word) _ _ (at_within 0 (word ∷ rest)) (span_within 0 (word ∷ rest))))
