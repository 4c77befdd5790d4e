-- The calendar: the Gregorian one, which is taken to hold in every year from 0 on.
use Rattle.std.specs.Prelude.{zero, suc, ℕ, ◌+◌, ◌-◌, ◌*◌, ◌/◌, ◌%◌, min, Bool, not, ◌&&◌, ◌||◌, ◌==◌, nat_lt, nat_le, if◌then◌else◌}
use Rattle.dump_levels.specs.declared.calendar.Day.{Day}

-- every fourth year is a leap year, but of the centuries only every fourth
abbrev pub is_leap : ℕ → Bool
is_leap year = (year % 4 == 0) && (not (year % 100 == 0) || (year % 400 == 0))

-- 366 days in a leap year, and 365 in another one
abbrev pub days_in_year : ℕ → ℕ
days_in_year year = if is_leap year then 366 else 365

-- thirty days have September, April, June and November
abbrev pub days_in_month : ℕ → ℕ → ℕ
days_in_month year month =
    if month == 2 then (if is_leap year then 29 else 28) else
    if (month == 4) || (month == 6) || (month == 9) || (month == 11) then 30 else 31

-- the calendar has this day
abbrev pub is_day : Day → Bool
is_day d = nat_le 1 d.month && (nat_le d.month 12 && (nat_le 1 d.day && nat_le d.day (days_in_month d.year d.month)))

-- the days of the first n years from 1970 on
abbrev pub days_of_years : ℕ → ℕ
days_of_years zero = 0
days_of_years (suc n) = days_of_years n + days_in_year (1970 + n)

-- the days of the first n months of a year
abbrev pub days_of_months : ℕ → ℕ → ℕ
days_of_months year zero = 0
days_of_months year (suc n) = days_of_months year n + days_in_month year (suc n)

-- how many days lie between 1 January 1970 and a day that isn't before it
abbrev pub days_since : Day → ℕ
days_since d = days_of_years (d.year - 1970) + days_of_months d.year (d.month - 1) + (d.day - 1)

-- the second, since 1970, with which a minute of a day begins; minutes count from midnight
abbrev pub second_of : Day → ℕ → ℕ
second_of d minutes = (days_since d * 1440 + minutes) * 60

-- the day behind a day
abbrev pub next_day : Day → Day
next_day d =
    if nat_lt d.day (days_in_month d.year d.month) then record { year = d.year; month = d.month; day = d.day + 1 } else
    if nat_lt d.month 12 then record { year = d.year; month = d.month + 1; day = 1 } else record { year = d.year + 1; month = 1; day = 1 }

-- the day that comes so many days after 1 January 1970
abbrev pub day_at : ℕ → Day
day_at zero = record { year = 1970; month = 1; day = 1 }
day_at (suc n) = next_day (day_at n)

-- this day of a month, or its last one where the month is shorter
abbrev pub day_held : ℕ → ℕ → ℕ → Day
day_held year month day = record { year = year; month = month; day = min day (days_in_month year month) }

-- so many months after a day: the same day of that month, held to the month's end
abbrev pub months_after : Day → ℕ → Day
months_after d more = day_held (d.year + (d.month - 1 + more) / 12) ((d.month - 1 + more) % 12 + 1) d.day
