-- The numbers of a configuration.
use Rattle.std.specs.Prelude.{ℕ, ◌-◌, ◌*◌, List, length, take, slice_index, Bool, not, ◌&&◌, ◌||◌, ◌==◌, nat_lt, nat_le, min, if◌then◌else◌, Option, Some, None}
use Rattle.bk_text.specs.Digits.{number_of, digits_of}

-- one to nine digits
abbrev pub count_of : List ℕ → Option ℕ
count_of word = digits_of 1 9 word

-- a number up to a limit
abbrev pub up_to : ℕ → Option ℕ → Option ℕ
up_to most (Some n) = if nat_le n most then Some n else None
up_to most None = None

-- a word with no zero in front of other digits
abbrev pub has_plain_front : List ℕ → Bool
has_plain_front word = (length word == 1) || (nat_lt 1 (length word) && not (slice_index word 0 == 48))

-- a number up to a limit, without leading zeros
abbrev pub plain_of : ℕ → List ℕ → Option ℕ
plain_of most word = if has_plain_front word then up_to most (number_of word) else None

-- the units k, m, g and t in either case, as powers of 1,024
abbrev pub unit_of : ℕ → Option ℕ
unit_of b =
    if (b == 107) || (b == 75) then Some 1024 else
    if (b == 109) || (b == 77) then Some 1048576 else
    if (b == 103) || (b == 71) then Some 1073741824 else
    if (b == 116) || (b == 84) then Some 1099511627776 else None

-- a size above 4,000,000,000 counts as that
abbrev pub reduced : ℕ → Option ℕ → Option ℕ
reduced unit (Some n) = Some (min (n * unit) 4000000000)
reduced unit None = None

-- the size in bytes that a word tells with this unit's letter behind its digits, or without a letter
abbrev pub sized : Option ℕ → List ℕ → Option ℕ
sized None word = reduced 1 (count_of word)
sized (Some unit) word = reduced unit (count_of (take (length word - 1) word))

-- a size: one to nine digits, and behind them perhaps a unit
abbrev pub size_of : List ℕ → Option ℕ
size_of word = sized (unit_of (slice_index word (length word - 1))) word

-- a capacity of 0 counts as 2,147,483,648
abbrev pub capacity_of : ℕ → ℕ
capacity_of size = if size == 0 then 2147483648 else size
