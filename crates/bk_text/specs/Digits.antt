-- Numbers in decimal digits.
use Rattle.std.specs.Prelude.{ℕ, List, length, ◌&&◌, nat_le, if◌then◌else◌, Option, Some, None}
use Rattle.std.specs.Str.{all_ascii_digits}
use Rattle.std.specs.Str.Parse.{digits_value}

-- the number that a word of digits writes
abbrev pub number_of : List ℕ → Option ℕ
number_of word = if all_ascii_digits word then Some (digits_value 10 word) else None

-- from so many to so many digits
abbrev pub digits_of : ℕ → ℕ → List ℕ → Option ℕ
digits_of least most word = if nat_le least (length word) && nat_le (length word) most then number_of word else None
