-- Readers of values at the front of bytes, put together as formats are.
use Rattle.std.specs.Prelude.{zero, suc, ℕ, ◌+◌, ◌-◌, ◌*◌, ◌/◌, min, nat_le, List, [], ◌∷◌, length, Bool, ◌&&◌, if◌then◌else◌, Result, Ok, Err}

-- a value and the bytes behind it; where no value goes on so, how many bytes are left from the first one that doesn't fit
abbrev pub Read : Type 0 → Type 0
Read X = Result (X × List ℕ) ℕ

-- what reads a value at the front of bytes
abbrev pub Reader : Type 0 → Type 0
Reader X = List ℕ → Read X

-- a byte that passes a test
unfoldable pub read_byte : (ℕ → Bool) → List ℕ → Read ℕ
read_byte test [] = Err 0
read_byte test (b ∷ rest) = if test b then Ok (b, rest) else Err (length (b ∷ rest))

-- what was read, seen as another value
unfoldable pub taken_as : {X Z : Type 0} → (X → Z) → Read X → Read Z
taken_as to (Ok taken) = Ok (to taken.0, taken.1)
taken_as to (Err left) = Err left

unfoldable pub read_as : {X Z : Type 0} → (X → Z) → Reader X → Reader Z
read_as to read = λ bytes. taken_as to (read bytes)

-- a value, and one behind it whose reader it may rule
unfoldable pub go_on : {X Y : Type 0} → (X → Reader Y) → Read X → Read (X × Y)
go_on next (Ok taken) = taken_as (λ y. (taken.0, y)) (next taken.0 taken.1)
go_on next (Err left) = Err left

unfoldable pub read_both : {X Y : Type 0} → Reader X → (X → Reader Y) → Reader (X × Y)
read_both read next = λ bytes. go_on next (read bytes)

unfoldable pub read_pair : {X Y : Type 0} → Reader X → Reader Y → Reader (X × Y)
read_pair read next = read_both read (λ x. next)

-- so many values
unfoldable pub read_times : {X : Type 0} → ℕ → Reader X → Reader (List X)
read_times zero read = λ bytes. Ok ([], bytes)
read_times (suc n) read = read_as (λ p. p.0 ∷ p.1) (read_pair read (read_times n read))

-- a value that has no bytes
unfoldable pub read_absent : {X : Type 0} → X → Reader X
read_absent value = λ bytes. Ok (value, bytes)

-- numbers of one byte and of two within bounds, and any number of four
unfoldable pub read_one : ℕ → ℕ → Reader ℕ
read_one low high = read_byte (λ b. nat_le low b && nat_le b high)

unfoldable pub read_two : ℕ → ℕ → Reader ℕ
read_two low high = read_as (λ p. p.0 * 256 + p.1) (read_both (read_one (low / 256) (high / 256)) (λ a. read_one (low - a * 256) (min 255 (high - a * 256))))

unfoldable pub read_four : Reader ℕ
read_four = read_as (λ p. p.0 * 65536 + p.1) (read_pair (read_two 0 65535) (read_two 0 65535))
