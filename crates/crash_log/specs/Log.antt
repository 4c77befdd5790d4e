-- What the bytes of a file stand for as a log: two slots, each a gate and a place, and the bytes at the place of the current one.
use Rattle.std.specs.Prelude.{◌≡◌, ◌⊎◌, ℕ, ◌+◌, ◌≤◌, ◌^◌, ◌==◌, ◌&&◌, ◌||◌, nat_le, not, if◌then◌else◌, Bool, false, List, [], length, take, drop, slice_index}
use Rattle.std.specs.Int.{w64, from_be_bytes}

-- n bytes from a on
abbrev pub span : ℕ → ℕ → List ℕ → List ℕ
span a n file = take n (drop a file)

-- What the fields of a slot say. Behind the gate stand a byte with the turn, six that aren't read, eight with the start and
-- eight with the size.
pub record Place : Type 0 where
  pub turn : ℕ
  pub start : ℕ
  pub size : ℕ

unfoldable pub place_of : List ℕ → Place
place_of bytes = record { turn = slice_index bytes 0; start = from_be_bytes w64 (span 7 8 bytes); size = from_be_bytes w64 (span 15 8 bytes) }

-- a place that a good slot may have
pub record IsFine (p : Place) : Type 0 where
  pub turn : p.turn ≤ 2
  pub low : 8192 ≤ p.start
  pub high : p.start ≤ 2 ^ 40
  pub small : p.size ≤ 2 ^ 38

-- the gate and the fields of the slot at a base, 0 or 4096
abbrev pub gate_at : ℕ → List ℕ → ℕ
gate_at base file = slice_index (span base 1 file) 0

-- what the 23 bytes behind the gate of a slot say: its turn, and where its log starts and how many bytes it has
abbrev pub place_at : ℕ → List ℕ → Place
place_at base file = place_of (span (base + 1) 23 file)

-- a place that a good slot may have, with its bytes within a file of this length
abbrev pub is_fine : Place → ℕ → Bool
is_fine p long = nat_le p.turn 2 && (nat_le 8192 p.start && (nat_le p.start (2 ^ 40) && (nat_le p.size (2 ^ 38) && nat_le (p.start + p.size) long)))

-- a slot is good where its gate is 1, its place is fine and the bytes of its place are in the file
abbrev pub is_good : ℕ → List ℕ → Bool
is_good base file = gate_at base file == 1 && is_fine (place_at base file) (length file)

-- 0, 1, 2 and 0 again
abbrev pub successor : ℕ → ℕ
successor turn = if turn == 2 then 0 else turn + 1

-- the bytes that a slot names
abbrev pub named : ℕ → List ℕ → List ℕ
named base file = span (place_at base file).start (place_at base file).size file

-- The log of a file. With one good slot it is the bytes that this one names. With two it is those of the one whose turn is
-- the other's successor; with equal turns those of the first. With none, as in a file shorter than 8192 bytes, it is empty.
abbrev pub log_of : List ℕ → List ℕ
log_of file =
    if is_good 4096 file
    then (if is_good 0 file
    then (if (place_at 4096 file).turn == successor (place_at 0 file).turn then named 4096 file else named 0 file)
    else named 4096 file)
    else (if is_good 0 file then named 0 file else [])

-- a file of 8192 bytes and more without a good slot
abbrev pub is_damaged : List ℕ → Bool
is_damaged file = nat_le 8192 (length file) && not (is_good 0 file || is_good 4096 file)

-- a file that isn't damaged doesn't become so
abbrev pub StaysWhole : List ℕ → List ℕ → Type 0
StaysWhole old new = is_damaged old ≡ false → is_damaged new ≡ false

-- a file has this log, and isn't damaged where it wasn't
pub record HasLog (log old new : List ℕ) : Type 0 where
  pub bytes : log_of new ≡ log
  pub whole : StaysWhole old new

-- a file has one of two logs, and isn't damaged where it wasn't
pub record HasOneOf (before after old new : List ℕ) : Type 0 where
  pub bytes : (log_of new ≡ before) ⊎ (log_of new ≡ after)
  pub whole : StaysWhole old new

-- whatever one file is
abbrev pub Any : List ℕ → List ℕ → Type 0
Any old new = Unit {0}
