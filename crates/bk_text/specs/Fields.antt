-- Number fields in bytes, read from the front on.
use Rattle.std.specs.Prelude.{◌≡◌, ℕ, ◌+◌, ◌<◌, ◌≤◌, List, length, take, drop}
use Rattle.std.specs.Int.{Width, from_be_bytes, to_be_bytes}

-- how far bytes were read
pub record Reading : Type 0 where
  pub bytes : List ℕ
  pub at : ℕ

-- the next n bytes are taken, and they are these
pub record Took (n : ℕ) (old new : Reading) (piece : List ℕ) : Type 0 where
  pub within : old.at + n ≤ length old.bytes
  pub bytes : new.bytes ≡ old.bytes
  pub at : new.at ≡ old.at + n
  pub is : piece ≡ take n (drop old.at old.bytes)

-- fewer than n bytes are left; nothing is taken, and the end of the bytes is told
pub record Lacks (n : ℕ) (old new : Reading) (end : ℕ) : Type 0 where
  pub few : length old.bytes < old.at + n
  pub stays : new ≡ old
  pub is_end : end ≡ length old.bytes

-- the next bytes are those of this number, the most significant byte first, and say it
pub record TookNumber (w : Width) (n : ℕ) (old new : Reading) (number : ℕ) : Type 0 where
  pub took : Took n old new (to_be_bytes w number)
  pub is : number ≡ from_be_bytes w (take n (drop old.at old.bytes))
