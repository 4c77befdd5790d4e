-- The numbers of the first bytes, as `byteorder` reads them, are std's.
use Rattle.std.proofs.Common.{◌≡◌, ℕ, List, arith}
use Rattle.std.specs.Int.{w16, w32, w64, from_be_bytes}
use Rattle.byteorder.specs.Endian.{big_number}

pub big_two : (bs : List ℕ) → big_number 2 bs ≡ from_be_bytes w16 bs
big_two bs = omega arith

pub big_four : (bs : List ℕ) → big_number 4 bs ≡ from_be_bytes w32 bs
big_four bs = omega arith

pub big_eight : (bs : List ℕ) → big_number 8 bs ≡ from_be_bytes w64 bs
big_eight bs = omega arith
