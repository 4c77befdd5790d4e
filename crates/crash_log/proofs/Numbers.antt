-- The number of eight bytes, as `byteorder` reads it, is std's.
use Rattle.std.proofs.Common.{◌≡◌, ℕ, List, arith}
use Rattle.std.specs.Int.{w64, from_be_bytes}
use Rattle.byteorder.specs.Endian.{big_number}

pub big_eight : (bs : List ℕ) → big_number 8 bs ≡ from_be_bytes w64 bs
big_eight bs = omega arith
