-- The base of a dump's tapes.
use Rattle.std.proofs.Common.{ℕ, ◌≤◌, List, length, arith}
use Rattle.bk_text.specs.Alphabets.{IsTapeName}
use Rattle.byte_formats.specs.Forms.{IsBase}

pub short_base : (base : List ℕ) → IsTapeName base → length base ≤ 69 → IsBase base
short_base base is short = record { some = is.some; short = short; first = is.first; each = is.each }

pub base_name : (base : List ℕ) → IsBase base → IsTapeName base
base_name base is = record { some = is.some; short = omega (arith, is.short); first = is.first; each = is.each }
