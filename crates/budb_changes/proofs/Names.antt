-- Names that may be empty are short.
use Rattle.std.proofs.Common.{inl, inr, ℕ, ◌<◌, List, length, ap, arith}
use Rattle.bk_text.specs.Alphabets.{IsHost, IsTapeName}
use Rattle.byte_formats.specs.Forms.{IsMaybe}

pub short_permanent : (text : List ℕ) → IsMaybe IsTapeName text → length text < 256
short_permanent text (inl is) = omega (arith, is.short)
short_permanent text (inr empty) = omega (arith, ap length empty)

pub short_cell : (text : List ℕ) → IsMaybe IsHost text → length text < 256
short_cell text (inl is) = omega (arith, is.short)
short_cell text (inr empty) = omega (arith, ap length empty)
