-- Tapes that are kept in memory: the records that they stand for.
use Rattle.std.specs.Prelude.{ℕ, zero, suc, List, [], ◌∷◌, Vec}
use Rattle.std.specs.declared.alloc.Global.{Global}
use Rattle.plant_core.specs.declared.stored.Stored.{Stored}
use Rattle.plant_core.specs.declared.stored.Stored.TheVariants.{Block, Mark}
use Rattle.plant_core.specs.Records.{Record, block_with, mark}

-- the record that one in memory stands for: a block with its 16 KiB, or a filemark; none is bad
abbrev pub record_of : Stored → Record
record_of (Block bytes) = block_with bytes.value
record_of Mark = mark

-- the records of a tape in memory, the first first
abbrev pub records_in : List Stored → List Record
records_in [] = []
records_in (s ∷ ss) = record_of s ∷ records_in ss

-- the records of the tape in a slot, none where no slot is
abbrev pub records_at : List (Vec Stored Global) → ℕ → List Record
records_at [] k = []
records_at (v ∷ vs) zero = records_in v.items
records_at (v ∷ vs) (suc k) = records_at vs k
