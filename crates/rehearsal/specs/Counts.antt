-- What is counted over replies and tapes.
use Rattle.std.specs.Prelude.{ℕ, ◌+◌, List, Bool, true, false, nat_eq}
use Rattle.std.specs.List.{count_by, slice_split, starts_with}
use Rattle.plant_core.specs.Records.{Record, block_with, mark, bad}
use Rattle.plant_core.specs.declared.record.Kind.{Kind}
use Rattle.plant_core.specs.declared.record.Kind.TheVariants.{Block, Mark, Bad}
use Rattle.rehearsal.specs.declared.tapes.Records.{Records}
use Rattle.backup_replies.specs.Texts.{is_feed}

-- how many lines of a text begin so
abbrev pub lines_with : List ℕ → List ℕ → ℕ
lines_with front text = count_by (λ line. starts_with nat_eq line front) (slice_split is_feed text)

-- a record is a block, not a filemark and not a bad one
abbrev pub is_block : Record → Bool
is_block (block_with bytes) = true
is_block mark = false
is_block bad = false

-- a record is a filemark
abbrev pub is_mark : Record → Bool
is_mark (block_with bytes) = false
is_mark mark = true
is_mark bad = false

-- the blocks, and the filemarks, on the tapes of the four slots
abbrev pub on_tapes : (Record → Bool) → (ℕ → List Record) → ℕ
on_tapes is_one tape = count_by is_one (tape 0) + count_by is_one (tape 1) + count_by is_one (tape 2) + count_by is_one (tape 3)

-- ---- inside the crate

-- one record of a kind
abbrev pub one_of : Kind → Records
one_of Block = record { blocks = 1; marks = 0 }
one_of Mark = record { blocks = 0; marks = 1 }
one_of Bad = record { blocks = 0; marks = 0 }
