-- The records of a tape, as the bytes of its log say them.
use Rattle.std.specs.Prelude.{ℕ, ◌+◌, ◌*◌, ◌/◌, ◌==◌, if◌then◌else◌, List, length, drop, map, slice_index}
use Rattle.std.specs.List.{range_with_len}
use Rattle.crash_log.specs.Log.{span}
use Rattle.plant_core.specs.Records.{Record, block_with, mark, bad}

-- What a piece says: it has 16,385 bytes, of which the first is 0 in front of the bytes of a block, or 1 for a mark, whose
-- other bytes aren't read. A piece with another first byte, or a shorter one, is a bad record.
unfoldable pub record_of : List ℕ → Record
record_of piece =
    if length piece == 16385
    then (if slice_index piece 0 == 0 then block_with (drop 1 piece) else (if slice_index piece 0 == 1 then mark else bad))
    else bad

-- one piece for each 16,385 bytes, and one for what is left over
abbrev pub count_of : ℕ → ℕ
count_of bytes = (bytes + 16384) / 16385

-- the records of a log: the piece of record i begins at 16,385 * i
unfoldable pub records_of : List ℕ → List Record
records_of bytes = map (λ i. record_of (span (16385 * i) 16385 bytes)) (range_with_len 0 (count_of (length bytes)))
