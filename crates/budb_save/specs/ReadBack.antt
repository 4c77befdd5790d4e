-- WHAT STANDS ON A SAVE TAPE, as a function of its records: the changes that it has, or the record at which it is no saved database.
use Rattle.std.specs.Prelude.{zero, suc, ℕ, ◌+◌, ◌-◌, ◌/◌, min, Bool, false, ◌&&◌, ◌||◌, ◌==◌, nat_lt, if◌then◌else◌, Option, Some, None, Result, Ok, Err, List, [], ◌∷◌, ◌++◌, length, take, drop, slice_index}
use Rattle.std.specs.Int.{w64, from_be_bytes}
use Rattle.bk_text.specs.Tests.{tape_name_test}
use Rattle.bk_text.specs.Blanks.{is_same_text}
use Rattle.plant_core.specs.Records.{Record, block_with, mark, bad}
use Rattle.tape_frames.specs.declared.frame.Frame.TheVariants.{Label}
use Rattle.tape_frames.specs.Frames.{spelling}
use Rattle.budb_changes.specs.declared.change.Change.{Change}
use Rattle.log_readings.specs.Readings.{reading_of}
use Rattle.budb_save.specs.declared.judging.Stage.{Stage}
use Rattle.budb_save.specs.declared.judging.Stage.TheVariants.{Labelled, Marked, Pieces, Closed}
use Rattle.budb_save.specs.Blocks.{head_block, data_block}
use Rattle.budb_save.specs.Saves.{save_label, room}

-- ---- the label

-- the permanent name that a save's label has: behind the AFS name of saves, which ends at byte 31, and its own length
abbrev pub permanent_at : List ℕ → List ℕ
permanent_at block = take (slice_index block 31) (drop 32 block)

-- the label of a save with this permanent name, which is a tape's name or empty
abbrev pub is_label_with : List ℕ → List ℕ → Bool
is_label_with block permanent = (tape_name_test permanent || (length permanent == 0)) && is_same_text block (spelling (Label (save_label permanent)))

-- a record is a block, and that the label of a save with some permanent name or none
abbrev pub is_save_label : Record → Bool
is_save_label (block_with block) = is_label_with block (permanent_at block)
is_save_label mark = false
is_save_label bad = false

-- ---- the records behind it

-- how many bytes are saved, as a head has it
abbrev pub count_at : List ℕ → ℕ
count_at block = from_be_bytes w64 (take 8 (drop 8 block))

-- the piece that a block has where so many bytes are left: all of them, where they go in
abbrev pub piece_at : ℕ → List ℕ → List ℕ
piece_at left block = take (min left room) (drop 32 block)

-- a head of so many bytes, and a block with this piece of what is left
abbrev pub head_with : List ℕ → ℕ → Option (Stage × List ℕ)
head_with block count = if is_same_text block (head_block count) then Some (Pieces count, []) else None

-- a data block with this piece where so many bytes are left, and what is left behind it; `None` for any other block
abbrev pub piece_with : List ℕ → ℕ → List ℕ → Option (Stage × List ℕ)
piece_with block left piece = if is_same_text block (data_block piece) then Some (Pieces (left - length piece), piece) else None

-- how far a save was read with a block, and the bytes of its piece; none where no save goes on with it
abbrev pub with_block : Stage → List ℕ → Option (Stage × List ℕ)
with_block Labelled block = None
with_block Marked block = head_with block (count_at block)
with_block (Pieces zero) block = None
with_block (Pieces (suc n)) block = piece_with block (suc n) (piece_at (suc n) block)
with_block Closed block = None

-- the same with a mark, which stands behind the label, and behind the last piece
abbrev pub with_mark : Stage → Option (Stage × List ℕ)
with_mark Labelled = Some (Marked, [])
with_mark Marked = None
with_mark (Pieces zero) = Some (Closed, [])
with_mark (Pieces (suc n)) = None
with_mark Closed = None

-- and with any record
abbrev pub with_record : Stage → Record → Option (Stage × List ℕ)
with_record stage (block_with block) = with_block stage block
with_record stage mark = with_mark stage
with_record stage bad = None

-- Behind so many records none is left: the bytes are all there, or records are wanting behind the last one.
abbrev pub ended : ℕ → Stage → List ℕ → Result (List ℕ) ℕ
ended count Labelled bytes = Err (count - 1)
ended count Marked bytes = Err (count - 1)
ended count (Pieces left) bytes = Err (count - 1)
ended count Closed bytes = Ok bytes

-- The saved bytes, of which these stand on so many records; or the first record with which no save goes on, or the last one where
-- records are wanting.
abbrev pub saved_from : ℕ → Stage → List ℕ → List Record → Result (List ℕ) ℕ
saved_from count stage bytes [] = ended count stage bytes
saved_from count stage bytes (r ∷ rs) = elim (with_record stage r) [ None ↦ Err count | Some next ↦ saved_from (count + 1) next.0 (bytes ++ next.1) rs ]

-- ---- the changes

-- the record of a byte that is bad, of so many, on a tape of so many records: its data block, behind the label, the mark and the head;
-- the last one where no byte is
abbrev pub block_of_byte : ℕ → ℕ → ℕ → ℕ
block_of_byte count records at = if nat_lt at count then 3 + at / room else records - 1

-- the changes that so many bytes spell, or in the place of a bad byte the number of its record
abbrev pub changes_or : ℕ → ℕ → Result (List Change) ℕ → Result (List Change) ℕ
changes_or count records (Ok changes) = Ok changes
changes_or count records (Err at) = Err (block_of_byte count records at)

-- the changes whose bytes were saved on a tape of so many records
abbrev pub changes_from : ℕ → Result (List ℕ) ℕ → Result (List Change) ℕ
changes_from records (Ok bytes) = changes_or (length bytes) records (reading_of bytes)
changes_from records (Err place) = Err place

-- THE READING OF A SAVE TAPE: the changes that it has; or the first record with which no save goes on; or the data block with the first
-- byte that no list of changes has there; or, where the saved bytes are a proper front of such a list, or records are wanting, the last
-- record. A tape whose first record isn't the label of a save is bad there.
abbrev pub read_back : List Record → Result (List Change) ℕ
read_back [] = Err 0
read_back (r ∷ rs) = if is_save_label r then changes_from (length (r ∷ rs)) (saved_from 1 Labelled [] rs) else Err 0
