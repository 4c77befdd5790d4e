-- The label of a tape, as its first record has it.
use Rattle.std.specs.Prelude.{ℕ, ◌+◌, List, [], ◌∷◌, length, take, drop, slice_index, Bool, not, ◌&&◌, ◌||◌, ◌==◌, nat_le, if◌then◌else◌, Option, Some, None}
use Rattle.std.specs.Int.{w32, from_be_bytes}
use Rattle.bk_text.specs.Tests.{tape_name_test}
use Rattle.bk_text.specs.Blanks.{is_same_text}
use Rattle.plant_core.specs.Records.{Record, block_with, mark, bad}
use Rattle.tape_frames.specs.declared.label.LabelFields.{LabelFields}
use Rattle.tape_frames.specs.declared.frame.Frame.{Frame}
use Rattle.tape_frames.specs.declared.frame.Frame.TheVariants.{Label}
use Rattle.tape_frames.specs.Frames.{spelling}

-- a number of four bytes at a place, and a text behind its length in one byte
abbrev pub number_at : ℕ → List ℕ → ℕ
number_at at bytes = from_be_bytes w32 (take 4 (drop at bytes))

-- a text that stands behind its length at a place
abbrev pub text_at : ℕ → List ℕ → List ℕ
text_at at bytes = take (slice_index bytes at) (drop (at + 1) bytes)

-- what stands where the block of a label has its fields
abbrev pub fields_in : List ℕ → LabelFields
fields_in bytes = record {
  initial = number_at 8 bytes;
  tape = number_at 12 bytes;
  afs = take (slice_index bytes 16) (drop 17 bytes);
  permanent = text_at (slice_index bytes 16) (drop 17 bytes);
}

-- a tape's name, or nothing
abbrev pub is_name_or_none : List ℕ → Bool
is_name_or_none text = tape_name_test text || (length text == 0)

-- fields that a label may have
abbrev pub is_label : LabelFields → Bool
is_label a =
    nat_le a.initial 4294967295 && (nat_le a.tape 4294967295 && (is_name_or_none a.afs && (is_name_or_none a.permanent
    && (((a.initial == 0) && (a.tape == 0)) || (not (a.initial == 0) && (not (a.tape == 0) && not (length a.afs == 0)))))))

-- the label whose block this is; none where it is no label's
abbrev pub label_in : List ℕ → Option LabelFields
label_in bytes = if is_label (fields_in bytes) && is_same_text bytes (spelling (Label (fields_in bytes))) then Some (fields_in bytes) else None

-- the label that a frame is
abbrev pub label_from : Frame → Option LabelFields
label_from (Label a) = Some a
label_from frame = None

-- the label of a tape: that of its first record, where it is one
abbrev pub label_of : List Record → Option LabelFields
label_of [] = None
label_of (block_with bytes ∷ records) = label_in bytes
label_of (mark ∷ records) = None
label_of (bad ∷ records) = None
