-- The fields of frames as values that are read one behind another.
use Rattle.std.specs.Prelude.{◌≡◌, ◌⊎◌, ℕ, ◌-◌, ◌<◌, ◌≤◌, List, [], length, drop, replicate, All, ◌==◌, if◌then◌else◌}
use Rattle.bk_text.specs.Alphabets.{IsTapeName}
use Rattle.byte_formats.specs.Formats.{Format, four_in, text1_of}
use Rattle.tape_frames.specs.declared.label.LabelFields.{LabelFields}
use Rattle.tape_frames.specs.declared.dump_head.DumpHeadFields.{DumpHeadFields}
use Rattle.tape_frames.specs.declared.vol_head.VolHeadFields.{VolHeadFields}
use Rattle.tape_frames.specs.declared.data.DataFields.{DataFields}
use Rattle.tape_frames.specs.declared.vol_end.VolEndFields.{VolEndFields}
use Rattle.tape_frames.specs.declared.dump_end.DumpEndFields.{DumpEndFields}
use Rattle.tape_frames.specs.Layouts.{label_bytes, plain_head_bytes, dump_head_bytes, vol_head_bytes, data_bytes, vol_end_bytes, dump_end_bytes, FitsLabel, FitsDumpHead, FitsVolHead, FitsData, FitsVolEnd, FitsDumpEnd}

-- ---- fields whose form an earlier one rules

-- a tape's number is 0 where the initial id is, and isn't where that isn't
abbrev pub tape_of : ℕ → Format ℕ
tape_of initial = four_in (if initial == 0 then 0 else 1) (if initial == 0 then 0 else 4294967295)

-- the AFS name may be empty where the initial id is 0
abbrev pub IsAfs : ℕ → List ℕ → Type 0
IsAfs initial text = IsTapeName text ⊎ ((initial ≡ 0) × (text ≡ []))

-- the AFS name in a label of this initial id, behind its length in one byte
abbrev pub afs_of : ℕ → Format (List ℕ)
afs_of initial = text1_of (IsAfs initial)

-- so many zeros
abbrev pub zeros_of : ℕ → Format (List ℕ)
zeros_of count = record { Is = λ bytes. bytes ≡ replicate count 0; spelled = λ bytes. bytes }

-- so many bytes, zeros from the used ones on
abbrev pub IsUsed : ℕ → ℕ → List ℕ → Type 0
IsUsed count used bytes = (length bytes ≡ count) × All (λ b. b < 256) bytes × (drop used bytes ≡ replicate (count - used) 0)

-- so many bytes as they are, of which those behind the used ones are zeros
abbrev pub used_of : ℕ → ℕ → Format (List ℕ)
used_of count used = record { Is = IsUsed count used; spelled = λ bytes. bytes }

-- ---- the fields of each kind

-- a tape's label, kind 1: its fields as they have to be, and their bytes
abbrev pub label_form : Format LabelFields
label_form = record { Is = FitsLabel; spelled = label_bytes }

-- the head of a dump's part in version 1, kind 2, which tells no uses of the tape, and its bytes
abbrev pub plain_head_form : Format DumpHeadFields
plain_head_form = record { Is = λ a. FitsDumpHead a × (a.uses ≡ 0); spelled = plain_head_bytes }

-- the head of a dump's part in version 2, kind 2, which tells one use of the tape or more, and its bytes
abbrev pub dump_head_form : Format DumpHeadFields
dump_head_form = record { Is = λ a. FitsDumpHead a × (1 ≤ a.uses); spelled = dump_head_bytes }

-- the head of a volume's fragment, kind 3: its fields as they have to be, and their bytes
abbrev pub vol_head_form : Format VolHeadFields
vol_head_form = record { Is = FitsVolHead; spelled = vol_head_bytes }

-- a piece of a volume's stream, kind 4: its fields as they have to be, and their bytes
abbrev pub data_form : Format DataFields
data_form = record { Is = FitsData; spelled = data_bytes }

-- the end of a volume's fragment, kind 5: its fields as they have to be, and their bytes
abbrev pub vol_end_form : Format VolEndFields
vol_end_form = record { Is = FitsVolEnd; spelled = vol_end_bytes }

-- the end of a dump's part on a tape, kind 6: its fields as they have to be, and their bytes
abbrev pub dump_end_form : Format DumpEndFields
dump_end_form = record { Is = FitsDumpEnd; spelled = dump_end_bytes }
