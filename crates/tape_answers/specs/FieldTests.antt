-- Tests of the fields of frames: each holds of exactly the fields that fit.
use Rattle.std.specs.Prelude.{ℕ, ◌-◌, List, length, drop, replicate, Bool, not, ◌&&◌, ◌||◌, ◌==◌, nat_le, nat_lt}
use Rattle.std.specs.List.{list_all}
use Rattle.bk_text.specs.Tests.{name_test, host_test, set_name_test, tape_name_test, level_path_test}
use Rattle.bk_text.specs.Blanks.{is_same_text}
use Rattle.byte_formats.specs.Forms.{base_most}
use Rattle.tape_frames.specs.declared.label.LabelFields.{LabelFields}
use Rattle.tape_frames.specs.declared.dump_head.DumpHeadFields.{DumpHeadFields}
use Rattle.tape_frames.specs.declared.vol_head.VolHeadFields.{VolHeadFields}
use Rattle.tape_frames.specs.declared.data.DataFields.{DataFields}
use Rattle.tape_frames.specs.declared.vol_end.VolEndFields.{VolEndFields}
use Rattle.tape_frames.specs.declared.dump_end.DumpEndFields.{DumpEndFields}
use Rattle.tape_frames.specs.declared.frame.Frame.{Frame}
use Rattle.tape_frames.specs.declared.frame.Frame.TheVariants.{Label, DumpHead, VolHead, Data, VolEnd, DumpEnd}

-- a number that four bytes have room for, and one that isn't 0
abbrev pub is_four : ℕ → Bool
is_four n = nat_le n 4294967295

-- a number from 1 on that four bytes have room for
abbrev pub is_counted : ℕ → Bool
is_counted n = nat_le 1 n && is_four n

-- a text that may be empty
abbrev pub is_empty : List ℕ → Bool
is_empty text = length text == 0

-- a text that passes this test, or is empty
abbrev pub is_maybe : (List ℕ → Bool) → List ℕ → Bool
is_maybe test text = test text || is_empty text

-- a number below 256
abbrev pub is_byte : ℕ → Bool
is_byte b = nat_lt b 256

-- either initial and tape are 0, or both aren't and the AFS name isn't empty
abbrev pub label_carries : LabelFields → Bool
label_carries a = ((a.initial == 0) && (a.tape == 0)) || (not (a.initial == 0) && (not (a.tape == 0) && not (is_empty a.afs)))

unfoldable pub label_test : LabelFields → Bool
label_test a = is_four a.initial && (is_four a.tape && (is_maybe tape_name_test a.afs && (is_maybe tape_name_test a.permanent && label_carries a)))

-- cell and permanent name are told only where uses are
abbrev pub head_is_plain : DumpHeadFields → Bool
head_is_plain a = not (a.uses == 0) || (is_empty a.cell && is_empty a.permanent)

-- the numbers of a part's head fit: initial is 1 up to the id, and tape, part and volumes are at least 1
abbrev pub head_numbers : DumpHeadFields → Bool
head_numbers a =
    is_four a.id && ((nat_le 1 a.initial && nat_le a.initial a.id) && (is_four a.parent && (is_four a.expires && (is_counted a.tape && (is_counted a.part && (is_counted a.volumes && is_four a.uses))))))

-- the texts of a part's head fit: set, level and base have their forms, and cell and permanent name may be empty
abbrev pub head_texts : DumpHeadFields → Bool
head_texts a =
    set_name_test a.set && (level_path_test a.level && ((tape_name_test a.base && nat_le (length a.base) base_most) && (is_maybe host_test a.cell && is_maybe tape_name_test a.permanent)))

unfoldable pub head_test : DumpHeadFields → Bool
head_test a = head_numbers a && (head_texts a && head_is_plain a)

unfoldable pub vol_head_test : VolHeadFields → Bool
vol_head_test a =
    (is_four a.dump && (is_four a.index && (is_counted a.fragment && (is_four a.volume && (is_four a.clone && is_four a.from)))))
    && (name_test a.name && (host_test a.server && name_test a.partition))

-- 1 to 16,352 bytes are used, and behind them are zeros
unfoldable pub data_test : DataFields → Bool
data_test a =
    is_four a.dump && (is_four a.index && ((nat_le 1 a.used && nat_le a.used 16352)
    && ((length a.bytes == 16352) && (list_all is_byte a.bytes && is_same_text (drop a.used a.bytes) (replicate (16352 - a.used) 0)))))

unfoldable pub vol_end_test : VolEndFields → Bool
vol_end_test a = is_four a.dump && (is_four a.index && (is_four a.fragment && (nat_le a.last 1 && is_four a.bytes)))

unfoldable pub dump_end_test : DumpEndFields → Bool
dump_end_test a = is_four a.dump && (is_four a.tape && nat_le a.more 1)

-- the fields of a frame fit
abbrev pub frame_test : Frame → Bool
frame_test (Label a) = label_test a
frame_test (DumpHead a) = head_test a
frame_test (VolHead a) = vol_head_test a
frame_test (Data a) = data_test a
frame_test (VolEnd a) = vol_end_test a
frame_test (DumpEnd a) = dump_end_test a
