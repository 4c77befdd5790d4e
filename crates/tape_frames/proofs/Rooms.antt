-- Each frame has room in a block, and there is one of each kind.
use Rattle.std.proofs.Common.{◌≡◌, inl, inr, ℕ, ◌+◌, ◌≤◌, ◌==◌, Bool, true, false, cond, List, length, refl, ap, arith, length-append}
use Rattle.std.proofs.lemmas.List.{length-replicate}
use Rattle.bk_text.specs.Alphabets.{IsHost, IsTapeName}
use Rattle.byte_formats.specs.Bytes.{two, four, text1, text2}
use Rattle.byte_formats.specs.Forms.{IsMaybe}
use Rattle.byte_formats.specs.Formats.{Format}
use Rattle.byte_formats.proofs.FormatLaws.{Has, has_like, has_both}
use Rattle.tape_frames.specs.declared.label.LabelFields.{LabelFields}
use Rattle.tape_frames.specs.declared.dump_head.DumpHeadFields.{DumpHeadFields}
use Rattle.tape_frames.specs.declared.vol_head.VolHeadFields.{VolHeadFields}
use Rattle.tape_frames.specs.declared.frame.Frame.{Frame}
use Rattle.tape_frames.specs.declared.frame.Frame.TheVariants as frames
use Rattle.tape_frames.specs.declared.kind.Kind.{Kind}
use Rattle.tape_frames.specs.declared.kind.Kind.TheVariants as kinds
use Rattle.tape_frames.specs.Layouts.{label_bytes, plain_head_bytes, dump_head_bytes, vol_head_bytes, FitsLabel, FitsDumpHead, FitsVolHead}
use Rattle.tape_frames.specs.Frames.{Fits}
use Rattle.tape_frames.specs.Kinds.{fields_of, frame_form}
use Rattle.tape_frames.specs.Formats.{label_form, plain_head_form, dump_head_form, vol_head_form, data_form, vol_end_form, dump_end_form}
use Rattle.tape_frames.proofs.Rows.{label_1, plain_1, use_1, vol_head_1, data_1, vol_end_1, dump_end_1, has_label_1, has_plain_1, has_use_1, has_vol_head_1, has_data_1, has_vol_end_1, has_dump_end_1}
use Rattle.tape_frames.proofs.Likes.{head_1, like_label, like_plain, like_head, like_vol_head, like_data, like_vol_end, like_dump_end}
use Rattle.tape_frames.proofs.Wraps.{Wrap, wrap_label, wrap_plain, wrap_head, wrap_vol_head, wrap_data, wrap_vol_end, wrap_dump_end}

-- ---- lengths

pub four_long : (n : ℕ) → length (four n) ≡ 4
unfolding four
four_long n = refl

pub text1_long : (text : List ℕ) → length (text1 text) ≡ 1 + length text
unfolding text1
text1_long text = omega arith

two_long : (n : ℕ) → length (two n) ≡ 2
unfolding two
two_long n = refl

pub text2_long : (text : List ℕ) → length (text2 text) ≡ 2 + length text
unfolding text2
text2_long text = omega (arith, length-append (two (length text)) text, two_long (length text))

pub maybe_host_short : (text : List ℕ) → IsMaybe IsHost text → length text ≤ 63
maybe_host_short text (inl host) = host.short
maybe_host_short text (inr none) = omega (arith, ap length none)

pub maybe_name_short : (text : List ℕ) → IsMaybe IsTapeName text → length text ≤ 80
maybe_name_short text (inl name) = name.short
maybe_name_short text (inr none) = omega (arith, ap length none)

label_room : (a : LabelFields) → FitsLabel a → length (label_bytes a) ≤ 16376
label_room a is =
    let afs = maybe_name_short a.afs is.afs in
    let permanent = maybe_name_short a.permanent is.permanent in
    simp (length-append, four_long, text1_long) (omega (arith, afs, permanent))

plain_room : (a : DumpHeadFields) → FitsDumpHead a → length (plain_head_bytes a) ≤ 500
plain_room a is =
    let set : length a.set ≤ 31 = is.set.short in
    let level : length a.level ≤ 256 = is.level.short in
    let base : length a.base ≤ 69 = is.base.1 in
    simp (length-append, four_long, text1_long, text2_long) (omega (arith, set, level, base))

head_room : (a : DumpHeadFields) → FitsDumpHead a → length (dump_head_bytes a) ≤ 16376
head_room a is =
    let set : length a.set ≤ 31 = is.set.short in
    let level : length a.level ≤ 256 = is.level.short in
    let base : length a.base ≤ 69 = is.base.1 in
    let cell = maybe_host_short a.cell is.cell in
    let permanent = maybe_name_short a.permanent is.permanent in
    simp (length-append, four_long, text1_long, text2_long) (omega (arith, set, level, base, cell, permanent))

either_room : (x y : List ℕ) (b : Bool) → length x ≤ 500 → length y ≤ 16376 → length (cond b x y) ≤ 16376
either_room x y true hx hy = omega (arith, hx)
either_room x y false hx hy = hy

vol_head_room : (a : VolHeadFields) → FitsVolHead a → length (vol_head_bytes a) ≤ 16376
vol_head_room a is =
    let name : length a.name ≤ 31 = is.name.short in
    let server : length a.server ≤ 63 = is.server.short in
    let partition : length a.partition ≤ 31 = is.partition.short in
    simp (length-append, four_long, text1_long) (omega (arith, name, server, partition))

pub short_fields : (f : Frame) → Fits f → length (fields_of f) ≤ 16376
short_fields (frames.Label a) is = label_room a is
short_fields (frames.DumpHead a) is = either_room (plain_head_bytes a) (dump_head_bytes a) (a.uses == 0) (plain_room a is) (head_room a is)
short_fields (frames.VolHead a) is = vol_head_room a is
short_fields (frames.Data a) is = simp (length-append, four_long) (omega (arith, is.size, length-replicate {A = ℕ} 12 0))
short_fields (frames.VolEnd a) is = simp (length-append, four_long) (omega arith)
short_fields (frames.DumpEnd a) is = simp (length-append, four_long) (omega arith)

-- ---- a frame of each kind

wrap_has : {X : Type 0} (F : Format X) (k : Kind) (to : X → Frame) → Wrap F k to → Has F → Has (frame_form k)
wrap_has F k to wrap h = record { value = to h.value; is = wrap.is h.value h.is }

pub has_frame : (k : Kind) → Has (frame_form k)
has_frame kinds.Label = wrap_has label_form kinds.Label frames.Label wrap_label (has_like label_1 label_form like_label has_label_1)
has_frame kinds.PlainHead = wrap_has plain_head_form kinds.PlainHead frames.DumpHead wrap_plain (has_like plain_1 plain_head_form like_plain has_plain_1)
has_frame kinds.DumpHead = wrap_has dump_head_form kinds.DumpHead frames.DumpHead wrap_head (has_like head_1 dump_head_form like_head (has_both plain_head_form (λ x. use_1) (has_like plain_1 plain_head_form like_plain has_plain_1) has_use_1))
has_frame kinds.VolHead = wrap_has vol_head_form kinds.VolHead frames.VolHead wrap_vol_head (has_like vol_head_1 vol_head_form like_vol_head has_vol_head_1)
has_frame kinds.Data = wrap_has data_form kinds.Data frames.Data wrap_data (has_like data_1 data_form like_data has_data_1)
has_frame kinds.VolEnd = wrap_has vol_end_form kinds.VolEnd frames.VolEnd wrap_vol_end (has_like vol_end_1 vol_end_form like_vol_end has_vol_end_1)
has_frame kinds.DumpEnd = wrap_has dump_end_form kinds.DumpEnd frames.DumpEnd wrap_dump_end (has_like dump_end_1 dump_end_form like_dump_end has_dump_end_1)
