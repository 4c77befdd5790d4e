-- The kinds of frames by version and number, and the fields of each.
use Rattle.std.specs.Prelude.{◌≡◌, ℕ, List, [], ◌∷◌, ◌==◌, if◌then◌else◌}
use Rattle.byte_formats.specs.Formats.{Format}
use Rattle.tape_frames.specs.declared.kind.Kind.{Kind}
use Rattle.tape_frames.specs.declared.kind.Kind.TheVariants as kinds
use Rattle.tape_frames.specs.declared.dump_head.DumpHeadFields.{DumpHeadFields}
use Rattle.tape_frames.specs.declared.frame.Frame.{Frame}
use Rattle.tape_frames.specs.declared.frame.Frame.TheVariants.{Label, DumpHead, VolHead, Data, VolEnd, DumpEnd}
use Rattle.tape_frames.specs.Layouts.{label_bytes, plain_head_bytes, dump_head_bytes, vol_head_bytes, data_bytes, vol_end_bytes, dump_end_bytes}
use Rattle.tape_frames.specs.Frames.{Fits}

-- the version in byte 4 of a block, counted from 0: 2 for a dump's head that tells uses, 1 for all others
abbrev pub version : Kind → ℕ
version kinds.Label = 1
version kinds.PlainHead = 1
version kinds.DumpHead = 2
version kinds.VolHead = 1
version kinds.Data = 1
version kinds.VolEnd = 1
version kinds.DumpEnd = 1

-- the number of the kind in byte 5 of a block, counted from 0; a dump's head has 2 in both versions
abbrev pub code : Kind → ℕ
code kinds.Label = 1
code kinds.PlainHead = 2
code kinds.DumpHead = 2
code kinds.VolHead = 3
code kinds.Data = 4
code kinds.VolEnd = 5
code kinds.DumpEnd = 6

-- the first eight bytes: the letters AFST, the version, the kind, and two zeros
abbrev pub head : Kind → List ℕ
head kind = 65 ∷ 70 ∷ 83 ∷ 84 ∷ version kind ∷ code kind ∷ 0 ∷ 0 ∷ []

-- a dump's head is plain where it tells no uses
abbrev pub head_kind : DumpHeadFields → Kind
head_kind a = if a.uses == 0 then kinds.PlainHead else kinds.DumpHead

-- the bytes of a dump's head from byte 8 on: those of version 1 where it tells no uses, else those of version 2
abbrev pub head_fields : DumpHeadFields → List ℕ
head_fields a = if a.uses == 0 then plain_head_bytes a else dump_head_bytes a

-- the kind of a frame, with its version; that of a dump's head depends on whether it tells uses
abbrev pub kind_of : Frame → Kind
kind_of (Label a) = kinds.Label
kind_of (DumpHead a) = head_kind a
kind_of (VolHead a) = kinds.VolHead
kind_of (Data a) = kinds.Data
kind_of (VolEnd a) = kinds.VolEnd
kind_of (DumpEnd a) = kinds.DumpEnd

-- what stands behind the first eight bytes, but for the zeros at the end
abbrev pub fields_of : Frame → List ℕ
fields_of (Label a) = label_bytes a
fields_of (DumpHead a) = head_fields a
fields_of (VolHead a) = vol_head_bytes a
fields_of (Data a) = data_bytes a
fields_of (VolEnd a) = vol_end_bytes a
fields_of (DumpEnd a) = dump_end_bytes a

-- frames of one kind, by their fields
abbrev pub frame_form : Kind → Format Frame
frame_form kind = record { Is = λ f. Fits f × (kind_of f ≡ kind); spelled = fields_of }
