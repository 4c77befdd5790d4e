-- The frames of a tape, and the block of each.
use Rattle.std.specs.Prelude.{◌≡◌, ℕ, List}
use Rattle.tape_frames.specs.declared.frame.Frame.{Frame}
use Rattle.tape_frames.specs.declared.frame.Frame.TheVariants.{Label, DumpHead, VolHead, Data, VolEnd, DumpEnd}
use Rattle.tape_frames.specs.Layouts.{label_bytes, vol_head_bytes, data_bytes, vol_end_bytes, dump_end_bytes, FitsLabel, FitsDumpHead, FitsVolHead, FitsData, FitsVolEnd, FitsDumpEnd}
use Rattle.tape_frames.specs.Blocks.{block_of, dump_head_block}

-- the fields are as the row of the kind has them
abbrev pub Fits : Frame → Type 0
Fits (Label a) = FitsLabel a
Fits (DumpHead a) = FitsDumpHead a
Fits (VolHead a) = FitsVolHead a
Fits (Data a) = FitsData a
Fits (VolEnd a) = FitsVolEnd a
Fits (DumpEnd a) = FitsDumpEnd a

-- the block of a frame
abbrev pub spelling : Frame → List ℕ
spelling (Label a) = block_of 1 1 (label_bytes a)
spelling (DumpHead a) = dump_head_block a
spelling (VolHead a) = block_of 1 3 (vol_head_bytes a)
spelling (Data a) = block_of 1 4 (data_bytes a)
spelling (VolEnd a) = block_of 1 5 (vol_end_bytes a)
spelling (DumpEnd a) = block_of 1 6 (dump_end_bytes a)

-- these bytes are the block of a frame
abbrev pub IsSpelled : List ℕ → Type 0
IsSpelled bytes = (f : Frame) × Fits f × (bytes ≡ spelling f)
