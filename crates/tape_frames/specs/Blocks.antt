-- The block of a frame: the letters AFST, the version, the kind and two zeros, the fields from byte 8 on, and zeros to the end.
use Rattle.std.specs.Prelude.{ℕ, ◌-◌, List, ◌∷◌, ◌++◌, length, replicate, ◌==◌, if◌then◌else◌}
use Rattle.tape_frames.specs.declared.dump_head.DumpHeadFields.{DumpHeadFields}
use Rattle.tape_frames.specs.Layouts.{plain_head_bytes, dump_head_bytes}

-- bytes, and then zeros up to so many
abbrev pub padded : ℕ → List ℕ → List ℕ
padded count bytes = bytes ++ replicate (count - length bytes) 0

-- the 16,384 bytes of a block: a head of eight bytes by version and kind, the fields, and zeros to the end
abbrev pub block_of : ℕ → ℕ → List ℕ → List ℕ
block_of version kind fields = padded 16384 (65 ∷ 70 ∷ 83 ∷ 84 ∷ version ∷ kind ∷ 0 ∷ 0 ∷ fields)

-- a dump's head has version 1 where it tells no uses, and version 2 where it does
abbrev pub dump_head_block : DumpHeadFields → List ℕ
dump_head_block a = if a.uses == 0 then block_of 1 2 (plain_head_bytes a) else block_of 2 2 (dump_head_bytes a)
