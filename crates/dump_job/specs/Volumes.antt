-- The volume in hand, and what its steps put.
use Rattle.std.specs.Prelude.{ℕ, ◌+◌, ◌-◌, ◌==◌, if◌then◌else◌, min, Some, List, [], ◌∷◌, ◌++◌, length, take, drop, replicate, nat_lt}
use Rattle.tape_frames.specs.declared.frame.Frame.TheVariants as frames
use Rattle.tape_frames.specs.declared.data.DataFields.{DataFields}
use Rattle.tape_frames.specs.declared.vol_end.VolEndFields.{VolEndFields}
use Rattle.tape_text.specs.Items.{Item, Says, Filemark}
use Rattle.dump_job.specs.declared.fields.Hand.{Hand}
use Rattle.dump_job.specs.declared.fields.JobFields.{JobFields}
use Rattle.dump_job.specs.declared.fields.Phase.{Phase}
use Rattle.dump_job.specs.declared.fields.Phase.TheVariants as phase
use Rattle.dump_job.specs.Reels.{records_on, with_more}

-- what follows where this is left of a stream: another piece, or the volume's end
abbrev pub phase_behind : List ℕ → Phase
phase_behind left = if length left == 0 then phase.VolumeEnd else phase.Piece

-- ---- head

-- the head of a fragment, as it is put
abbrev pub head_items : Hand → List Item
head_items h = Says (frames.VolHead h.head) ∷ []

-- a fragment is begun at a record
abbrev pub begun_at : ℕ → Hand → Hand
begun_at at h = record h { at = at; bytes = 0 }

-- the dump after the head of a fragment: one block more is on the tape, and the volume's stream is next
abbrev pub headed : Hand → JobFields → JobFields
headed h j = record j { reel = with_more 1 0 j.reel; hand = Some (begun_at (records_on j.reel) h); phase = phase_behind h.stream }

-- ---- piece

-- how many bytes the next piece has: 16,352, or as many as are left
abbrev pub next_used : Hand → ℕ
next_used h = min 16352 (length h.stream)

-- the next piece, with zeros behind its bytes
abbrev pub next_piece : Hand → DataFields
next_piece h = record {
  dump = h.head.dump;
  index = h.head.index;
  used = next_used h;
  bytes = take (next_used h) h.stream ++ replicate (16352 - next_used h) 0;
}

-- the next piece of the stream, as it is put
abbrev pub piece_items : Hand → List Item
piece_items h = Says (frames.Data (next_piece h)) ∷ []

-- the volume in hand without that piece, which counts among the fragment's bytes
abbrev pub without_piece : Hand → Hand
without_piece h = record h { stream = drop (next_used h) h.stream; bytes = h.bytes + next_used h }

-- the dump after a piece: one block more is on the tape, and another piece or the volume's end is next
abbrev pub pieced : Hand → JobFields → JobFields
pieced h j = record j { reel = with_more 1 0 j.reel; hand = Some (without_piece h); phase = phase_behind (without_piece h).stream }

-- ---- volume end

-- the end of the fragment in hand; `last` is 1 where its volume ends with it
abbrev pub fragment_end : ℕ → Hand → VolEndFields
fragment_end last h = record { dump = h.head.dump; index = h.head.index; fragment = h.head.fragment; last = last; bytes = h.bytes }

-- that end and a filemark, as they are put
abbrev pub end_items : ℕ → Hand → List Item
end_items last h = Says (frames.VolEnd (fragment_end last h)) ∷ Filemark ∷ []

-- behind the last volume the dump is ended
abbrev pub volume_ended : Hand → JobFields → JobFields
volume_ended h j = record j { reel = with_more 1 1 j.reel; phase = if nat_lt (h.head.index + 1) (length j.places) then phase.Clone else phase.DumpEnd }

-- the tape is full: the fragment ends here, and the part too
abbrev pub volume_cut : JobFields → JobFields
volume_cut j = record j { reel = with_more 1 1 j.reel; phase = phase.PartEnd }
