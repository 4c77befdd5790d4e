-- How much is left of a dump. Each step behind which it goes on makes it less, so that a dump comes to its end.
use Rattle.std.specs.Prelude.{ℕ, ◌+◌, ◌-◌, ◌*◌, Option, Some, None, length}
use Rattle.dump_job.specs.declared.fields.Hand.{Hand}
use Rattle.dump_job.specs.declared.fields.JobFields.{JobFields}
use Rattle.dump_job.specs.declared.fields.Phase.{Phase}
use Rattle.dump_job.specs.declared.fields.Phase.TheVariants as phase
use Rattle.dump_job.specs.Cloning.{volumes_done}

-- Of steps that put no piece, clone no volume and end no part the later one has the lower number.
abbrev pub rank : Phase → ℕ
rank phase.Tape = 5
rank phase.Head = 4
rank phase.Piece = 3
rank phase.VolumeEnd = 2
rank phase.Clone = 1
rank phase.PartEnd = 1
rank phase.DumpEnd = 1
rank phase.Over = 0

-- the bytes that weren't put of the volume in hand
abbrev pub bytes_left : Option Hand → ℕ
bytes_left None = 0
bytes_left (Some h) = length h.stream

-- the volumes that weren't cloned
abbrev pub volumes_left : JobFields → ℕ
volumes_left j = length j.places - length (volumes_done j)

-- the parts that may still be ended before the last one
abbrev pub parts_left : JobFields → ℕ
parts_left j = 65534 - length j.filled

-- Volumes count first, then bytes, of which a stream has fewer than 2^30, then parts, then the kind of the next step.
abbrev pub weighed : ℕ → ℕ → ℕ → ℕ → ℕ
weighed volumes bytes parts kind = ((volumes * 1073741824 + bytes) * 65536 + parts) * 8 + kind

-- how much is left of a dump, as one number
abbrev pub left_of : JobFields → ℕ
left_of j = weighed (volumes_left j) (bytes_left j.hand) (parts_left j) (rank j.phase)
