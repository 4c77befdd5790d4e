-- What a tape of a port takes, and how much of it is taken.
use Rattle.std.specs.Prelude.{ℕ, ◌+◌, ◌*◌, ◌<◌, ◌≤◌, Option, Some, None}
use Rattle.tape_config.specs.declared.port.PortFields.{PortFields}
use Rattle.tape_frames.specs.declared.label.LabelFields.{LabelFields}

-- what blocks and filemarks take of a tape, in bytes
abbrev pub taken_by : PortFields → ℕ → ℕ → ℕ
taken_by port blocks marks = blocks * 16384 + marks * port.filemark

-- so many blocks and filemarks stand on a tape of a port
pub record Counts : Type 0 where
  pub port : PortFields
  pub blocks : ℕ
  pub marks : ℕ

-- with so many blocks and filemarks more
abbrev pub more : ℕ → ℕ → Counts → Counts
more blocks marks c = record { port = c.port; blocks = c.blocks + blocks; marks = c.marks + marks }

-- A tape stays within its capacity with so many blocks and filemarks more, and it doesn't.
abbrev pub HasRoom : ℕ → ℕ → Counts → Type 0
HasRoom blocks marks c = taken_by c.port (c.blocks + blocks) (c.marks + marks) ≤ c.port.capacity

-- with so many blocks and filemarks more the tape has more bytes than the port's capacity
abbrev pub LacksRoom : ℕ → ℕ → Counts → Type 0
LacksRoom blocks marks c = c.port.capacity < taken_by c.port (c.blocks + blocks) (c.marks + marks)

-- a label is a block with a filemark behind it
abbrev pub with_label : Option LabelFields → Counts → Counts
with_label None c = c
with_label (Some label) c = more 1 1 c
