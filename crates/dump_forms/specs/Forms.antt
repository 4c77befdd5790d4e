-- The forms of what a dump has between two events, and of what stands around it: each number fits its bytes, and each text is one of its kind.
use Rattle.std.specs.Prelude.{◌≡◌, ℕ, ◌+◌, ◌<◌, ◌≤◌, Some, IfSome, List, length, map, slice_get, All}
use Rattle.byte_formats.specs.Forms.{IsFour}
use Rattle.dump_stream.specs.Forms.{IsBytes}
use Rattle.cell_core.specs.Forms.{IsStoredForm}
use Rattle.tape_frames.specs.Layouts.{FitsLabel, FitsDumpHead, FitsVolHead}
use Rattle.budb_changes.specs.Forms.{IsTapePart, IsFrag, IsVolRecord, IsDumpRecord, AreChanges}
use Rattle.tape_scan.specs.Slots.{Slot}
use Rattle.tape_choice.specs.Reads.{label_in}
use Rattle.dump_job.specs.declared.fields.Hand.{Hand}
use Rattle.dump_job.specs.declared.fields.JobFields.{JobFields}
use Rattle.dump_job.specs.Ending.{place_of_part}
use Rattle.dump_job.specs.Jobs.{IsJob}
use Rattle.dump_job.specs.Events.{Around, Event}

-- ---- what stands around a dump

-- where a tape has a label its fields fit
abbrev pub LabelsFit : List Slot → Type 0
LabelsFit slots = (k : ℕ) (s : Slot) → slice_get slots k ≡ Some s → IfSome (label_in s.items) FitsLabel

-- The labels on the tapes fit, and the cell's good images are volumes as their types allow them.
pub record AroundHasForms (a : Around) : Type 0 where
  pub labels : LabelsFit a.slots
  pub cell : All IsStoredForm a.cell

-- ---- a dump

-- The volume in hand: its head, where its fragments begin, and what is left of its stream. A stream has fewer than 2^30 bytes, so that four bytes
-- count those that stand in a fragment.
pub record IsHandForm (h : Hand) : Type 0 where
  pub head : FitsVolHead h.head
  pub each : All IsFrag h.frags
  pub at : IsFour h.at
  pub bytes : IsBytes h.stream
  pub few : length h.stream + h.bytes < 1073741824

-- The tapes of a port take at most 4,000,000,000 bytes, by which all counts of records fit four bytes.
pub record HasForms (j : JobFields) : Type 0 where
  pub job : IsJob j
  pub capacity : j.port.capacity ≤ 4000000000
  pub time : IsFour j.time
  pub parent : IfSome j.parent IsDumpRecord
  pub head : FitsDumpHead j.head
  pub label : IfSome j.label FitsLabel
  pub first : IsFour j.first
  pub filled : All IsTapePart (map place_of_part j.filled)
  pub hand : IfSome j.hand IsHandForm
  pub volumes : All IsVolRecord j.volumes

-- ---- an event

-- What it commits can be written, and behind it the dump has its forms again.
pub record EventHasForms (e : Event) : Type 0 where
  pub changes : AreChanges e.changes
  pub job : HasForms e.job
