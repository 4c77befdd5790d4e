-- What a step of a dump does: one event, by the phase of the dump and by what stands around it.
use Rattle.std.specs.Prelude.{ℕ, Bool, true, false, if◌then◌else◌, Option, Some, None, List, [], ◌++◌, length, slice_get}
use Rattle.vnode_model.specs.declared.listed.VolEntry.{VolEntry}
use Rattle.cell_core.specs.declared.stored.Stored.{Stored}
use Rattle.cell_core.specs.declared.stored.Taken.{Taken}
use Rattle.cell_core.specs.Calls.{entry_at, clone_at}
use Rattle.plant_core.specs.Effects.{Effect}
use Rattle.tape_text.specs.Items.{Item}
use Rattle.tape_scan.specs.Slots.{Slot}
use Rattle.tape_writer.specs.Puts.{puts_on}
use Rattle.tape_choice.specs.declared.choosing.Chosen.{Chosen}
use Rattle.budb_changes.specs.declared.change.Change.{Change}
use Rattle.budb_changes.specs.declared.records.DumpRecordFields.{DumpRecordFields}
use Rattle.dump_job.specs.declared.answer.StepAnswer.{StepAnswer}
use Rattle.dump_job.specs.declared.answer.StepAnswer.TheVariants as answers
use Rattle.dump_job.specs.declared.fault.JobFault.TheVariants.{NoTape, LogFull}
use Rattle.dump_job.specs.declared.fields.Hand.{Hand}
use Rattle.dump_job.specs.declared.fields.JobFields.{JobFields}
use Rattle.dump_job.specs.declared.fields.Phase.{Phase}
use Rattle.dump_job.specs.declared.fields.Phase.TheVariants as phase
use Rattle.dump_job.specs.Reels.{counts_on, has_room}
use Rattle.dump_job.specs.Taping.{uses_for, tape_effects, taped}
use Rattle.dump_job.specs.Cloning.{volumes_done, cloned}
use Rattle.dump_job.specs.Volumes.{head_items, headed, piece_items, pieced, end_items, volume_ended, volume_cut}
use Rattle.dump_job.specs.Ending.{part_end_items}
use Rattle.dump_job.specs.Passing.{next_choice, next_changes, next_name, part_passed, part_refused}
use Rattle.dump_job.specs.Closing.{committing, length_with, is_too_long, made_of, done_changes, dump_ended}

-- ---- what stands around a dump, and what a step does

-- What stands around a dump between two of its steps: the dumps that are listed, the length of the log, the slots of the plant with what
-- the records of their tapes say, and the volumes of the cell.
pub record Around : Type 0 where
  pub listed : List DumpRecordFields
  pub log_size : ℕ
  pub slots : List Slot
  pub cell : List Stored

-- What a step does: its effects on the plant, but for the load of a tape that isn't loaded; the changes that it commits, which are the
-- last of these effects; the dump after it; and what it answers.
pub record Event : Type 0 where
  pub effects : List Effect
  pub changes : List Change
  pub job : JobFields
  pub answer : StepAnswer

-- nothing is due, and nothing is done
abbrev pub idle : StepAnswer → JobFields → Event
idle a j = record { effects = []; changes = []; job = j; answer = a }

-- these items are put on the tape in hand
abbrev pub putting : List Item → JobFields → JobFields → Event
putting items j next = record { effects = puts_on j.reel.slot items; changes = []; job = next; answer = answers.More }

-- ---- tape

-- what the records on a tape say; nothing where there is no such slot
abbrev pub items_of : Option Slot → List Item
items_of None = []
items_of (Some s) = s.items

-- what the records on the tape of a slot say
abbrev pub items_at : List Slot → ℕ → List Item
items_at slots k = items_of (slice_get slots k)

-- The chosen tape is cut, and the part is begun on it, with one use more than its old head tells where the tape is taken.
abbrev pub tape_event : ℕ → JobFields → Event
tape_event uses j = record { effects = tape_effects uses j; changes = []; job = taped uses j; answer = answers.More }

-- ---- clone

-- the volume at a place of the cell's list is cloned; where there is no good one nothing is done
abbrev pub clone_by : Option VolEntry → Option Taken → JobFields → Event
clone_by (Some e) (Some c) j = record { effects = []; changes = []; job = cloned e c j; answer = answers.More }
clone_by (Some e) None j = idle answers.CellFailed j
clone_by None taken j = idle answers.CellFailed j

-- the next volume is cloned, at its place in the cell's list; where no place is left the cell failed
abbrev pub clone_from : List Stored → Option ℕ → JobFields → Event
clone_from cell None j = idle answers.CellFailed j
clone_from cell (Some place) j = clone_by (entry_at cell place) (clone_at cell place j.time) j

-- the next volume, in the order of the job's places
abbrev pub clone_event : List Stored → JobFields → Event
clone_event cell j = clone_from cell (slice_get j.places (length (volumes_done j))) j

-- ---- the end of a part and of the dump

-- The end of the part is put, and then these changes are committed. Where the log would be too long they aren't: the part stands ended,
-- and the dump is refused.
abbrev pub closing : List Item → List Change → ℕ → JobFields → JobFields → StepAnswer → JobFields → Event
closing items changes size j next told refused = record {
  effects = puts_on j.reel.slot items ++ committing (made_of size changes);
  changes = made_of size changes;
  job = if is_too_long size changes then refused else next;
  answer = if is_too_long size changes then answers.Refused (LogFull (length_with size changes)) else told;
}

-- The part is ended. Where a tape was chosen, the dump set of its old label is forgotten, and the dump goes on there; else it is refused.
abbrev pub part_end_by : Bool → Option Chosen → ℕ → JobFields → Event
part_end_by cut None size j = record {
  effects = puts_on j.reel.slot (part_end_items 1 j);
  changes = [];
  job = part_refused j;
  answer = answers.Refused (NoTape (next_name j));
}
part_end_by cut (Some c) size j = closing (part_end_items 1 j) (next_changes (Some c)) size j (part_passed cut c j) answers.More (part_refused j)

-- `cut` tells whether a fragment of the volume in hand was put on the tape in hand
abbrev pub part_end_event : Bool → Around → JobFields → Event
part_end_event cut a j = part_end_by cut (next_choice a.listed a.slots j) a.log_size j

-- the last part is ended, and the dump's record is committed, by which it is listed
abbrev pub dump_end_event : ℕ → JobFields → Event
dump_end_event size j = closing (part_end_items 0 j) (done_changes j) size j (dump_ended j) (answers.Done j.head.id) (dump_ended j)

-- ---- the volume in hand

-- The head of a fragment is put where there is room for it and for what must follow it: a piece, the volume's end with its filemark, and
-- the part's end with its filemark. Else the tape is full, and the part is ended.
abbrev pub head_event : Around → Hand → JobFields → Event
head_event a h j = if has_room 4 2 (counts_on j.port j.reel) then putting (head_items h) j (headed h j) else part_end_event false a j

-- A piece is put where there is room for it and for both ends. Else the tape is full, and the fragment is ended, though its volume isn't.
abbrev pub piece_event : Hand → JobFields → Event
piece_event h j = if has_room 3 2 (counts_on j.port j.reel) then putting (piece_items h) j (pieced h j) else putting (end_items 0 h) j (volume_cut j)

-- a step of the volume in hand; there is one behind the first clone
abbrev pub hand_event : (Hand → Event) → Option Hand → JobFields → Event
hand_event step None j = idle answers.Memory j
hand_event step (Some h) j = step h

-- ---- the step of a phase

-- THE TABLE OF EVENTS: what the next step does, by the phase of the dump.
abbrev pub event_by : Phase → Around → JobFields → Event
event_by phase.Tape a j = tape_event (uses_for j (items_at a.slots j.reel.slot)) j
event_by phase.Clone a j = clone_event a.cell j
event_by phase.Head a j = hand_event (λ h. head_event a h j) j.hand j
event_by phase.Piece a j = hand_event (λ h. piece_event h j) j.hand j
event_by phase.VolumeEnd a j = hand_event (λ h. putting (end_items 1 h) j (volume_ended h j)) j.hand j
event_by phase.PartEnd a j = part_end_event true a j
event_by phase.DumpEnd a j = dump_end_event a.log_size j
event_by phase.Over a j = idle answers.Memory j

-- What the next step of a dump does. Behind the last one nothing is done.
abbrev pub event : Around → JobFields → Event
event a j = event_by j.phase a j
