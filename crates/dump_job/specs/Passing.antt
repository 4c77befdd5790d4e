-- The part end: the dump goes on on the next tape, where a slot has one that passes.
use Rattle.std.specs.Prelude.{◌≡◌, ℕ, ◌+◌, ◌≤◌, Bool, true, false, ◌&&◌, nat_lt, if◌then◌else◌, Option, Some, None, Result, Ok, Err, List, [], ◌∷◌, ◌++◌, length, map, IsSome, IfSome, IsTrue}
use Rattle.plant_core.specs.declared.plant.Plant.{Ghosts as Plant}
use Rattle.tape_frames.specs.declared.label.LabelFields.{LabelFields}
use Rattle.tape_frames.specs.declared.dump_head.DumpHeadFields.{DumpHeadFields}
use Rattle.tape_frames.specs.TapeNames.{numbered}
use Rattle.tape_scan.specs.Slots.{Slot}
use Rattle.budb_changes.specs.declared.change.Change.{Change}
use Rattle.budb_changes.specs.declared.records.DumpRecordFields.{DumpRecordFields}
use Rattle.budb_changes.specs.declared.records.Frag.{Frag}
use Rattle.budb.specs.declared.fault.CommitFault.{CommitFault}
use Rattle.budb.specs.declared.fault.CommitFault.TheVariants as commit
use Rattle.budb.specs.Views.{BudbView}
use Rattle.tape_choice.specs.declared.wanting.Wanting.{Wanting}
use Rattle.tape_choice.specs.declared.choosing.Chosen.{Chosen}
use Rattle.tape_scan.specs.Looking.{HasSlots}
use Rattle.tape_choice.specs.Choice.{is_used, chosen, choice_of, takes, initials_above, permanent_in}
use Rattle.dump_job.specs.declared.fields.Filled.{Filled}
use Rattle.dump_job.specs.declared.fields.Hand.{Hand}
use Rattle.dump_job.specs.declared.fields.JobFields.{JobFields}
use Rattle.dump_job.specs.declared.fields.Phase.TheVariants as phase
use Rattle.dump_job.specs.declared.fault.JobFault.{JobFault}
use Rattle.dump_job.specs.declared.fault.JobFault.TheVariants.{NothingToAppend, NoTape, CapacityTooSmall, IdsSpent, LogFull, Failed, Memory}
use Rattle.dump_job.specs.Reels.{with_more}
use Rattle.dump_job.specs.Ending.{closed_part, part_end_items}
use Rattle.dump_job.specs.Closing.{Closes, Makes}

-- ---- the choice of the next tape

-- the name that it is wanted under, also where its number is one more than tapes have
abbrev pub next_name : JobFields → List ℕ
next_name j = numbered j.head.base (j.head.tape + 1)

-- the slot of an ended part
abbrev pub slot_of : Filled → ℕ
slot_of f = f.slot

-- the slots that this dump has taken, that in hand as the last
abbrev pub slots_taken : JobFields → List ℕ
slots_taken j = map slot_of j.filled ++ j.reel.slot ∷ []

-- Names are checked where the port checks them, expirations are compared with the time of the command, and no tape is taken of this
-- dump set, of the dump sets in which the chain of its parents lies, and of the slots that are taken already.
abbrev pub next_wanting : List DumpRecordFields → JobFields → Wanting
next_wanting listed j = record {
  name = next_name j;
  checked = j.port.name_check;
  time = j.time;
  initial = j.head.initial;
  parents = initials_above listed j.head.parent;
  used = slots_taken j;
}

-- No tape has a number above 4,294,967,295, and no dump has more than 65,535 parts.
abbrev pub may_go_on : JobFields → Bool
may_go_on j = nat_lt (length j.filled) 65534 && nat_lt j.head.tape 4294967295

-- the tape on which the dump goes on, by the choice of tapes
abbrev pub next_choice : List DumpRecordFields → List Slot → JobFields → Option Chosen
next_choice listed slots j = if may_go_on j then choice_of listed (chosen listed (next_wanting listed j) j.port slots) else None

-- the dump set of its old label is forgotten, where some dump of it is listed
abbrev pub next_changes : Option Chosen → List Change
next_changes None = []
next_changes (Some c) = takes c.take

-- ---- what goes on

-- the new label of the next tape, which keeps the permanent name of the old one
abbrev pub label_by : Option LabelFields → JobFields → LabelFields
label_by old j = record { initial = j.head.initial; tape = j.head.tape + 1; afs = next_name j; permanent = permanent_in old }

-- The head of the next part. Its uses are told by what stands on the tape when it is begun, and are 1 before.
abbrev pub head_by : Option LabelFields → JobFields → DumpHeadFields
head_by old j = record j.head { tape = j.head.tape + 1; part = j.head.part + 1; uses = 1; permanent = permanent_in old }

-- the part in hand among those that are ended
abbrev pub with_filled : JobFields → List Filled
with_filled j = j.filled ++ record { slot = j.reel.slot; part = closed_part j } ∷ []

-- where its fragments begin then
abbrev pub frags_with : ℕ → Hand → List Frag
frags_with tape h = h.frags ++ record { tape = tape; at = h.at } ∷ []

-- where its fragments begin, if one was put on this tape
abbrev pub next_frags : Bool → ℕ → Option Hand → Option (List Frag)
next_frags cut tape None = None
next_frags cut tape (Some h) = if cut then Some (frags_with tape h) else None

-- Behind a fragment that was put on this tape the next one has the next number.
abbrev pub hand_with : Option (List Frag) → Option Hand → Option Hand
hand_with frags None = None
hand_with None (Some h) = Some h
hand_with (Some frags) (Some h) = Some (record h { head = record h.head { fragment = h.head.fragment + 1 }; frags = frags })

-- the volume in hand on the next tape: a fragment of it was put on this one where it was cut
abbrev pub next_hand : Bool → ℕ → Option Hand → Option Hand
next_hand cut tape hand = hand_with (next_frags cut tape hand) hand

-- The part is ended, and the next one is begun on a tape that is taken.
abbrev pub part_passed : Bool → Chosen → JobFields → JobFields
part_passed cut c j = record j {
  head = head_by c.label j;
  spare = Some (head_by c.label j);
  label = Some (label_by c.label j);
  reel = record { slot = c.slot; blocks = 0; marks = 0 };
  filled = with_filled j;
  hand = next_hand cut j.head.tape j.hand;
  phase = phase.Tape;
}

-- The part is ended, and the dump doesn't go on.
abbrev pub part_refused : JobFields → JobFields
part_refused j = record j { reel = with_more 1 1 j.reel; phase = phase.Over }

-- ---- what a part end answers: no fault but these is told

-- Without a next tape the part is ended all the same, and nothing is committed.
abbrev pub closing_of : Result Bool JobFault → Result Bool CommitFault
closing_of (Ok there) = Ok there
closing_of (Err (NoTape name)) = Ok true
closing_of (Err (LogFull n)) = Err (commit.LogFull n)
closing_of (Err Failed) = Err commit.Failed
closing_of (Err Memory) = Err commit.Memory
closing_of (Err NothingToAppend) = Err commit.Failed
closing_of (Err CapacityTooSmall) = Err commit.Failed
closing_of (Err IdsSpent) = Err commit.Failed

-- it goes on where a tape was chosen, and there is none under this name where none was
abbrev pub GoesBy : List ℕ → Option Chosen → Result Bool JobFault → Type 0
GoesBy name choice (Ok true) = IsSome choice
GoesBy name choice (Ok false) = Unit {0}
GoesBy name choice (Err (NoTape told)) = (choice ≡ None) × (told ≡ name)
GoesBy name choice (Err (LogFull n)) = IsSome choice
GoesBy name choice (Err Failed) = Unit {0}
GoesBy name choice (Err Memory) = Unit {0}
GoesBy name choice (Err NothingToAppend) = ⊥
GoesBy name choice (Err CapacityTooSmall) = ⊥
GoesBy name choice (Err IdsSpent) = ⊥

-- What the job has then: the next part where a tape was chosen and the part was ended; else the ended one. Where memory was refused, or
-- the tape hasn't the records that it should, it has what it had.
abbrev pub IsPassed : Bool → Option Chosen → Result Bool JobFault → JobFields → JobFields → Type 0
IsPassed cut choice (Ok true) old new = (c : Chosen) → choice ≡ Some c → new ≡ part_passed cut c old
IsPassed cut choice (Ok false) old new = new ≡ old
IsPassed cut choice (Err (NoTape name)) old new = new ≡ part_refused old
IsPassed cut choice (Err (LogFull n)) old new = new ≡ part_refused old
IsPassed cut choice (Err Failed) old new = Unit {0}
IsPassed cut choice (Err Memory) old new = new ≡ old
IsPassed cut choice (Err NothingToAppend) old new = ⊥
IsPassed cut choice (Err CapacityTooSmall) old new = ⊥
IsPassed cut choice (Err IdsSpent) old new = ⊥

-- A tape was chosen or none, which is said of the choice of tapes unless it was cut off.
abbrev pub UnlessCutOff : Result Bool JobFault → Type 0 → Type 0
UnlessCutOff (Ok there) holds = holds
UnlessCutOff (Err (NoTape name)) holds = holds
UnlessCutOff (Err (LogFull n)) holds = holds
UnlessCutOff (Err Failed) holds = Unit {0}
UnlessCutOff (Err Memory) holds = Unit {0}
UnlessCutOff (Err NothingToAppend) holds = Unit {0}
UnlessCutOff (Err CapacityTooSmall) holds = Unit {0}
UnlessCutOff (Err IdsSpent) holds = Unit {0}

-- What a part end did. The next tape, by the choice of tapes, is of a slot of the port that is here and isn't taken.
pub record PartEnds {D : Type 0} (P : Plant D) (cut : Bool) (result : Result Bool JobFault) (budb budb_after : BudbView) (old new : D) (job job_after : JobFields) : Type 0 where
  pub choice : Option Chosen
  pub right : UnlessCutOff result (P.tells → (slots : List Slot) → HasSlots P slots old → next_choice budb.database.listed slots job ≡ choice)
  pub parts : IfSome choice (λ c. length job.filled + 1 ≤ 65534)
  pub here : IfSome choice (λ c. IsTrue ((P.view old).present c.slot))
  pub first : IfSome choice (λ c. job.port.first ≤ c.slot)
  pub last : IfSome choice (λ c. c.slot ≤ job.port.last)
  pub unused : IfSome choice (λ c. is_used (next_wanting budb.database.listed job) c.slot ≡ false)
  pub goes : GoesBy (next_name job) choice result
  pub moved : IsPassed cut choice result job job_after
  pub plant : Closes P job.reel.slot (part_end_items 1 job) (next_changes choice) (closing_of result) old new
  pub database : Makes P (next_changes choice) (closing_of result) budb budb_after old new
