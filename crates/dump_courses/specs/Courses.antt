-- THE COURSE OF A DUMP: its events, one after the other, until it is done or refused.
use Rattle.std.specs.Prelude.{ℕ, zero, suc, ◌+◌, ◌*◌, ◌-◌, List, [], ◌++◌, length, drop, Bool, true, false, if◌then◌else◌, Option, Some, None}
use Rattle.std.specs.List.{sum_by}
use Rattle.vnode_model.specs.declared.listed.VolEntry.{VolEntry}
use Rattle.vnode_model.specs.Increments.{selected}
use Rattle.dump_stream.specs.Written.{written}
use Rattle.cell_core.specs.declared.stored.Stored.{Stored}
use Rattle.cell_core.specs.declared.stored.Taken.{Taken}
use Rattle.cell_core.specs.Calls.{entry_at, clone_at}
use Rattle.plant_core.specs.Crashes.{State}
use Rattle.plant_core.specs.Effects.{Effect, come}
use Rattle.tape_answers.specs.Slots.{slots_of}
use Rattle.budb_changes.specs.declared.change.Change.{Change}
use Rattle.budb_changes.specs.declared.records.DumpRecordFields.{DumpRecordFields}
use Rattle.budb_changes.specs.Bytes.{encoded}
use Rattle.budb_fold.specs.Database.{after}
use Rattle.budb_fold.specs.Lookups.{from_of}
use Rattle.dump_job.specs.declared.answer.StepAnswer.{StepAnswer}
use Rattle.dump_job.specs.declared.answer.StepAnswer.TheVariants.{More, Done, Refused, PlantFailed, CellFailed, Memory}
use Rattle.dump_job.specs.declared.fields.Hand.{Hand}
use Rattle.dump_job.specs.declared.fields.JobFields.{JobFields}
use Rattle.dump_job.specs.declared.fields.Phase.{Phase}
use Rattle.dump_job.specs.declared.fields.Phase.TheVariants as phase
use Rattle.dump_job.specs.Cloning.{volumes_done}
use Rattle.dump_job.specs.Events.{Around, Event, event}
use Rattle.dump_courses.specs.Scenes.{Scene}

-- ---- a dump between two events

-- the changes of the journal, the plant's state, and what the dump has
pub record Point : Type 0 where
  pub log : List Change
  pub state : State
  pub job : JobFields

-- what stands around it; the cell and the slots stay
abbrev pub around : Scene → Point → Around
around s p = record {
  listed = (after p.log).listed;
  log_size = length (encoded p.log);
  slots = slots_of s.slots s.present p.state.tape;
  cell = s.cell;
}

-- the next event of a dump at a point
abbrev pub next_event : Scene → Point → Event
next_event s p = event (around s p) p.job

-- behind an event
abbrev pub behind : Point → Event → Point
behind p e = record { log = p.log ++ e.changes; state = come e.effects p.state; job = e.job }

-- ---- how much is left

-- the stream of a volume of the cell, by its entry and its clone
abbrev pub stream_of : Option DumpRecordFields → Option VolEntry → Option Taken → List ℕ
stream_of parent (Some e) (Some c) = written (selected c.volume (from_of parent e.name c.born) c.time)
stream_of parent (Some e) None = []
stream_of parent None taken = []

-- A volume takes no more events than its stream has bytes, and 10 beside them.
abbrev pub events_for : Option DumpRecordFields → List Stored → ℕ → ℕ → ℕ
events_for parent cell time place = 10 + length (stream_of parent (entry_at cell place) (clone_at cell place time))

-- the volumes that aren't cloned yet
abbrev pub places_left : JobFields → List ℕ
places_left j = drop (length (volumes_done j)) j.places

-- what is left of the stream in hand
abbrev pub bytes_left : Option Hand → ℕ
bytes_left None = 0
bytes_left (Some h) = length h.stream

-- what a phase takes beside bytes, volumes and parts
abbrev pub rank_of : Phase → ℕ
rank_of phase.Tape = 5
rank_of phase.Clone = 1
rank_of phase.Head = 4
rank_of phase.Piece = 3
rank_of phase.VolumeEnd = 2
rank_of phase.PartEnd = 2
rank_of phase.DumpEnd = 0
rank_of phase.Over = 0

-- No more events than these are left: each clones a volume, puts bytes of one, begins a further part (there are at most 65,535), or comes to
-- a phase that is closer to these.
unfoldable pub events_left : List Stored → JobFields → ℕ
events_left cell j = sum_by (events_for j.parent cell j.time) (places_left j) + bytes_left j.hand + 10 * (65534 - length j.filled) + rank_of j.phase

-- ---- the course

-- What is done from a point on: effects on the plant but for the loads of tapes, the changes of the journal behind it, and the last answer.
pub record Course : Type 0 where
  pub effects : List Effect
  pub log : List Change
  pub answer : StepAnswer

-- the dump isn't over with this answer
abbrev pub goes_on : StepAnswer → Bool
goes_on More = true
goes_on (Done id) = false
goes_on (Refused fault) = false
goes_on PlantFailed = false
goes_on CellFailed = false
goes_on Memory = false

-- an event is the last one, or the first one of a course
abbrev pub last_event : Point → Event → Course
last_event p e = record { effects = e.effects; log = p.log ++ e.changes; answer = e.answer }

-- an event in front of what comes after it
abbrev pub event_then : Event → Course → Course
event_then e c = record { effects = e.effects ++ c.effects; log = c.log; answer = c.answer }

-- an event alone where it is the last one, else the event and what comes after it
abbrev pub course_by : (Point → Course) → Point → Event → Course
course_by rest p e = if goes_on e.answer then event_then e (rest (behind p e)) else last_event p e

-- at most so many events, and one more
abbrev pub course_within : ℕ → Scene → Point → Course
course_within zero s p = last_event p (next_event s p)
course_within (suc n) s p = course_by (course_within n s) p (next_event s p)

-- all events
unfoldable pub course : Scene → Point → Course
course s p = course_within (events_left s.cell p.job) s p
