-- What a step of a dump asks, and how it keeps the archive.
use Rattle.std.specs.Prelude.{◌≡◌, ◌⊎◌, ◌<◌, ◌≤◌, ℕ, true, Option, Some, None, IfSome, Result, List, [], ◌∷◌, ◌++◌, length, map, take, slice_get, All, Contains}
use Rattle.vnode_model.specs.declared.volumes.VolumeFields.{VolumeFields}
use Rattle.vnode_model.specs.declared.listed.VolEntry.{VolEntry}
use Rattle.vnode_model.specs.Increments.{selected}
use Rattle.dump_stream.specs.Allowed.{Allowed}
use Rattle.byte_formats.specs.Forms.{IsFour}
use Rattle.tape_frames.specs.Layouts.{FitsLabel, FitsDumpHead, FitsVolHead}
use Rattle.cell_core.specs.declared.stored.Stored.{Stored}
use Rattle.cell_core.specs.declared.stored.Taken.{Taken}
use Rattle.cell_core.specs.Calls.{entry_at, clone_at}
use Rattle.cell_core.specs.Cells.{IsCell}
use Rattle.cell_core.specs.Fairness.{Fair}
use Rattle.budb_changes.specs.declared.change.Change.{Change}
use Rattle.budb_changes.specs.declared.records.TapePart.{TapePart}
use Rattle.budb_changes.specs.declared.records.DumpRecordFields.{DumpRecordFields}
use Rattle.budb_fold.specs.Lookups.{volume_of}
use Rattle.budb_changes.specs.declared.records.VolRecordFields.{VolRecordFields}
use Rattle.budb_changes.specs.Forms.{AreChanges}
use Rattle.plant_core.specs.Crashes.{State}
use Rattle.plant_core.specs.Effects.{Effect, come}
use Rattle.plant_core.specs.Stock.{Stock}
use Rattle.tape_text.specs.Items.{Item}
use Rattle.tape_text.specs.Texts.{IsBefore}
use Rattle.tape_scan.specs.Slots.{Slot}
use Rattle.tape_writer.specs.Room.{HasRoom, with_label}
use Rattle.archive_model.specs.Holding.{place_of, holds, HasNoHead}
use Rattle.archive_model.specs.Archives.{Archive, Refusal, listed_of, IsHeld, Holds}
use Rattle.archive_model.specs.Settled.{Kept, AreHeld}
use Rattle.saved_archives.specs.Since.{AreSince, OtherThan}
use Rattle.archive_model.specs.Sources.{dumped_by}
use Rattle.archive_model.specs.Turns.{GivesNext, is_here, StillHeld, remaining}
use Rattle.dump_job.specs.declared.fields.Hand.{Hand}
use Rattle.dump_job.specs.declared.fields.JobFields.{JobFields}
use Rattle.dump_job.specs.declared.fields.Phase.{Phase}
use Rattle.dump_job.specs.declared.fields.Phase.TheVariants as phase
use Rattle.dump_job.specs.Reels.{counts_on}
use Rattle.dump_job.specs.Cloning.{volumes_done, from_time}
use Rattle.dump_job.specs.Ending.{done_record}
use Rattle.dump_job.specs.Events.{Around, event}
use Rattle.dump_laws.specs.Made.{Made}
use Rattle.dump_laws.specs.Running.{basis_of, RunsIn}
use Rattle.dump_laws.specs.Growing.{with_dump}

-- ---- the forms of a dump's fields, which their types give

-- the volume in hand has bytes, and its counts and its head fit
pub record IsFormedHand (h : Hand) : Type 0 where
  pub head : FitsVolHead h.head
  pub bytes : All (λ b. b < 256) h.stream
  pub count : IsFour h.bytes

-- the dump's fields fit: its head, its label and the volume in hand
pub record IsFormed (j : JobFields) : Type 0 where
  pub head : FitsDumpHead j.head
  pub label : IfSome j.label FitsLabel
  pub hand : IfSome j.hand IsFormedHand

-- ---- what a step asks

-- The tape has room for the part's head and the smallest part behind it.
abbrev pub HasRoomBefore : JobFields → Type 0
HasRoomBefore j = HasRoom 5 2 (with_label j.label (counts_on j.port j.reel))

-- The next volume is a good one of a cell that is fair to dumps that are known, the dump's parent among them, be they dumps of the archive
-- still or not; and its name is behind that of the volume in hand.
pub record CloneIsFair (a : Archive) (known : List DumpRecordFields) (around : Around) (j : JobFields) : Type 0 where
  pub place : ℕ
  pub entry : VolEntry
  pub clone : Taken
  pub at : slice_get j.places (length (volumes_done j)) ≡ Some place
  pub listed : entry_at around.cell place ≡ Some entry
  pub taken : clone_at around.cell place j.time ≡ Some clone
  pub after : IfSome j.hand (λ h. IsBefore h.head.name entry.name)
  pub cell : IsCell around.cell
  pub fair : Fair around.cell (dumped_by a.contents known) j.time
  pub parent : (p : DumpRecordFields) → j.parent ≡ Some p → Contains known p
  pub allowed : Allowed (selected clone.volume (from_time j entry clone) clone.time)

-- what a step asks of what stands around the dump, by the phase
abbrev pub Asks : Archive → List DumpRecordFields → Around → JobFields → Phase → Type 0
Asks a known around j phase.Tape = HasRoomBefore j
Asks a known around j phase.Clone = CloneIsFair a known around j
Asks a known around j phase.Head = Unit {0}
Asks a known around j phase.Piece = Unit {0}
Asks a known around j phase.VolumeEnd = Unit {0}
Asks a known around j phase.PartEnd = Unit {0}
Asks a known around j phase.DumpEnd = Unit {0}
Asks a known around j phase.Over = Unit {0}

-- What stands around a dump is what its archive has; its fields and what it commits have their forms; and the step has what it asks.
pub record MayStep (a : Archive) (known : List DumpRecordFields) (around : Around) (j : JobFields) : Type 0 where
  pub listed : around.listed ≡ listed_of a
  pub slots : around.slots ≡ a.slots
  pub form : IsFormed j
  pub changes : AreChanges (event around j).changes
  pub asks : Asks a known around j j.phase

-- ---- what a step makes

-- The contents stay; at a dump's end those of the dump join them.
abbrev pub contents_behind : Archive → JobFields → Made → Phase → ℕ → List ℕ → Result VolumeFields Refusal
contents_behind a j m phase.Tape = a.contents
contents_behind a j m phase.Clone = a.contents
contents_behind a j m phase.Head = a.contents
contents_behind a j m phase.Piece = a.contents
contents_behind a j m phase.VolumeEnd = a.contents
contents_behind a j m phase.PartEnd = a.contents
contents_behind a j m phase.DumpEnd = with_dump a.contents (basis_of j) m.clones
contents_behind a j m phase.Over = a.contents

-- one more, where there is one
abbrev pub one_more : List Taken → Option Taken → List Taken
one_more clones None = clones
one_more clones (Some c) = clones ++ c ∷ []

-- the clone of the volume at a place, where there is one
abbrev pub clone_for : List Stored → ℕ → Option ℕ → Option Taken
clone_for cell now None = None
clone_for cell now (Some place) = clone_at cell place now

-- The clones stay; at a clone step that of the next place joins them.
abbrev pub clones_behind : Around → JobFields → Made → Phase → List Taken
clones_behind around j m phase.Tape = m.clones
clones_behind around j m phase.Clone = one_more m.clones (clone_for around.cell j.time (slice_get j.places (length (volumes_done j))))
clones_behind around j m phase.Head = m.clones
clones_behind around j m phase.Piece = m.clones
clones_behind around j m phase.VolumeEnd = m.clones
clones_behind around j m phase.PartEnd = m.clones
clones_behind around j m phase.DumpEnd = m.clones
clones_behind around j m phase.Over = m.clones

-- The dumps stay; at a dump's end it joins them.
abbrev pub dumps_behind : List DumpRecordFields → JobFields → Phase → List DumpRecordFields
dumps_behind records j phase.Tape = records
dumps_behind records j phase.Clone = records
dumps_behind records j phase.Head = records
dumps_behind records j phase.Piece = records
dumps_behind records j phase.VolumeEnd = records
dumps_behind records j phase.PartEnd = records
dumps_behind records j phase.DumpEnd = records ++ done_record j ∷ []
dumps_behind records j phase.Over = records

-- What stands on a tape now: a front of what stood there, with all that was held there of listed dumps, and behind it no head of another
-- dump than this one.
pub record HasPut (id : ℕ) (listed : List DumpRecordFields) (old new : List Item) : Type 0 where
  pub front : ℕ
  pub more : List Item
  pub items : new ≡ take front old ++ more
  pub own : (other : ℕ) → (other ≡ id → ⊥) → HasNoHead other more
  pub behind : (d : DumpRecordFields) (tape : ℕ) (p : TapePart) → Contains listed d → place_of d tape ≡ Some p → holds d tape old ≡ true → p.end ≤ front

-- so it is on each slot
abbrev pub HavePut : ℕ → List DumpRecordFields → List Slot → List Slot → Type 0
HavePut id listed old new = (k : ℕ) (t : Slot) → slice_get new k ≡ Some t → (s : Slot) × (slice_get old k ≡ Some s) × HasPut id listed s.items t.items

-- all tapes of each listed dump are held
abbrev pub AreAllHeld : List DumpRecordFields → List Slot → Type 0
AreAllHeld listed slots = (d : DumpRecordFields) → Contains listed d → IsHeld d slots

-- a dump that is listed now was listed then, or all of its tapes are held
abbrev pub ListsWhole : List DumpRecordFields → List DumpRecordFields → List Slot → Type 0
ListsWhole before listed slots = (d : DumpRecordFields) → Contains listed d → Contains before d ⊎ IsHeld d slots

-- The log and the contents that an archive has on the way from another one to these: the log of before with the contents of before or already these,
-- for a dump is made by its last filemark and listed behind it; or this log, and then with these contents.
abbrev pub IsBetween : Archive → List Change → (ℕ → List ℕ → Result VolumeFields Refusal) → Archive → Type 0
IsBetween a log contents x = ((x.log ≡ a.log) × ((x.contents ≡ a.contents) ⊎ (x.contents ≡ contents))) ⊎ ((x.log ≡ log) × (x.contents ≡ contents))

-- An archive on the way from one to another: it has the log and the contents of the one or of the other, or the log of the one with the contents of
-- the other; the same slots are here, and each of its listed dumps is held where it was; one that was listed since is held whole. It has no dumps
-- but those of before or these.
pub record IsOnTheWay (a z : Archive) (records dumps : List DumpRecordFields) (x : Kept) : Type 0 where
  pub between : IsBetween a z.log z.contents x.archive
  pub here : map is_here x.archive.slots ≡ map is_here a.slots
  pub still : StillHeld (listed_of x.archive) a.slots x.archive.slots
  pub listed : ListsWhole (listed_of a) (listed_of x.archive) x.archive.slots
  pub dumps_are : (d : DumpRecordFields) → Contains x.records d → Contains records d ⊎ Contains dumps d

-- These effects, by which these changes are committed, lead from an archive to one with these contents; archives on the way are held settled, one
-- behind each effect; and the dump, as it is then, runs in the last of them, over these clones. That archive has no other dumps than these, and on
-- its tapes stands nothing new but what the dump has put: of other dumps, listed or not, they are since what they were.
-- A dump that joins the dumps gives what it has of a volume over what its parent has.
pub record Keeps (s : State) (a : Archive) (records : List DumpRecordFields) (contents : ℕ → List ℕ → Result VolumeFields Refusal) (clones : List Taken) (dumps : List DumpRecordFields) (effects : List Effect) (changes : List Change) (next : JobFields) : Type 0 where
  pub before : List Kept
  pub last : Kept
  pub made : Made
  pub held : AreHeld s effects (before ++ last ∷ [])
  pub log : last.archive.log ≡ a.log ++ changes
  pub contents_are : last.archive.contents ≡ contents
  pub here : map is_here last.archive.slots ≡ map is_here a.slots
  pub still : StillHeld (listed_of last.archive) a.slots last.archive.slots
  pub listed : ListsWhole (listed_of a) (listed_of last.archive) last.archive.slots
  pub each : All (IsOnTheWay a last.archive records dumps) before
  pub runs : RunsIn (come effects s) last.archive last.records next made
  pub clones_are : made.clones ≡ clones
  pub dumps_are : (d : DumpRecordFields) → Contains last.records d → Contains dumps d
  pub put : HavePut next.head.id (listed_of a) a.slots last.archive.slots
  pub since : AreSince (OtherThan next.head.id) a.slots last.archive.slots
  pub gives : (d : DumpRecordFields) → Contains last.records d → Contains records d ⊎ ((name : List ℕ) (v : VolRecordFields) → volume_of d name ≡ Some v → GivesNext last.archive.slots last.archive.contents d name v)

-- ---- what each image holds

-- An image holds an archive on the way: its log and its contents are those of before or these, or it has these contents under the log of before;
-- the same slots are here; each of its listed dumps is held where it was before them; and of the other dumps it has those that are whole yet.
pub record ImageHolds (a : Archive) (log : List Change) (contents : ℕ → List ℕ → Result VolumeFields Refusal) (c : Stock) : Type 0 where
  pub moment : Kept
  pub slots : List Slot
  pub between : IsBetween a log contents moment.archive
  pub here : map is_here slots ≡ map is_here a.slots
  pub still : StillHeld (listed_of moment.archive) a.slots slots
  pub listed : ListsWhole (listed_of a) (listed_of moment.archive) slots
  pub holds : Holds c (record moment.archive { slots = slots }) (remaining (listed_of moment.archive) slots moment.records)
