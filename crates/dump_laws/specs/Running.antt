-- What is so of a dump that runs, between two of its steps: the plant holds an archive, and what the dump has put stands on its tapes.
use Rattle.std.specs.Prelude.{◌≡◌, ◌⊎◌, ◌<◌, ◌≤◌, ℕ, ◌+◌, true, Option, Some, None, Result, List, [], ◌∷◌, ◌++◌, length, map, take, sum_by, slice_get, All, Contains}
use Rattle.vnode_model.specs.declared.volumes.VolumeFields.{VolumeFields}
use Rattle.tape_frames.specs.declared.frame.Frame.TheVariants as frames
use Rattle.tape_frames.specs.declared.label.LabelFields.{LabelFields}
use Rattle.tape_frames.specs.declared.dump_head.DumpHeadFields.{DumpHeadFields}
use Rattle.tape_frames.specs.declared.vol_head.VolHeadFields.{VolHeadFields}
use Rattle.tape_frames.specs.TapeNames.{numbered}
use Rattle.budb_changes.specs.declared.records.Frag.{Frag}
use Rattle.budb_changes.specs.declared.records.TapePart.{TapePart}
use Rattle.budb_changes.specs.declared.records.VolRecordFields.{VolRecordFields}
use Rattle.budb_changes.specs.declared.records.DumpRecordFields.{DumpRecordFields}
use Rattle.plant_core.specs.Crashes.{State}
use Rattle.tape_text.specs.Items.{Item, Says}
use Rattle.tape_text.specs.Texts.{Fragment, Tape, tape_items, room, AreFilled, IsPiece, used_of}
use Rattle.tape_text.specs.Parts.{fragments_len, part_marks}
use Rattle.tape_text.specs.Wholes.{Ends, tape_part}
use Rattle.tape_scan.specs.Slots.{Slot, Located, IsClosedAt}
use Rattle.tape_writer.specs.Room.{HasRoom}
use Rattle.archive_model.specs.Holding.{place_of, holds}
use Rattle.archive_model.specs.Archives.{Archive, Refusal, listed_of}
use Rattle.archive_model.specs.Settled.{HoldsSettled}
use Rattle.dump_job.specs.declared.fields.Filled.{Filled}
use Rattle.dump_job.specs.declared.fields.Hand.{Hand}
use Rattle.dump_job.specs.declared.fields.JobFields.{JobFields}
use Rattle.dump_job.specs.declared.fields.Phase.{Phase}
use Rattle.dump_job.specs.declared.fields.Phase.TheVariants as phase
use Rattle.dump_job.specs.Reels.{records_on, counts_on}
use Rattle.dump_job.specs.Cloning.{record_with}
use Rattle.dump_laws.specs.Made.{Made, Basis, opening_items, items_begun, MayCome, all_lying, going_on, done_lying}
use Rattle.dump_laws.specs.Writing.{EndedFit, FrontFits, FragmentsFit, VolumesFit, HandGoes}

-- ---- what is so at every step

-- the basis of a dump
abbrev pub basis_of : JobFields → Basis
basis_of j = record { id = j.head.id; above = j.head.parent; parent = j.parent; count = j.head.volumes }

-- a part that is ended as a dump has it
abbrev pub filled_as : Located → Filled
filled_as l = record { slot = l.slot; part = tape_part l.found }

-- the parent's record, as it was when the dump began, is of an id below this one; it may be listed no more
pub record ParentFits (b : Basis) : Type 0 where
  pub below : b.above < b.id
  pub none : b.above ≡ 0 → b.parent ≡ None
  pub some : (p : DumpRecordFields) → b.parent ≡ Some p → p.id ≡ b.above

-- The plant holds an archive, none of whose dumps has this dump's id, or has it as its parent's. The ended parts stand closed and settled on other slots
-- than the one in hand, and the volumes that are done stand on the tapes.
pub record Goes (s : State) (a : Archive) (records : List DumpRecordFields) (j : JobFields) (m : Made) : Type 0 where
  pub held : HoldsSettled s a records
  pub new : (e : DumpRecordFields) → Contains records e → (e.id ≡ j.head.id → ⊥) × (e.parent ≡ j.head.id → ⊥)
  pub parent : ParentFits (basis_of j)
  pub ended : EndedFit j.head m.ended
  pub filled : j.filled ≡ map filled_as m.ended
  pub closed : All (IsClosedAt a.slots) m.ended
  pub settled : (l : Located) → Contains m.ended l → l.found.end ≤ s.settled l.slot
  pub apart : (l : Located) → Contains m.ended l → l.slot ≡ j.reel.slot → ⊥
  pub count : j.head.volumes ≡ length j.places
  pub volumes : VolumesFit a.contents (basis_of j) j.volumes m

-- ---- the tape in hand

-- Each head of the dump on any tape is that of a part that is ended, or stands at this place.
abbrev pub OwnHeads : List Slot → List Located → ℕ → ℕ → ℕ → Type 0
OwnHeads slots ended id slot first =
    (k : ℕ) (t : Slot) (n : ℕ) (h : DumpHeadFields) → slice_get slots k ≡ Some t → slice_get t.items n ≡ Some (Says (frames.DumpHead h)) → h.id ≡ id
    → ((l : Located) × Contains ended l × (l.slot ≡ k) × (l.found.first ≡ n)) ⊎ ((k ≡ slot) × (n ≡ first))

-- On the tape in hand stand a tape text, and behind it the part in hand as far as it goes, which ends so.
pub record IsOpen (a : Archive) (j : JobFields) (m : Made) (opened : List Item) : Type 0 where
  pub slot : Slot
  pub at : slice_get a.slots j.reel.slot ≡ Some slot
  pub items : slot.items ≡ items_begun j.head m opened
  pub front : FrontFits m.front j.head
  pub first : j.first ≡ length (tape_items m.front)
  pub marks : j.reel.marks ≡ 1 + sum_by part_marks m.front.parts + length m.fragments
  pub count : records_on j.reel ≡ length slot.items
  pub fragments : FragmentsFit j.head.id j.head.volumes m.ended m.fragments
  pub own : OwnHeads a.slots m.ended j.head.id j.reel.slot j.first

-- ---- the volume in hand

-- It goes on: its next fragment, or the open one, may come behind what was put.
pub record HandComes (contents : ℕ → List ℕ → Result VolumeFields Refusal) (b : Basis) (volumes : List VolRecordFields) (tape first : ℕ) (head : VolHeadFields) (frags : List Frag) (left : List ℕ) (m : Made) : Type 0 where
  pub goes : HandGoes contents b (length volumes) head frags left m
  pub comes : MayCome m.ended m.fragments head
  pub lying : all_lying tape first m ≡ done_lying b.id volumes ++ going_on head 1 frags

-- the same of a dump
abbrev pub HandIsToCome : Archive → JobFields → Hand → Made → Type 0
HandIsToCome a j h m = HandComes a.contents (basis_of j) j.volumes j.head.tape j.first h.head h.frags h.stream m

-- the volume in hand of a dump, and what of its stream was put
abbrev pub HandIsThere : Archive → JobFields → Hand → Made → Type 0
HandIsThere a j h m = HandGoes a.contents (basis_of j) (length j.volumes) h.head h.frags h.stream m

-- the last fragment that was put has this head, and ends its volume or doesn't
abbrev pub LastWas : VolHeadFields → ℕ → List Fragment → Type 0
LastWas head last fragments = Ends (λ f. (f.head ≡ head) × (f.end.last ≡ last)) fragments

-- It is done: its last fragment ended it.
pub record HandDone (a : Archive) (j : JobFields) (h : Hand) (m : Made) : Type 0 where
  pub goes : HandIsThere a j h m
  pub over : h.stream ≡ []
  pub none : m.pieces ≡ []
  pub last : LastWas h.head 1 m.fragments
  pub lying : all_lying j.head.tape j.first m ≡ done_lying j.head.id (j.volumes ++ record_with j.head.tape h ∷ [])

-- no volume is in hand yet
pub record NoHand (j : JobFields) (m : Made) : Type 0 where
  pub ended : m.ended ≡ []
  pub fragments : m.fragments ≡ []
  pub pieces : m.pieces ≡ []
  pub volumes : j.volumes ≡ []
  pub clones : m.clones ≡ []

-- ---- before the tape step

-- a tape that is taken gets this label, and nothing that is listed is held on it
pub record IsTaken (a : Archive) (j : JobFields) (t : Slot) (label : LabelFields) : Type 0 where
  pub blocks : j.reel.blocks ≡ 0
  pub marks : j.reel.marks ≡ 0
  pub initial : j.head.initial ≡ label.initial
  pub number : j.head.tape ≡ label.tape
  pub name : label.afs ≡ numbered j.head.base j.head.tape
  pub permanent : j.head.permanent ≡ label.permanent
  pub free : (d : DumpRecordFields) (tape : ℕ) → Contains (listed_of a) d → holds d tape t.items ≡ true → ⊥

-- a tape that is appended to has a tape text up to the place, and what is held there of listed dumps ends in front of it
pub record IsAppended (a : Archive) (j : JobFields) (t : Slot) (front : Tape) : Type 0 where
  pub within : records_on j.reel ≤ length t.items
  pub stands : take (records_on j.reel) t.items ≡ tape_items front
  pub fits : FrontFits front j.head
  pub marks : j.reel.marks ≡ 1 + sum_by part_marks front.parts
  pub behind : (d : DumpRecordFields) (tape : ℕ) (p : TapePart) → Contains (listed_of a) d → place_of d tape ≡ Some p → holds d tape t.items ≡ true → p.end ≤ records_on j.reel

-- what is so of the tape before the tape step: it is appended to where it keeps its label, taken where it gets one
abbrev pub IsChosen : Archive → JobFields → Tape → Slot → Option LabelFields → Type 0
IsChosen a j front t None = IsAppended a j t front
IsChosen a j front t (Some label) = IsTaken a j t label

-- a volume that goes on on another tape, or none yet
abbrev pub Comes : Archive → JobFields → Made → Option Hand → Type 0
Comes a j m None = NoHand j m
Comes a j m (Some h) = HandIsToCome a j h m × (h.stream ≡ [] → ⊥) × (m.pieces ≡ [])

-- before the tape step: the tape is chosen, the part has no fragment yet, each head of the dump is that of an ended part, and the volume
-- in hand may come
pub record BeforeTape (a : Archive) (j : JobFields) (m : Made) : Type 0 where
  pub slot : Slot
  pub at : slice_get a.slots j.reel.slot ≡ Some slot
  pub chosen : IsChosen a j m.front slot j.label
  pub none : m.fragments ≡ []
  pub own : (k : ℕ) (t : Slot) (n : ℕ) (h : DumpHeadFields) → slice_get a.slots k ≡ Some t → slice_get t.items n ≡ Some (Says (frames.DumpHead h)) → h.id ≡ j.head.id → (l : Located) × Contains m.ended l × (l.slot ≡ k) × (l.found.first ≡ n)
  pub comes : Comes a j m j.hand

-- ---- before the other steps

-- before a clone: nothing was put yet and the smallest part has room, or the volume in hand is done
abbrev pub CloneGoes : Archive → JobFields → Made → Option Hand → Type 0
CloneGoes a j m None = NoHand j m × HasRoom 4 2 (counts_on j.port j.reel)
CloneGoes a j m (Some h) = HandDone a j h m

-- before a clone step: the part is open and no fragment is, and the volume in hand is done, where there is one
pub record BeforeClone (a : Archive) (j : JobFields) (m : Made) : Type 0 where
  pub open_part : IsOpen a j m []
  pub hand : CloneGoes a j m j.hand

-- before a fragment's head: something is left of the stream, and the fragment that is to come may come
pub record BeforeHead (a : Archive) (j : JobFields) (h : Hand) (m : Made) : Type 0 where
  pub open_part : IsOpen a j m []
  pub hand : HandIsToCome a j h m
  pub none : m.pieces ≡ []
  pub left : h.stream ≡ [] → ⊥
  pub room : m.fragments ≡ [] → HasRoom 4 2 (counts_on j.port j.reel)

-- A fragment is open: its head and pieces stand behind the ended fragments.
pub record HasOpenFragment (a : Archive) (j : JobFields) (h : Hand) (m : Made) : Type 0 where
  pub open_part : IsOpen a j m (opening_items h.head m.pieces)
  pub hand : HandIsToCome a j h m
  pub at : h.at ≡ j.first + 1 + fragments_len m.fragments
  pub bytes : h.bytes ≡ used_of m.pieces
  pub each : All (IsPiece h.head.dump h.head.index) m.pieces

-- before a piece: a fragment is open whose pieces are full, and something is left of the stream
pub record BeforePiece (a : Archive) (j : JobFields) (h : Hand) (m : Made) : Type 0 where
  pub fragment : HasOpenFragment a j h m
  pub full : All (λ d. d.used ≡ room) m.pieces
  pub left : h.stream ≡ [] → ⊥
  pub room : m.pieces ≡ [] → HasRoom 3 2 (counts_on j.port j.reel)

-- before a volume's end: the stream is over, and the open fragment's pieces may be its last
pub record BeforeVolumeEnd (a : Archive) (j : JobFields) (h : Hand) (m : Made) : Type 0 where
  pub fragment : HasOpenFragment a j h m
  pub filled : AreFilled 1 m.pieces
  pub over : h.stream ≡ []

-- the last fragment doesn't end its volume
pub record BeforePartEnd (a : Archive) (j : JobFields) (h : Hand) (m : Made) : Type 0 where
  pub open_part : IsOpen a j m []
  pub goes : HandIsThere a j h m
  pub none : m.pieces ≡ []
  pub left : h.stream ≡ [] → ⊥
  pub last : LastWas h.head 0 m.fragments
  pub lying : all_lying j.head.tape j.first m ≡ done_lying j.head.id j.volumes ++ going_on h.head 1 (h.frags ++ record { tape = j.head.tape; at = h.at } ∷ [])

-- before the dump's end: the last volume is done, and it is the last one of the dump
pub record BeforeDumpEnd (a : Archive) (j : JobFields) (h : Hand) (m : Made) : Type 0 where
  pub open_part : IsOpen a j m []
  pub hand : HandDone a j h m
  pub all : h.head.index + 1 ≡ j.head.volumes

-- this is so of the volume in hand, and there is one
abbrev pub WithHand : (Hand → Type 0) → Option Hand → Type 0
WithHand Is None = ⊥
WithHand Is (Some h) = Is h

-- what is so before the step of a phase
abbrev pub Before : Archive → JobFields → Made → Phase → Type 0
Before a j m phase.Tape = BeforeTape a j m
Before a j m phase.Clone = BeforeClone a j m
Before a j m phase.Head = WithHand (λ h. BeforeHead a j h m) j.hand
Before a j m phase.Piece = WithHand (λ h. BeforePiece a j h m) j.hand
Before a j m phase.VolumeEnd = WithHand (λ h. BeforeVolumeEnd a j h m) j.hand
Before a j m phase.PartEnd = WithHand (λ h. BeforePartEnd a j h m) j.hand
Before a j m phase.DumpEnd = WithHand (λ h. BeforeDumpEnd a j h m) j.hand
Before a j m phase.Over = Unit {0}

-- this is so, unless the dump is over
abbrev pub UnlessOver : Phase → Type 0 → Type 0
UnlessOver phase.Tape holds = holds
UnlessOver phase.Clone holds = holds
UnlessOver phase.Head holds = holds
UnlessOver phase.Piece holds = holds
UnlessOver phase.VolumeEnd holds = holds
UnlessOver phase.PartEnd holds = holds
UnlessOver phase.DumpEnd holds = holds
UnlessOver phase.Over holds = Unit {0}

-- A dump runs on a plant in this state, which holds this archive, and has put so much. Behind its last step it owes nothing more.
pub record RunsIn (s : State) (a : Archive) (records : List DumpRecordFields) (j : JobFields) (m : Made) : Type 0 where
  pub held : HoldsSettled s a records
  pub goes : UnlessOver j.phase (Goes s a records j m)
  pub before : Before a j m j.phase
