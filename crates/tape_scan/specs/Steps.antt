-- Which record continues a text by where a scan stands, and where it stands then.
use Rattle.std.specs.Prelude.{◌≡◌, ◌≢◌, ◌⊎◌, ℕ, ◌+◌, ◌-◌, ◌<◌, ◌≤◌, Bool, true, false, ◌&&◌, ◌==◌, if◌then◌else◌, Option, Some, None, List, [], ◌∷◌, ◌++◌, length, take, slice_get}
use Rattle.tape_frames.specs.declared.frame.Frame.TheVariants as frames
use Rattle.tape_frames.specs.declared.dump_head.DumpHeadFields.{DumpHeadFields}
use Rattle.tape_frames.specs.declared.vol_head.VolHeadFields.{VolHeadFields}
use Rattle.tape_frames.specs.declared.data.DataFields.{DataFields}
use Rattle.tape_frames.specs.declared.vol_end.VolEndFields.{VolEndFields}
use Rattle.tape_frames.specs.declared.dump_end.DumpEndFields.{DumpEndFields}
use Rattle.tape_frames.specs.TapeNames.{numbered}
use Rattle.tape_frames.specs.Pieces.{Tells}
use Rattle.plant_core.specs.Records.{Record}
use Rattle.tape_text.specs.Items as items
use Rattle.tape_text.specs.Items.{Item, ReadsAs}
use Rattle.tape_text.specs.Texts.{room, NextVolume}
use Rattle.tape_scan.specs.declared.sections.FragFound.{FragFound}
use Rattle.tape_scan.specs.declared.sections.PartFound.{PartFound}
use Rattle.tape_scan.specs.declared.sections.Sections.{Sections}
use Rattle.tape_scan.specs.declared.scanning_walk.TapeItem.{TapeItem}
use Rattle.tape_scan.specs.declared.scanning_walk.TapeItem.TheVariants as read
use Rattle.tape_scan.specs.declared.scanning_walk.TapeSoFar.{TapeSoFar}
use Rattle.tape_scan.specs.declared.scanning_walk.PartSoFar.{PartSoFar}
use Rattle.tape_scan.specs.declared.scanning_walk.FragmentSoFar.{FragmentSoFar}
use Rattle.tape_scan.specs.declared.scanning_walk.Walk.{Walk}
use Rattle.tape_scan.specs.declared.scanning_walk.Walk.TheVariants.{Nothing, Labeled, Between, InPart, InFragment, BehindFragment, BehindPart}
use Rattle.tape_scan.specs.declared.scanning_walk.Step.{Step}
use Rattle.tape_scan.specs.declared.scanning_walk.Step.TheVariants.{Taken, Stopped}

-- ---- reading

-- what a record says of which this was read: of a piece of data its bytes aren't told
abbrev pub IsOf : TapeItem → Item → Type 0
IsOf (read.Label a) item = item ≡ items.Says (frames.Label a)
IsOf (read.DumpHead a) item = item ≡ items.Says (frames.DumpHead a)
IsOf (read.VolHead a) item = item ≡ items.Says (frames.VolHead a)
IsOf (read.Piece p) item = (d : DataFields) × (item ≡ items.Says (frames.Data d)) × Tells p d
IsOf (read.VolEnd a) item = item ≡ items.Says (frames.VolEnd a)
IsOf (read.DumpEnd a) item = item ≡ items.Says (frames.DumpEnd a)
IsOf read.Filemark item = item ≡ items.Filemark
IsOf read.Nothing item = item ≡ items.Nothing

-- the record at a place of a tape says this
pub record ReadsAt (tape : List Record) (at : ℕ) (item : Item) : Type 0 where
  pub found : Record
  pub is : slice_get tape at ≡ Some found
  pub reads : ReadsAs found item

-- ---- what continues a text

-- the last one of a list
abbrev pub last_of : {X : Type 0} → List X → Option X
last_of xs = slice_get xs (length xs - 1)

-- Behind a part that ends its dump comes the first part of a dump with a greater id.
abbrev pub HeadBehind : Option PartFound → DumpHeadFields → Type 0
HeadBehind None h = Unit {0}
HeadBehind (Some p) h = (p.more ≡ false) × (p.head.id < h.id) × (h.part ≡ 1)

-- A part's head continues the tape: it follows the part before, and its set, number and name agree with the label.
-- Where it tells uses, its permanent name agrees with the label too, and the uses with those told before.
pub record OpensPart (t : TapeSoFar) (h : DumpHeadFields) : Type 0 where
  pub initial : h.initial ≡ t.label.initial
  pub tape : h.tape ≡ t.label.tape
  pub name : t.label.afs ≡ numbered h.base h.tape
  pub permanent : h.uses ≢ 0 → h.permanent ≡ t.label.permanent
  pub uses : h.uses ≢ 0 → t.uses ≢ 0 → h.uses ≡ t.uses
  pub next : HeadBehind (last_of t.parts) h

-- whether a volume ends, where that is told
abbrev pub is_last : Option Bool → Bool
is_last None = false
is_last (Some last) = last

-- In part 1 the first fragment is the first of all; behind a fragment that ends its volume comes the next volume.
abbrev pub FragmentBehind : ℕ → Option FragFound → VolHeadFields → Type 0
FragmentBehind part None v = part ≡ 1 → (v.index ≡ 0) × (v.fragment ≡ 1)
FragmentBehind part (Some f) v = (is_last f.last ≡ true) × NextVolume f.head v

-- A fragment's head continues the open part: it is of a volume of its dump, and follows the fragment before it.
pub record OpensFragment (p : PartSoFar) (v : VolHeadFields) : Type 0 where
  pub dump : v.dump ≡ p.head.id
  pub index : v.index < p.head.volumes
  pub next : FragmentBehind p.head.part (last_of p.frags) v

-- A piece continues the open fragment: it is of its dump and volume, and all pieces before it have 16,352 bytes used.
-- With it the fragment has at most 4,294,967,295 bytes.
pub record AddsPiece (f : FragmentSoFar) (d : DataFields) : Type 0 where
  pub dump : d.dump ≡ f.head.dump
  pub index : d.index ≡ f.head.index
  pub full : f.full ≡ true
  pub bytes : f.bytes + d.used ≤ 4294967295

-- A fragment's end closes it: there is a piece, only the last one of a volume isn't full, and head and bytes agree.
pub record EndsFragment (f : FragmentSoFar) (e : VolEndFields) : Type 0 where
  pub some : f.some ≡ true
  pub filled : (f.full ≡ true) ⊎ (e.last ≡ 1)
  pub dump : e.dump ≡ f.head.dump
  pub index : e.index ≡ f.head.index
  pub fragment : e.fragment ≡ f.head.fragment
  pub bytes : e.bytes ≡ f.bytes

-- whether a fragment that has its end ends the last of so many volumes
abbrev pub ends_last : ℕ → FragFound → Bool
ends_last volumes f = is_last f.last && (f.head.index + 1 == volumes)

-- A part's end tells 0 more where the last fragment ends the last of so many volumes, else 1; there is a fragment.
abbrev pub EndBehind : ℕ → Option FragFound → DumpEndFields → Type 0
EndBehind volumes None e = ⊥
EndBehind volumes (Some f) e = e.more ≡ (if ends_last volumes f then 0 else 1)

-- A part's end closes the open part: it is of its dump, and tells truly whether that goes on on another tape.
pub record EndsPart (p : PartSoFar) (e : DumpEndFields) : Type 0 where
  pub dump : e.dump ≡ p.head.id
  pub more : EndBehind p.head.volumes (last_of p.frags) e

-- this record continues a text in which a scan stands here
abbrev pub Continues : Walk → Item → Type 0
Continues Nothing (items.Says (frames.Label l)) = Unit {0}
Continues (Labeled l) items.Filemark = Unit {0}
Continues (Between t) (items.Says (frames.DumpHead h)) = OpensPart t h
Continues (InPart t p) (items.Says (frames.VolHead v)) = OpensFragment p v
Continues (InPart t p) (items.Says (frames.DumpEnd e)) = EndsPart p e
Continues (InFragment t p f) (items.Says (frames.Data d)) = AddsPiece f d
Continues (InFragment t p f) (items.Says (frames.VolEnd e)) = EndsFragment f e
Continues (BehindFragment t p) items.Filemark = Unit {0}
Continues (BehindPart t p more) items.Filemark = Unit {0}
Continues w i = ⊥

-- ---- where the scan stands behind it

-- the tape so far with one filemark more
abbrev pub one_mark : TapeSoFar → TapeSoFar
one_mark t = record t { marks = t.marks + 1 }

-- the open fragment with one more piece: its used bytes are added, and it is full where they are 16,352
abbrev pub with_piece : FragmentSoFar → DataFields → FragmentSoFar
with_piece f d = record f { some = true; full = d.used == room; bytes = f.bytes + d.used }

-- the fragment that this end closes; whether its volume ends with it is told
abbrev pub frag_found : FragmentSoFar → VolEndFields → FragFound
frag_found f e = record { head = f.head; at = f.at; last = Some (e.last == 1) }

-- the open part with a fragment more, behind those that it has
abbrev pub with_frag : PartSoFar → FragFound → PartSoFar
with_frag p f = record p { frags = p.frags ++ f ∷ [] }

-- the part whose last filemark is the record of this number: its end is the next number, and that mark is counted
abbrev pub part_found : ℕ → TapeSoFar → PartSoFar → Bool → PartFound
part_found at t p more = record { head = p.head; first = p.first; end = Some (at + 1); marks = t.marks + 1; more = more; frags = p.frags }

-- the tape with the open part closed by the filemark of this number; uses are those of the first head that tells any
abbrev pub with_closed : ℕ → TapeSoFar → PartSoFar → Bool → TapeSoFar
with_closed at t p more = record {
  label = t.label;
  parts = t.parts ++ part_found at t p more ∷ [];
  marks = t.marks + 1;
  uses = if t.uses == 0 then p.head.uses else t.uses;
}

-- where a scan stands behind a record of this number that continues the text
abbrev pub after : ℕ → Walk → Item → Walk
after at Nothing (items.Says (frames.Label l)) = Labeled l
after at (Labeled l) items.Filemark = Between (record { label = l; parts = []; marks = 1; uses = 0 })
after at (Between t) (items.Says (frames.DumpHead h)) = InPart t (record { head = h; first = at; frags = [] })
after at (InPart t p) (items.Says (frames.VolHead v)) = InFragment t p (record { head = v; at = at; some = false; full = true; bytes = 0 })
after at (InPart t p) (items.Says (frames.DumpEnd e)) = BehindPart t p (e.more == 1)
after at (InFragment t p f) (items.Says (frames.Data d)) = InFragment t p (with_piece f d)
after at (InFragment t p f) (items.Says (frames.VolEnd e)) = BehindFragment t (with_frag p (frag_found f e))
after at (BehindFragment t p) items.Filemark = InPart (one_mark t) p
after at (BehindPart t p more) items.Filemark = Between (with_closed at t p more)
after at w i = w

-- the record at a place of a tape says what was read of it
abbrev pub IsReadAt : List Record → ℕ → TapeItem → Type 0
IsReadAt tape at item = (said : Item) × IsOf item said × ReadsAt tape at said

-- a step at a record of this number
abbrev pub Steps : Walk → ℕ → Item → Step → Type 0
Steps walk at item (Taken now) = Continues walk item × (now ≡ after at walk item)
Steps walk at item (Stopped now) = (Continues walk item → ⊥) × (now ≡ walk)

-- how many marks a scan has counted
abbrev pub marks_in : Walk → ℕ
marks_in Nothing = 0
marks_in (Labeled l) = 0
marks_in (Between t) = t.marks
marks_in (InPart t p) = t.marks
marks_in (InFragment t p f) = t.marks
marks_in (BehindFragment t p) = t.marks
marks_in (BehindPart t p more) = t.marks

-- ---- what the scan tells where it stands

-- a part that isn't closed
abbrev pub open_part : PartSoFar → List FragFound → PartFound
open_part p frags = record { head = p.head; first = p.first; end = None; marks = 0; more = false; frags = frags }

-- a fragment whose end isn't in the front, so that `last` is None
abbrev pub open_frag : FragmentSoFar → FragFound
open_frag f = record { head = f.head; at = f.at; last = None }

-- what a scan of a slot's tape tells by where it stands; `stop` is the record that it didn't take, if there is one
abbrev pub sections_of : ℕ → Option ℕ → Walk → Sections
sections_of slot stop Nothing = record { slot = slot; label = None; parts = []; stop = stop }
sections_of slot stop (Labeled l) = record { slot = slot; label = Some l; parts = []; stop = stop }
sections_of slot stop (Between t) = record { slot = slot; label = Some t.label; parts = t.parts; stop = stop }
sections_of slot stop (InPart t p) = record { slot = slot; label = Some t.label; parts = t.parts ++ open_part p p.frags ∷ []; stop = stop }
sections_of slot stop (InFragment t p f) = record { slot = slot; label = Some t.label; parts = t.parts ++ open_part p (p.frags ++ open_frag f ∷ []) ∷ []; stop = stop }
sections_of slot stop (BehindFragment t p) = record { slot = slot; label = Some t.label; parts = t.parts ++ open_part p p.frags ∷ []; stop = stop }
sections_of slot stop (BehindPart t p more) = record { slot = slot; label = Some t.label; parts = t.parts ++ open_part p p.frags ∷ []; stop = stop }

-- ---- a walk over records

-- From where it stands at a record of this number a scan takes these records, each of which continues the text, and stands there.
abbrev pub Walks : Walk → ℕ → List Item → Walk → Type 0
Walks walk at [] now = now ≡ walk
Walks walk at (item ∷ more) now = items.IsFitItem item × Continues walk item × Walks (after at walk item) (at + 1) more now

-- The longest front of a tape's items that a scan takes, of so many items, and where it stands then.
pub record Walked (items : List Item) (count : ℕ) (walk : Walk) : Type 0 where
  pub within : count ≤ length items
  pub taken : Walks Nothing 0 (take count items) walk
  pub stops : (item : Item) → slice_get items count ≡ Some item → Continues walk item → ⊥
