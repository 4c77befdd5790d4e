-- Which slot holds a tape of a recorded dump, and what has to lie there.
use Rattle.std.specs.Prelude.{◌≡◌, ◌<◌, ◌≤◌, ℕ, ◌+◌, Bool, true, false, ◌&&◌, ◌==◌, Option, Some, None, List, [], ◌∷◌, length, take, find, filter, slice_get, Contains}
use Rattle.std.specs.List.{flat_map}
use Rattle.bk_text.specs.Blanks.{is_same_text}
use Rattle.tape_frames.specs.declared.frame.Frame.{Frame}
use Rattle.tape_frames.specs.declared.frame.Frame.TheVariants as frames
use Rattle.tape_frames.specs.declared.vol_head.VolHeadFields.{VolHeadFields}
use Rattle.tape_frames.specs.declared.dump_head.DumpHeadFields.{DumpHeadFields}
use Rattle.budb_changes.specs.declared.records.TapePart.{TapePart}
use Rattle.budb_changes.specs.declared.records.Frag.{Frag}
use Rattle.budb_changes.specs.declared.records.VolRecordFields.{VolRecordFields}
use Rattle.budb_changes.specs.declared.records.DumpRecordFields.{DumpRecordFields}
use Rattle.tape_text.specs.Items.{Item, Says, Filemark, Nothing}
use Rattle.tape_text.specs.Texts.{Tape, tape_items, IsTape}
use Rattle.tape_text.specs.Parts.{FoundPart, parts_of}
use Rattle.tape_text.specs.Wholes.{Lying, lying_in, tape_part}
use Rattle.tape_scan.specs.Slots.{Slot}

-- ---- slots

-- what a record names for a tape; of several places for one tape the first counts
abbrev pub place_of : DumpRecordFields → ℕ → Option TapePart
place_of d tape = find (λ p. p.tape == tape) d.tapes

-- a label with this first id of a dump set and this number of a tape in it
abbrev pub is_label_frame : ℕ → ℕ → Frame → Bool
is_label_frame initial tape (frames.Label a) = (a.initial == initial) && (a.tape == tape)
is_label_frame initial tape (frames.DumpHead a) = false
is_label_frame initial tape (frames.VolHead a) = false
is_label_frame initial tape (frames.Data a) = false
is_label_frame initial tape (frames.VolEnd a) = false
is_label_frame initial tape (frames.DumpEnd a) = false

-- the head of the part of this dump on the tape of this number
abbrev pub is_head_frame : ℕ → ℕ → Frame → Bool
is_head_frame id tape (frames.Label a) = false
is_head_frame id tape (frames.DumpHead a) = (a.id == id) && (a.tape == tape)
is_head_frame id tape (frames.VolHead a) = false
is_head_frame id tape (frames.Data a) = false
is_head_frame id tape (frames.VolEnd a) = false
is_head_frame id tape (frames.DumpEnd a) = false

-- a record that is there and says such a frame
abbrev pub is_so : (Frame → Bool) → Option Item → Bool
is_so test None = false
is_so test (Some (Says f)) = test f
is_so test (Some Filemark) = false
is_so test (Some Nothing) = false

-- the label of a record's tape stands first, and the dump's head at the place that is named; `false` where none is
abbrev pub holds_at : Option TapePart → DumpRecordFields → ℕ → List Item → Bool
holds_at None d tape items = false
holds_at (Some p) d tape items = is_so (is_label_frame d.initial tape) (slice_get items 0) && is_so (is_head_frame d.id tape) (slice_get items p.first)

-- A slot holds a tape for a record where its label has the record's initial id and the tape's number, and the record that the
-- database names has the head of that dump on that tape.
abbrev pub holds : DumpRecordFields → ℕ → List Item → Bool
holds d tape items = holds_at (place_of d tape) d tape items

-- the slots from a number on, each with its number
abbrev pub numbered_from : ℕ → List Slot → List (ℕ × Slot)
numbered_from n [] = []
numbered_from n (s ∷ ss) = (n, s) ∷ numbered_from (n + 1) ss

-- the least slot that holds a tape for a record, of all and of those that are here
abbrev pub holder : DumpRecordFields → ℕ → List Slot → Option (ℕ × Slot)
holder d tape slots = find (λ s. holds d tape s.1.items) (numbered_from 0 slots)

-- the same of the slots that are here
abbrev pub holder_here : DumpRecordFields → ℕ → List Slot → Option (ℕ × Slot)
holder_here d tape slots = find (λ s. s.1.here && holds d tape s.1.items) (numbered_from 0 slots)

-- ---- what a record calls for

-- the head of a volume's fragment: the volume's place in the record counts from 0, the fragment's from 1
abbrev pub called_head : ℕ → ℕ → ℕ → VolRecordFields → VolHeadFields
called_head dump index fragment v = record {
  dump = dump;
  index = index;
  fragment = fragment;
  volume = v.id;
  clone = v.clone;
  from = v.from;
  name = v.name;
  server = v.server;
  partition = v.partition;
}

-- the fragments of a volume with their heads, the first one's number being this; the last one alone ends the volume
abbrev pub called_frags : ℕ → ℕ → ℕ → VolRecordFields → List Frag → List Lying
called_frags dump index fragment v [] = []
called_frags dump index fragment v (f ∷ []) = record { tape = f.tape; at = f.at; head = called_head dump index fragment v; last = 1 } ∷ []
called_frags dump index fragment v (f ∷ g ∷ fs) =
    record { tape = f.tape; at = f.at; head = called_head dump index fragment v; last = 0 } ∷ called_frags dump index (fragment + 1) v (g ∷ fs)

-- volumes with their places in a record
abbrev pub placed_from : ℕ → List VolRecordFields → List (ℕ × VolRecordFields)
placed_from index [] = []
placed_from index (v ∷ vs) = (index, v) ∷ placed_from (index + 1) vs

-- the fragments of one volume of a dump, by the dump's id and the volume's place in its record, from 0 on
abbrev pub called_of : ℕ → ℕ × VolRecordFields → List Lying
called_of dump v = called_frags dump v.0 1 v.1 v.1.frags

-- all fragments of a dump, volume by volume
abbrev pub called_by : DumpRecordFields → List Lying
called_by d = flat_map (called_of d.id) (placed_from 0 d.volumes)

-- those of one volume: of one name in a record the first alone counts
abbrev pub called_at : ℕ → Option (ℕ × VolRecordFields) → List Lying
called_at dump None = []
called_at dump (Some v) = called_of dump v

-- the fragments that a dump's record names for the volume of this name; none where it has no such volume
abbrev pub called_for : DumpRecordFields → List ℕ → List Lying
called_for d name = called_at d.id (find (λ v. is_same_text v.1.name name) (placed_from 0 d.volumes))

-- ---- what lies on a tape that is held

-- a part's head agrees with the record
pub record Heads (d : DumpRecordFields) (h : DumpHeadFields) : Type 0 where
  pub id : h.id ≡ d.id
  pub initial : h.initial ≡ d.initial
  pub parent : h.parent ≡ d.parent
  pub expires : h.expires ≡ d.expires
  pub volumes : h.volumes ≡ length d.volumes
  pub set : h.set ≡ d.set
  pub level : h.level ≡ d.level
  pub base : h.base ≡ d.base
  pub cell : h.cell ≡ d.cell

-- Of a dump's parts the one on the last tape that its record names ends it, and each before goes on.
pub record EndsOnLast (tapes : List TapePart) (tape more : ℕ) : Type 0 where
  pub last : ((q : TapePart) → Contains tapes q → q.tape ≤ tape) → more ≡ 0
  pub before : (q : TapePart) → Contains tapes q → tape < q.tape → more ≡ 1

-- The front of the tape up to the record's end is a tape, and its part at the record's first reads as the record says.
pub record LiesOn (d : DumpRecordFields) (p : TapePart) (items : List Item) : Type 0 where
  pub tape : Tape
  pub is : IsTape tape
  pub front : take p.end items ≡ tape_items tape
  pub found : FoundPart
  pub there : Contains (parts_of tape) found
  pub place : tape_part found ≡ p
  pub heads : Heads d found.part.head
  pub frags : lying_in found ≡ filter (λ c. c.tape == p.tape) (called_by d)
  pub ends : EndsOnLast d.tapes p.tape found.part.end.more

-- a tape of a record lies in a slot wherever the slot holds it
abbrev pub Lies : DumpRecordFields → List Item → Type 0
Lies d items = (tape : ℕ) (p : TapePart) → place_of d tape ≡ Some p → holds d tape items ≡ true → LiesOn d p items

-- ---- labels and heads

-- the initial id of a tape's label, where its first record is one
abbrev pub HasInitial : ℕ → List Item → Type 0
HasInitial initial [] = ⊥
HasInitial initial (Says (frames.Label a) ∷ items) = a.initial ≡ initial
HasInitial initial (Says (frames.DumpHead a) ∷ items) = ⊥
HasInitial initial (Says (frames.VolHead a) ∷ items) = ⊥
HasInitial initial (Says (frames.Data a) ∷ items) = ⊥
HasInitial initial (Says (frames.VolEnd a) ∷ items) = ⊥
HasInitial initial (Says (frames.DumpEnd a) ∷ items) = ⊥
HasInitial initial (Filemark ∷ items) = ⊥
HasInitial initial (Nothing ∷ items) = ⊥

-- no record is a head of this dump
abbrev pub HasNoHead : ℕ → List Item → Type 0
HasNoHead id [] = Unit {0}
HasNoHead id (Says (frames.DumpHead a) ∷ items) = (a.id ≡ id → ⊥) × HasNoHead id items
HasNoHead id (Says (frames.Label a) ∷ items) = HasNoHead id items
HasNoHead id (Says (frames.VolHead a) ∷ items) = HasNoHead id items
HasNoHead id (Says (frames.Data a) ∷ items) = HasNoHead id items
HasNoHead id (Says (frames.VolEnd a) ∷ items) = HasNoHead id items
HasNoHead id (Says (frames.DumpEnd a) ∷ items) = HasNoHead id items
HasNoHead id (Filemark ∷ items) = HasNoHead id items
HasNoHead id (Nothing ∷ items) = HasNoHead id items
