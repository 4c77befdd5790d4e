-- How a dump fills tapes: which records it puts on each of them.
use Rattle.std.specs.Prelude.{◌≡◌, ◌⊎◌, ℕ, ◌+◌, ◌<◌, ◌≤◌, ◌==◌, min, if◌then◌else◌, Some, List, [], ◌∷◌, length, take, sum_by, filter, slice_get, slice_index_or, All}
use Rattle.std.specs.List.{flat_map}
use Rattle.tape_config.specs.declared.port.PortFields.{PortFields}
use Rattle.tape_frames.specs.declared.frame.Frame.TheVariants as frames
use Rattle.tape_frames.specs.declared.label.LabelFields.{LabelFields}
use Rattle.tape_frames.specs.declared.dump_head.DumpHeadFields.{DumpHeadFields}
use Rattle.tape_frames.specs.declared.vol_head.VolHeadFields.{VolHeadFields}
use Rattle.tape_frames.specs.declared.data.DataFields.{DataFields}
use Rattle.tape_text.specs.Items.{Item, Says, Filemark, Nothing, IsFitItem}
use Rattle.tape_text.specs.Texts.{Fragment, Part, Tape, part_items, IsPart}
use Rattle.tape_text.specs.Parts.{FoundPart, part_len, part_marks, uses_told}
use Rattle.tape_text.specs.Wholes.{Ends, IsWhole}
use Rattle.tape_writer.specs.Room.{taken_by, Counts}

-- ---- tapes on which a part begins

-- its label, the blocks and filemarks in front of the part, and the uses that the part's head tells
pub record Start : Type 0 where
  pub label : LabelFields
  pub blocks : ℕ
  pub marks : ℕ
  pub uses : ℕ

-- the uses that an item tells: none but a dump's head tells any
abbrev pub uses_in : Item → ℕ
uses_in (Says (frames.Label a)) = 0
uses_in (Says (frames.DumpHead a)) = a.uses
uses_in (Says (frames.VolHead a)) = 0
uses_in (Says (frames.Data a)) = 0
uses_in (Says (frames.VolEnd a)) = 0
uses_in (Says (frames.DumpEnd a)) = 0
uses_in Filemark = 0
uses_in Nothing = 0

-- A tape that is taken: it has its new label and a filemark. Its uses are one more than those of the head at record 2 of what stood
-- on it before, held at 4,294,967,295.
abbrev pub taken : LabelFields → List Item → Start
taken label old = record { label = label; blocks = 1; marks = 1; uses = min (uses_in (slice_index_or old 2 Nothing) + 1) 4294967295 }

-- the blocks of 16 KiB that a fragment takes: its head, its Data frames and its end; its filemark isn't counted
abbrev pub fragment_blocks : Fragment → ℕ
fragment_blocks f = length f.pieces + 2

-- the blocks of 16 KiB that a part takes: its head, its fragments and its end; filemarks aren't counted
abbrev pub part_blocks : Part → ℕ
part_blocks p = sum_by fragment_blocks p.fragments + 2

-- A tape that is appended to, with what stands on it. Its uses are those of its first head of version 2, or 1 where there is none.
abbrev pub appended : Tape → Start
appended t = record {
  label = t.label;
  blocks = 1 + sum_by part_blocks t.parts;
  marks = 1 + sum_by part_marks t.parts;
  uses = if uses_told t.parts == 0 then 1 else uses_told t.parts;
}

-- where parts stand that are put on these tapes, each behind what stands in front of it
abbrev pub placed : List Start → List Part → List FoundPart
placed [] ps = []
placed (s ∷ ss) [] = []
placed (s ∷ ss) (p ∷ ps) =
    record { part = p; first = s.blocks + s.marks; end = s.blocks + s.marks + part_len p; marks = s.marks + part_marks p } ∷ placed ss ps

-- ---- room

-- what the tape has up to the part's end, with so many blocks and filemarks more
abbrev pub taken_with : PortFields → Start → Part → ℕ → ℕ → ℕ
taken_with port s p blocks marks = taken_by port (s.blocks + part_blocks p + blocks) (s.marks + part_marks p + marks)

-- what stands on the tape at the part's end
abbrev pub counted_with : PortFields → Start → Part → Counts
counted_with port s p = record { port = port; blocks = s.blocks + part_blocks p; marks = s.marks + part_marks p }

-- a part stays within the tape's capacity
abbrev pub Stays : PortFields → Start → Part → Type 0
Stays port s p = taken_with port s p 0 0 ≤ port.capacity

-- Where a part's last fragment doesn't end its volume, one more Data frame in it wouldn't have stayed within the capacity; where
-- it does, one more fragment wouldn't, of a head, one Data frame, an end and a filemark.
abbrev pub HasNoRoomBehind : PortFields → Start → Part → Fragment → Type 0
HasNoRoomBehind port s p f =
    ((f.end.last ≡ 0) × (port.capacity < taken_with port s p 1 0)) ⊎ ((f.end.last ≡ 1) × (port.capacity < taken_with port s p 3 1))

-- the tape has no room for more of the dump behind the part's last fragment; there is one
abbrev pub IsFull : PortFields → Start → Part → Type 0
IsFull port s p = Ends (HasNoRoomBehind port s p) p.fragments

-- ---- the volumes

-- a volume that is dumped: what its heads say, and its stream
pub record Dumping : Type 0 where
  pub id : ℕ
  pub clone : ℕ
  pub from : ℕ
  pub name : List ℕ
  pub server : List ℕ
  pub partition : List ℕ
  pub stream : List ℕ

-- the head of one of its fragments
abbrev pub head_of : ℕ → ℕ → ℕ → Dumping → VolHeadFields
head_of dump index fragment v = record {
  dump = dump;
  index = index;
  fragment = fragment;
  volume = v.id;
  clone = v.clone;
  from = v.from;
  name = v.name;
  server = v.server;
  partition = v.partition;
}

-- the bytes of a fragment
abbrev pub bytes_of : DataFields → List ℕ
bytes_of d = take d.used d.bytes

-- the bytes of a volume's stream that a fragment has: the used ones of its Data frames, in order
abbrev pub fragment_bytes : Fragment → List ℕ
fragment_bytes f = flat_map bytes_of f.pieces

-- the fragments of one volume
abbrev pub of_index : ℕ → List Fragment → List Fragment
of_index index fs = filter (λ f. f.head.index == index) fs

-- the fragments of a volume have its head, and their bytes are its stream
pub record IsDumped (dump index : ℕ) (fs : List Fragment) (v : Dumping) : Type 0 where
  pub heads : All (λ f. f.head ≡ head_of dump index f.head.fragment v) (of_index index fs)
  pub stream : flat_map fragment_bytes (of_index index fs) ≡ v.stream

-- ---- the text

-- A part as it is put on a tape. Its head has version 2, the name of the cell, the label's permanent name and the tape's uses; its
-- end has the tape's number. It stays within the capacity.
pub record IsPut (port : PortFields) (name : List ℕ) (s : Start) (p : Part) : Type 0 where
  pub part : IsPart s.label p
  pub fit : All IsFitItem (part_items p)
  pub some : 1 ≤ p.head.uses
  pub uses : p.head.uses ≡ s.uses
  pub cell : p.head.cell ≡ name
  pub end : p.end.tape ≡ p.head.tape
  pub stays : Stays port s p

-- each part on its tape
abbrev pub AreOn : PortFields → List ℕ → List Start → List Part → Type 0
AreOn port cell [] [] = Unit {0}
AreOn port cell (s ∷ ss) (p ∷ ps) = IsPut port cell s p × AreOn port cell ss ps
AreOn port cell [] (p ∷ ps) = ⊥
AreOn port cell (s ∷ ss) [] = ⊥

-- a tape is left for the next one only where it is full
abbrev pub AreFull : PortFields → List Start → List Part → Type 0
AreFull port [] ps = Unit {0}
AreFull port (s ∷ ss) [] = Unit {0}
AreFull port (s ∷ ss) (p ∷ []) = Unit {0}
AreFull port (s ∷ ss) (p ∷ q ∷ ps) = IsFull port s p × AreFull port ss (q ∷ ps)

-- the first of a dump's parts has this head; there is one
abbrev pub BeginsWith : DumpHeadFields → List Part → Type 0
BeginsWith head [] = ⊥
BeginsWith head (p ∷ ps) = p.head ≡ head

-- The parts of a dump with this first head over these volumes, from these starts on, in this cell: they are a whole dump, each part
-- stays within its tape, no tape is left early, and each volume has its heads and its stream.
pub record TapeText (port : PortFields) (cell : List ℕ) (head : DumpHeadFields) (volumes : List Dumping) (starts : List Start) (parts : List Part) : Type 0 where
  pub whole : IsWhole parts
  pub begins : BeginsWith head parts
  pub on : AreOn port cell starts parts
  pub full : AreFull port starts parts
  pub count : head.volumes ≡ length volumes
  pub dumped : (index : ℕ) (v : Dumping) → slice_get volumes index ≡ Some v → IsDumped head.id index (flat_map (λ p. p.fragments) parts) v
