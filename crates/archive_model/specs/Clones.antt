-- The volumes that a chain of dumps was cloned from.
use Rattle.std.specs.Prelude.{◌≡◌, ℕ, Option, Some, None, List, [], ◌∷◌, map, take, find, All, Contains}
use Rattle.std.specs.List.{flat_map}
use Rattle.bk_text.specs.Blanks.{is_same_text}
use Rattle.tape_frames.specs.declared.label.LabelFields.{LabelFields}
use Rattle.vnode_model.specs.declared.volumes.VolumeFields.{VolumeFields}
use Rattle.vnode_model.specs.Limits.{AreVolume}
use Rattle.vnode_model.specs.Increments.{selected, Follows}
use Rattle.budb_changes.specs.declared.records.DumpRecordFields.{DumpRecordFields}
use Rattle.budb_changes.specs.declared.records.VolRecordFields.{VolRecordFields}
use Rattle.dump_stream.specs.Written.{written}
use Rattle.dump_stream.specs.Allowed.{Allowed}
use Rattle.tape_text.specs.Texts.{Part, Tape, tape_items, IsPart, IsTape}
use Rattle.tape_text.specs.Parts.{FoundPart, parts_of}
use Rattle.tape_text.specs.Wholes.{IsWhole, record_with, record_by}
use Rattle.tape_writer.specs.Filling.{Dumping, IsDumped}
use Rattle.tape_scan.specs.Slots.{Slot}
use Rattle.archive_model.specs.Holding.{called_for, placed_from, holder_here}
use Rattle.archive_model.specs.Plays.{HasStream}

-- parts that stand on tapes of some labels
abbrev pub ArePlaced : List FoundPart → Type 0
ArePlaced qs = All (λ q. (label : LabelFields) × IsPart label q.part) qs

-- the part that was found, without the places of its records on the tape
abbrev pub part_in : FoundPart → Part
part_in q = q.part

-- a part stands on the least slot here that holds its tape, in a front that is a tape
pub record IsHere (slots : List Slot) (d : DumpRecordFields) (q : FoundPart) : Type 0 where
  pub slot : ℕ × Slot
  pub holder : holder_here d q.part.head.tape slots ≡ Some slot
  pub tape : Tape
  pub is : IsTape tape
  pub there : Contains (parts_of tape) q
  pub front : take q.end slot.1.items ≡ tape_items tape

-- The parts of a whole dump, which stand on slots that are here, and a volume of it with what was written.
pub record IsWritten (slots : List Slot) (q : FoundPart) (qs : List FoundPart) (name : List ℕ) (w : Dumping) : Type 0 where
  pub placed : ArePlaced (q ∷ qs)
  pub whole : IsWhole (map part_in (q ∷ qs))
  pub here : All (IsHere slots (record_with q.part.head (q ∷ qs))) (q ∷ qs)
  pub volume : ℕ × VolRecordFields
  pub named : find (λ x. is_same_text x.1.name name) (placed_from 0 (record_with q.part.head (q ∷ qs)).volumes) ≡ Some volume
  pub dumped : IsDumped q.part.head.id volume.0 (flat_map (λ p. p.part.fragments) (q ∷ qs)) w

-- a volume as it was cloned for a dump: its contents, the time from which on its changes were dumped, and its clone time
pub record Cloned : Type 0 where
  pub volume : VolumeFields
  pub from : ℕ
  pub time : ℕ

-- The first clone of a chain was dumped whole. Each later one follows the one before it, but for what the server changed since.
abbrev pub IsNext : Option VolumeFields → Cloned → Type 0
IsNext None c = c.from ≡ 0
IsNext (Some old) c = Follows old c.from c.volume

-- dumps that have these clones of a volume, each one's increment on its tapes
abbrev pub HaveClones : List Slot → List ℕ → Option VolumeFields → List DumpRecordFields → List Cloned → Type 0
HaveClones slots name base [] [] = Unit {0}
HaveClones slots name base (d ∷ ds) (c ∷ cs) =
    HasStream slots d (called_for d name) (selected c.volume c.from c.time) × AreVolume c.volume.vnodes × IsNext base c
    × HaveClones slots name (Some c.volume) ds cs
HaveClones slots name base [] (c ∷ cs) = ⊥
HaveClones slots name base (d ∷ ds) [] = ⊥

-- the last clone
abbrev pub last_of : Option VolumeFields → List Cloned → Option VolumeFields
last_of base [] = base
last_of base (c ∷ cs) = last_of (Some c.volume) cs

-- A dump whose record its parts give, written on slots that are here with the increment of this clone as the volume's stream.
pub record WrittenAs (slots : List Slot) (name : List ℕ) (d : DumpRecordFields) (c : Cloned) : Type 0 where
  pub first : FoundPart
  pub others : List FoundPart
  pub record_is : record_by (first ∷ others) ≡ Some d
  pub dumping : Dumping
  pub put : IsWritten slots first others name dumping
  pub stream : dumping.stream ≡ written (selected c.volume c.from c.time)
  pub allowed : Allowed (selected c.volume c.from c.time)
  pub volume : AreVolume c.volume.vnodes

-- dumps written of these clones, of which each one follows the one before it
abbrev pub AreWritten : List Slot → List ℕ → Option VolumeFields → List DumpRecordFields → List Cloned → Type 0
AreWritten slots name base [] [] = Unit {0}
AreWritten slots name base (d ∷ ds) (c ∷ cs) = WrittenAs slots name d c × IsNext base c × AreWritten slots name (Some c.volume) ds cs
AreWritten slots name base [] (c ∷ cs) = ⊥
AreWritten slots name base (d ∷ ds) [] = ⊥

-- the fields of a volume's record are those of what was dumped
pub record IsRecordOf (v : VolRecordFields) (w : Dumping) : Type 0 where
  pub id : v.id ≡ w.id
  pub clone : v.clone ≡ w.clone
  pub from : v.from ≡ w.from
  pub name : v.name ≡ w.name
  pub server : v.server ≡ w.server
  pub partition : v.partition ≡ w.partition
