-- What is so of a dump and of what it has put, whatever stands elsewhere: its parts are those of a tape text as far as it goes, and its
-- records and streams are those of what it has put.
use Rattle.std.specs.Prelude.{◌≡◌, ◌<◌, ◌≤◌, ℕ, ◌+◌, Some, Result, Ok, List, [], ◌∷◌, ◌++◌, length, map, slice_get, All, Contains}
use Rattle.std.specs.List.{flat_map}
use Rattle.vnode_model.specs.declared.volumes.VolumeFields.{VolumeFields}
use Rattle.vnode_model.specs.Limits.{AreVolume}
use Rattle.vnode_model.specs.Increments.{selected, Follows}
use Rattle.dump_stream.specs.Written.{written}
use Rattle.dump_stream.specs.Allowed.{Allowed}
use Rattle.tape_frames.specs.declared.dump_head.DumpHeadFields.{DumpHeadFields}
use Rattle.tape_frames.specs.declared.vol_head.VolHeadFields.{VolHeadFields}
use Rattle.tape_frames.specs.TapeNames.{numbered}
use Rattle.cell_core.specs.declared.stored.Taken.{Taken}
use Rattle.budb_changes.specs.declared.records.Frag.{Frag}
use Rattle.budb_changes.specs.declared.records.VolRecordFields.{VolRecordFields}
use Rattle.budb_fold.specs.Lookups.{from_of}
use Rattle.tape_text.specs.Texts.{Fragment, Part, Tape, Linked, NextFragment, IsOf, TellsUses, IsTape}
use Rattle.tape_text.specs.Wholes.{Agree, NextTape}
use Rattle.tape_scan.specs.Slots.{Located}
use Rattle.tape_writer.specs.Filling.{Dumping, bytes_of, fragment_bytes, of_index, IsDumped}
use Rattle.archive_model.specs.Archives.{Refusal}
use Rattle.dump_laws.specs.Neighbours.{LastIs, FirstIs}
use Rattle.dump_laws.specs.Made.{Made, Basis, part_at, all_fragments, MayBegin}

-- ---- the parts that are ended

-- an ended part is one of the dump that this head's part goes on, and one of so many
pub record IsEnded (h : DumpHeadFields) (count : ℕ) (l : Located) : Type 0 where
  pub agree : Agree l.found.part.head h
  pub more : l.found.part.end.more ≡ 1
  pub number : l.found.part.head.part ≤ count

-- the first of the ended parts is the dump's first one
abbrev pub BeginsEnded : List Located → Type 0
BeginsEnded [] = Unit {0}
BeginsEnded (l ∷ ls) = l.found.part.head.part ≡ 1

-- this head is that of the dump's next part, on the dump set's next tape
abbrev pub IsNextHead : DumpHeadFields → Located → Type 0
IsNextHead h l = (h.part ≡ l.found.part.head.part + 1) × (h.tape ≡ l.found.part.head.tape + 1)

-- The ended parts are those of a dump, in order; this is the head of the next one.
pub record EndedFit (h : DumpHeadFields) (ended : List Located) : Type 0 where
  pub linked : Linked NextTape (map part_at ended)
  pub begins : BeginsEnded ended
  pub each : All (IsEnded h (length ended)) ended
  pub next : LastIs (IsNextHead h) ended
  pub number : h.part ≡ length ended + 1

-- ---- the part in hand

-- A tape on which a part with this head may be put behind all that stands there.
pub record FrontFits (t : Tape) (h : DumpHeadFields) : Type 0 where
  pub tape : IsTape t
  pub some : t.label.initial ≡ 0 → ⊥
  pub initial : h.initial ≡ t.label.initial
  pub number : h.tape ≡ t.label.tape
  pub name : t.label.afs ≡ numbered h.base h.tape
  pub permanent : h.permanent ≡ t.label.permanent
  pub behind : (before : List Part) (q : Part) → t.parts ≡ before ++ q ∷ [] → (q.end.more ≡ 0) × (q.head.id < h.id) × (h.part ≡ 1)
  pub uses : (q : Part) → Contains t.parts q → TellsUses q → q.head.uses ≡ h.uses

-- The ended fragments of the part in hand are those of a part, as far as it goes.
pub record FragmentsFit (id volumes : ℕ) (ended : List Located) (fragments : List Fragment) : Type 0 where
  pub begins : FirstIs (λ f. MayBegin ended f.head) fragments
  pub each : All (IsOf id volumes) fragments
  pub linked : Linked NextFragment fragments

-- a volume in hand is the one behind those that are done, and its next fragment the one behind those that were put
pub record HandFits (b : Basis) (done : ℕ) (head : VolHeadFields) (frags : List Frag) : Type 0 where
  pub dump : head.dump ≡ b.id
  pub index : head.index ≡ done
  pub below : head.index < b.count
  pub fragment : head.fragment ≡ length frags + 1

-- ---- the volumes

-- A volume of this name, clone time and from time is that of this clone: the from time is by the parent's record, and where it isn't 0
-- the clone follows the parent's contents since then.
pub record IsCloned (contents : ℕ → List ℕ → Result VolumeFields Refusal) (b : Basis) (name : List ℕ) (time from : ℕ) (c : Taken) : Type 0 where
  pub name_is : name ≡ c.volume.header.name
  pub time_is : time ≡ c.time
  pub from_is : from ≡ from_of b.parent name c.born
  pub volume : AreVolume c.volume.vnodes
  pub allowed : Allowed (selected c.volume from time)
  pub follows : (from ≡ 0 → ⊥) → (old : VolumeFields) → contents b.above name ≡ Ok old → AreVolume old.vnodes × Follows old from c.volume

-- what is dumped of a volume
abbrev pub dumping_of : VolRecordFields → Taken → Dumping
dumping_of v c = record {
  id = v.id;
  clone = v.clone;
  from = v.from;
  name = v.name;
  server = v.server;
  partition = v.partition;
  stream = written (selected c.volume v.from v.clone);
}

-- volumes that are done: each record names a fragment, and is that of the clone at its place, whose increment stands on the tapes
pub record VolumesFit (contents : ℕ → List ℕ → Result VolumeFields Refusal) (b : Basis) (volumes : List VolRecordFields) (m : Made) : Type 0 where
  pub some : All (λ v. 1 ≤ length v.frags) volumes
  pub clones : length volumes ≤ length m.clones
  pub cloned : (i : ℕ) (v : VolRecordFields) (c : Taken) → slice_get volumes i ≡ Some v → slice_get m.clones i ≡ Some c → IsCloned contents b v.name v.clone v.from c
  pub dumped : (i : ℕ) (v : VolRecordFields) (c : Taken) → slice_get volumes i ≡ Some v → slice_get m.clones i ≡ Some c → IsDumped b.id i (all_fragments m) (dumping_of v c)

-- a head of some fragment of a volume
abbrev pub HasHead : VolHeadFields → Fragment → Type 0
HasHead head f = f.head ≡ record head { fragment = f.head.fragment }

-- The volume in hand: what stands of its stream on the tapes and what is left are the increment of its clone, the last one.
pub record HandStreams (contents : ℕ → List ℕ → Result VolumeFields Refusal) (b : Basis) (done : ℕ) (head : VolHeadFields) (left : List ℕ) (m : Made) : Type 0 where
  pub clone : Taken
  pub at : slice_get m.clones done ≡ Some clone
  pub last : length m.clones ≡ done + 1
  pub cloned : IsCloned contents b head.name head.clone head.from clone
  pub heads : All (HasHead head) (of_index head.index (all_fragments m))
  pub stream : (flat_map fragment_bytes (of_index head.index (all_fragments m)) ++ flat_map bytes_of m.pieces) ++ left ≡ written (selected clone.volume head.from head.clone)

-- no fragment is one of a volume that isn't yet in hand
abbrev pub AreBelow : ℕ → List Fragment → Type 0
AreBelow count fragments = All (λ f. f.head.index < count) fragments

-- the volume in hand: its place in the dump, what was put of it, and what is left
pub record HandGoes (contents : ℕ → List ℕ → Result VolumeFields Refusal) (b : Basis) (done : ℕ) (head : VolHeadFields) (frags : List Frag) (left : List ℕ) (m : Made) : Type 0 where
  pub fits : HandFits b done head frags
  pub streams : HandStreams contents b done head left m
  pub below : AreBelow (done + 1) (all_fragments m)
