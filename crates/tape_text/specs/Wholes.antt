-- Dumps that are whole, part by part, and the record of one.
use Rattle.std.specs.Prelude.{◌≡◌, ◌⊎◌, ℕ, ◌+◌, ◌==◌, Option, Some, None, List, [], ◌∷◌, map, filter}
use Rattle.std.specs.List.{flat_map}
use Rattle.tape_frames.specs.declared.dump_head.DumpHeadFields.{DumpHeadFields}
use Rattle.tape_frames.specs.declared.vol_head.VolHeadFields.{VolHeadFields}
use Rattle.budb_changes.specs.declared.records.TapePart.{TapePart}
use Rattle.budb_changes.specs.declared.records.Frag.{Frag}
use Rattle.budb_changes.specs.declared.records.VolRecordFields.{VolRecordFields}
use Rattle.budb_changes.specs.declared.records.DumpRecordFields.{DumpRecordFields}
use Rattle.tape_text.specs.Texts.{Fragment, Part, Linked, NextVolume, Begins}
use Rattle.tape_text.specs.Parts.{FoundFragment, FoundPart, fragments_of}

-- ---- whole dumps

-- the heads of two parts of one dump agree
pub record Agree (a b : DumpHeadFields) : Type 0 where
  pub id : b.id ≡ a.id
  pub initial : b.initial ≡ a.initial
  pub parent : b.parent ≡ a.parent
  pub expires : b.expires ≡ a.expires
  pub volumes : b.volumes ≡ a.volumes
  pub set : b.set ≡ a.set
  pub level : b.level ≡ a.level
  pub base : b.base ≡ a.base
  pub cell : b.cell ≡ a.cell

-- the head of the volume's next fragment
abbrev pub next_head : VolHeadFields → VolHeadFields
next_head h = record h { fragment = h.fragment + 1 }

-- Over two tapes a fragment goes on: where it doesn't end its volume, with the same volume's next one, else with the next
-- volume.
abbrev pub GoesOn : Fragment → Fragment → Type 0
GoesOn f g = ((f.end.last ≡ 0) × (g.head ≡ next_head f.head)) ⊎ ((f.end.last ≡ 1) × NextVolume f.head g.head)

-- the last of these fragments is so; there is one
abbrev pub Ends : (Fragment → Type 0) → List Fragment → Type 0
Ends Is [] = ⊥
Ends Is (f ∷ []) = Is f
Ends Is (f ∷ g ∷ fs) = Ends Is (g ∷ fs)

-- a part, and the dump's next one on the next tape
pub record NextTape (p q : Part) : Type 0 where
  pub more : p.end.more ≡ 1
  pub agree : Agree p.head q.head
  pub part : q.head.part ≡ p.head.part + 1
  pub tape : q.head.tape ≡ p.head.tape + 1
  pub goes_on : Ends (λ f. Begins (λ g. GoesOn f g) q.fragments) p.fragments

-- the last of these parts ends the dump; there is one
abbrev pub EndsWhole : List Part → Type 0
EndsWhole [] = ⊥
EndsWhole (p ∷ []) = p.end.more ≡ 0
EndsWhole (p ∷ q ∷ ps) = EndsWhole (q ∷ ps)

-- the first of these parts is part 1 of its dump; there is one
abbrev pub BeginsWhole : List Part → Type 0
BeginsWhole [] = ⊥
BeginsWhole (p ∷ ps) = p.head.part ≡ 1

-- closed parts, tape by tape, are a whole dump
pub record IsWhole (parts : List Part) : Type 0 where
  pub begins : BeginsWhole parts
  pub linked : Linked NextTape parts
  pub ends : EndsWhole parts

-- ---- the record of a whole dump

-- the place of a dump's part in its record: the tape's number, the part's first record number and the one behind
-- it, the filemarks before that, and the tape's uses and permanent name by the part's head
abbrev pub tape_part : FoundPart → TapePart
tape_part p = record {
  tape = p.part.head.tape;
  first = p.first;
  end = p.end;
  marks = p.marks;
  uses = p.part.head.uses;
  permanent = p.part.head.permanent;
}

-- a fragment on a tape: the tape's number, the number of the record that its head is, the head, and 1 where it ends its volume
pub record Lying : Type 0 where
  pub tape : ℕ
  pub at : ℕ
  pub head : VolHeadFields
  pub last : ℕ

-- a fragment that was found on the tape of this number, as it lies there
abbrev pub lying_as : ℕ → FoundFragment → Lying
lying_as tape f = record { tape = tape; at = f.at; head = f.fragment.head; last = f.fragment.end.last }

-- the fragments of a part as they lie, on the tape whose number the part's head tells
abbrev pub lying_in : FoundPart → List Lying
lying_in p = map (lying_as p.part.head.tape) (fragments_of p)

-- where a fragment lies: the number of its tape, and the number of the record on it that its head is
abbrev pub frag_of : Lying → Frag
frag_of l = record { tape = l.tape; at = l.at }

-- a volume has its first fragment's fields, and the places of all fragments of its index
abbrev pub volume_record : List Lying → Lying → VolRecordFields
volume_record all l = record {
  name = l.head.name;
  id = l.head.volume;
  server = l.head.server;
  partition = l.head.partition;
  clone = l.head.clone;
  from = l.head.from;
  frags = map frag_of (filter (λ m. m.head.index == l.head.index) all);
}

-- the records of a dump's volumes: one for each first fragment, in the order in which these lie
abbrev pub volume_records : List Lying → List VolRecordFields
volume_records all = map (volume_record all) (filter (λ l. l.head.fragment == 1) all)

-- the record of a dump with the fields of this head, and the tapes, volumes and fragments of these parts
abbrev pub record_with : DumpHeadFields → List FoundPart → DumpRecordFields
record_with h parts = record {
  id = h.id;
  initial = h.initial;
  parent = h.parent;
  expires = h.expires;
  set = h.set;
  level = h.level;
  base = h.base;
  tapes = map tape_part parts;
  volumes = volume_records (flat_map lying_in parts);
  cell = h.cell;
}

-- The record of a dump by its parts: its heads' fields, a place for each tape, and the volumes with the places of their fragments.
abbrev pub record_by : List FoundPart → Option DumpRecordFields
record_by [] = None
record_by (p ∷ ps) = Some (record_with p.part.head (p ∷ ps))
