-- The record of a dump by what scans tell of its parts, and the parts that are left over.
use Rattle.std.specs.Prelude.{◌≡◌, ℕ, ◌<◌, Bool, true, false, Option, Some, None, List, [], ◌∷◌, map, All, AllPairs, Contains}
use Rattle.std.specs.Option.{unwrap_or}
use Rattle.std.specs.List.{flat_map}
use Rattle.budb_changes.specs.declared.records.TapePart.{TapePart}
use Rattle.budb_changes.specs.declared.records.DumpRecordFields.{DumpRecordFields}
use Rattle.tape_text.specs.Wholes.{Lying, volume_records}
use Rattle.tape_scan.specs.declared.sections.FragFound.{FragFound}
use Rattle.tape_scan.specs.declared.sections.PartFound.{PartFound}
use Rattle.tape_scan.specs.declared.assembling_chains.Chain.{Chain}
use Rattle.tape_scan.specs.declared.assembling.PartId.{PartId}
use Rattle.tape_scan.specs.AssembledSteps.{Stands}

-- what a dump's record keeps of a told part: its tape, its first record and the one behind it, filemarks and uses
abbrev pub told_tape : PartFound → TapePart
told_tape p = record {
  tape = p.head.tape;
  first = p.first;
  end = unwrap_or p.end 0;
  marks = p.marks;
  uses = p.head.uses;
  permanent = p.head.permanent;
}

-- 1 where a fragment is told to end its volume
abbrev pub told_last : Option Bool → ℕ
told_last None = 0
told_last (Some false) = 0
told_last (Some true) = 1

-- a told fragment on the tape of this number: the record that its head is, the head, and 1 where it ends its volume
abbrev pub told_lying : ℕ → FragFound → Lying
told_lying tape f = record { tape = tape; at = f.at; head = f.head; last = told_last f.last }

-- the told fragments of a part, in order, each with the number of the part's tape
abbrev pub told_lying_in : PartFound → List Lying
told_lying_in p = map (told_lying p.head.tape) p.frags

-- what lies of all parts
abbrev pub all_lying : List PartFound → List Lying
all_lying parts = flat_map told_lying_in parts

-- the record of a dump: its fields by the head of this part, its tapes and volumes by all these parts
abbrev pub told_record_with : PartFound → List PartFound → DumpRecordFields
told_record_with p parts = record {
  id = p.head.id;
  initial = p.head.initial;
  parent = p.head.parent;
  expires = p.head.expires;
  set = p.head.set;
  level = p.head.level;
  base = p.head.base;
  tapes = map told_tape parts;
  volumes = volume_records (all_lying parts);
  cell = p.head.cell;
}

-- the record of a dump by its parts, as they are told
abbrev pub told_record : List PartFound → Option DumpRecordFields
told_record [] = None
told_record (p ∷ ps) = Some (told_record_with p (p ∷ ps))

-- at these places of the list are these
abbrev pub ArePlaced : List PartFound → List ℕ → List PartFound → Type 0
ArePlaced all [] [] = Unit {0}
ArePlaced all (k ∷ ks) (p ∷ ps) = Stands all k p × ArePlaced all ks ps
ArePlaced all [] (p ∷ ps) = ⊥
ArePlaced all (k ∷ ks) [] = ⊥

-- the record of the dump that has its parts at these places
abbrev pub IsRecordAt : List PartFound → List ℕ → DumpRecordFields → Type 0
IsRecordAt all places d = (parts : List PartFound) × ArePlaced all places parts × (told_record parts ≡ Some d)

-- one for each way
abbrev pub AreRecords : List PartFound → List Chain → List DumpRecordFields → Type 0
AreRecords all [] [] = Unit {0}
AreRecords all (c ∷ cs) (d ∷ ds) = IsRecordAt all c.places d × AreRecords all cs ds
AreRecords all [] (d ∷ ds) = ⊥
AreRecords all (c ∷ cs) [] = ⊥

-- some way has this place
abbrev pub IsOnWay : List Chain → ℕ → Type 0
IsOnWay chains k = (c : Chain) × Contains chains c × Contains c.places k

-- by what a part left over is told: the id of its dump and the number of its tape in the dump set
abbrev pub told_id : PartFound → PartId
told_id p = record { id = p.head.id; tape = p.head.tape }

-- of the first so many parts those at these places are on no way, in order, and these are their ids
pub record AreLeft (all : List PartFound) (chains : List Chain) (count : ℕ) (ids : List PartId) : Type 0 where
  pub places : List ℕ
  pub parts : List PartFound
  pub placed : ArePlaced all places parts
  pub each : All (λ k. (k < count) × (IsOnWay chains k → ⊥)) places
  pub complete : (k : ℕ) → k < count → (IsOnWay chains k → ⊥) → Contains places k
  pub ascending : AllPairs (λ j k. j < k) places
  pub ids_are : ids ≡ map told_id parts
