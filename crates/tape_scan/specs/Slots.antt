-- What scans of several tapes find: parts on slots, and the dumps that are whole over them.
use Rattle.std.specs.Prelude.{◌≡◌, ℕ, Bool, List, map, slice_get, Some, All}
use Rattle.budb_changes.specs.declared.records.DumpRecordFields.{DumpRecordFields}
use Rattle.tape_text.specs.Items.{Item}
use Rattle.tape_text.specs.Parts.{FoundPart}
use Rattle.tape_text.specs.Wholes.{IsWhole, record_by}
use Rattle.tape_scan.specs.Scans.{IsClosedIn, IsBegunIn}

-- a slot: whether it is here, and what the records of its tape say, told also where it isn't here
pub record Slot : Type 0 where
  pub here : Bool
  pub items : List Item

-- a part on some slot
pub record Located : Type 0 where
  pub slot : ℕ
  pub found : FoundPart

-- a part stands on the tape in its slot, one of these, up to its last filemark, in a front that is a whole tape
pub record IsClosedAt (slots : List Slot) (l : Located) : Type 0 where
  pub here : Slot
  pub at : slice_get slots l.slot ≡ Some here
  pub closed : IsClosedIn here.items l.found

-- a part's head stands on the tape in its slot, one of these, in a front that is a tape text
pub record IsBegunAt (slots : List Slot) (l : Located) : Type 0 where
  pub here : Slot
  pub at : slice_get slots l.slot ≡ Some here
  pub begun : IsBegunIn here.items l.found

-- closed parts on these slots that are a whole dump of this record
pub record IsFound (slots : List Slot) (parts : List Located) (d : DumpRecordFields) : Type 0 where
  pub closed : All (IsClosedAt slots) parts
  pub whole : IsWhole (map (λ l. l.found.part) parts)
  pub record_is : record_by (map (λ l. l.found) parts) ≡ Some d

-- no two heads that stand in fronts agree in id and part
abbrev pub AreHeadsOnce : List Slot → Type 0
AreHeadsOnce slots =
    (l m : Located) → IsBegunAt slots l → IsBegunAt slots m → l.found.part.head.id ≡ m.found.part.head.id → l.found.part.head.part ≡ m.found.part.head.part
    → (l.slot ≡ m.slot) × (l.found.first ≡ m.found.first)
