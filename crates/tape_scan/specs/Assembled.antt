-- What an assembly of several scans stands on, and what it tells of a part that is left over.
use Rattle.std.specs.Prelude.{List, [], ◌∷◌}
use Rattle.tape_scan.specs.declared.sections.Sections.{Sections}
use Rattle.tape_scan.specs.declared.assembling.PartId.{PartId}
use Rattle.tape_scan.specs.Sections.{IsScanOf}
use Rattle.tape_scan.specs.Slots.{Slot, Located}

-- The sections are what scans tell of the tapes in these slots, one by one. A slot's place in the list is its number in `Located`;
-- the number that its sections bear may be any.
abbrev pub AreScans : List Slot → List Sections → Type 0
AreScans [] [] = Unit {0}
AreScans (s ∷ ss) (t ∷ ts) = IsScanOf t.slot s.items t × AreScans ss ts
AreScans [] (t ∷ ts) = ⊥
AreScans (s ∷ ss) [] = ⊥

-- the dump and the tape of a part
abbrev pub part_id : Located → PartId
part_id l = record { id = l.found.part.head.id; tape = l.found.part.head.tape }
