-- What a scan of several tapes gives: the whole dumps by ascending id, and the parts that are left over.
use Rattle.std.specs.Prelude.{◌≡◌, ◌⊎◌, ℕ, ◌<◌, List, [], ◌∷◌, All, AllPairs, Contains}
use Rattle.tape_frames.specs.declared.dump_head.DumpHeadFields.{DumpHeadFields}
use Rattle.budb_changes.specs.declared.records.DumpRecordFields.{DumpRecordFields}
use Rattle.tape_scan.specs.Slots.{Slot, Located, IsBegunAt, IsFound}

-- one part stands before another: on an earlier slot, or on the same one at an earlier record
abbrev pub IsEarlier : Located → Located → Type 0
IsEarlier l m = (l.slot < m.slot) ⊎ ((l.slot ≡ m.slot) × (l.found.first < m.found.first))

-- they stand at one place
abbrev pub IsSame : Located → Located → Type 0
IsSame l m = (l.slot ≡ m.slot) × (l.found.first ≡ m.found.first)

-- one list of parts goes before another: at the first place where they differ it has the earlier part
abbrev pub Precedes : List Located → List Located → Type 0
Precedes [] ms = ⊥
Precedes (l ∷ ls) [] = ⊥
Precedes (l ∷ ls) (m ∷ ms) = IsEarlier l m ⊎ (IsSame l m × Precedes ls ms)

-- where several lists of parts would do for a dump, the first of them is taken
pub record IsChosen (slots : List Slot) (parts : List Located) (d : DumpRecordFields) : Type 0 where
  pub found : IsFound slots parts d
  pub first : (others : List Located) (e : DumpRecordFields) → IsFound slots others e → e.id ≡ d.id → Precedes others parts → ⊥

-- a part is one of a chosen dump's
abbrev pub IsTaken : List Slot → Located → Type 0
IsTaken slots l = (parts : List Located) × (d : DumpRecordFields) × IsChosen slots parts d × (m : Located) × Contains parts m × IsSame l m

-- where a part's head stands, and what it says
pub record Place : Type 0 where
  pub slot : ℕ
  pub first : ℕ
  pub head : DumpHeadFields

-- the place of a part: its slot, the number of the record that its head is, and the head
abbrev pub place_of : Located → Place
place_of l = record { slot = l.slot; first = l.found.first; head = l.found.part.head }

-- The whole dumps, of each id one, ascending by id. Left over is every other part whose head stands in a front, in order of slots,
-- then of records; of a part that isn't closed the place and the head alone are told.
pub record Scanned (slots : List Slot) (whole : List DumpRecordFields) (left : List Located) : Type 0 where
  pub each : All (λ d. (parts : List Located) × IsChosen slots parts d) whole
  pub complete : (parts : List Located) (d : DumpRecordFields) → IsFound slots parts d → (e : DumpRecordFields) × Contains whole e × (e.id ≡ d.id)
  pub ascending : AllPairs (λ d e. d.id < e.id) whole
  pub left_over : (l : Located) → Contains left l → IsBegunAt slots l × (IsTaken slots l → ⊥)
  pub all_left : (l : Located) → IsBegunAt slots l → (IsTaken slots l → ⊥) → (m : Located) × Contains left m × IsSame l m
  pub in_order : AllPairs IsEarlier left
