-- TAPES THAT OUTLIVE THEIR JOURNAL, in terms of archives.
use Rattle.std.specs.Prelude.{◌≡◌, ◌⊎◌, ℕ, false, List, [], Some, slice_get, Contains}
use Rattle.budb_changes.specs.declared.records.DumpRecordFields.{DumpRecordFields}
use Rattle.tape_scan.specs.Slots.{Slot}
use Rattle.archive_model.specs.Archives.{Archive, Need, listed_of, is_missing, IsDump}

-- an archive's journal lists dumps of another archive alone, be they listed there or found whole on its tapes
abbrev pub ListsDumpsOf : Archive → Archive → Type 0
ListsDumpsOf a b = (d : DumpRecordFields) → Contains (listed_of b) d → IsDump (listed_of a) a.slots d

-- An archive's slots have tapes of another one, in whichever slots: each is blank or has the tape of some slot there, and no two have the tape
-- of the same one.
pub record HasItsTapes (a b : Archive) : Type 0 where
  pub place : ℕ → ℕ
  pub tapes : (k : ℕ) (s : Slot) → slice_get b.slots k ≡ Some s → (s.items ≡ []) ⊎ ((t : Slot) × (slice_get a.slots (place k) ≡ Some t) × (s.items ≡ t.items))
  pub once : (j k : ℕ) (s t : Slot) → slice_get b.slots j ≡ Some s → slice_get b.slots k ≡ Some t → (s.items ≡ [] → ⊥) → (t.items ≡ [] → ⊥) → place j ≡ place k → j ≡ k

-- and each dump of the other archive has in it what it had there
abbrev pub HasItsContents : Archive → Archive → Type 0
HasItsContents a b = (d : DumpRecordFields) (name : List ℕ) → IsDump (listed_of a) a.slots d → b.contents d.id name ≡ a.contents d.id name

-- ---- archives that list the same

-- both list the same dumps, in whatever order
pub record ListSame (a b : Archive) : Type 0 where
  pub again : (d : DumpRecordFields) → Contains (listed_of a) d → Contains (listed_of b) d
  pub others : (d : DumpRecordFields) → Contains (listed_of b) d → Contains (listed_of a) d

-- a tape of a listed dump that is here in the first one's slots is here in the other's
abbrev pub AreHereToo : Archive → Archive → Type 0
AreHereToo a b = (n : Need) → Contains (listed_of a) n.dump → is_missing a.slots n ≡ false → is_missing b.slots n ≡ false
