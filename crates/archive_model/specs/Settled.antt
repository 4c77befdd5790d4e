-- When a plant's state holds an archive with what is settled of it, and archives that are held while effects come.
use Rattle.std.specs.Prelude.{◌≡◌, ℕ, ◌≤◌, true, Some, List, [], ◌∷◌, ◌++◌, length, slice_get, Contains}
use Rattle.budb_changes.specs.declared.records.TapePart.{TapePart}
use Rattle.budb_changes.specs.declared.records.DumpRecordFields.{DumpRecordFields}
use Rattle.plant_core.specs.Crashes.{State, seen_in}
use Rattle.plant_core.specs.Effects.{Effect, comes}
use Rattle.tape_text.specs.Items.{Item}
use Rattle.tape_scan.specs.Slots.{Slot}
use Rattle.archive_model.specs.Holding.{place_of, holds}
use Rattle.archive_model.specs.Archives.{Archive, listed_of, Holds}
use Rattle.archive_model.specs.Turns.{with_slot}

-- wherever a dump is held it lies settled
abbrev pub IsSettledOn : State → List Slot → DumpRecordFields → Type 0
IsSettledOn s slots d = (k : ℕ) (t : Slot) (tape : ℕ) (p : TapePart) → slice_get slots k ≡ Some t → place_of d tape ≡ Some p → holds d tape t.items ≡ true → p.end ≤ s.settled k

-- What reads give holds the archive, the log is settled, and so is what is held of each listed dump.
pub record HoldsSettled (s : State) (a : Archive) (records : List DumpRecordFields) : Type 0 where
  pub seen : Holds (seen_in s) a records
  pub log : s.log_settled ≡ length s.log
  pub settled : (k : ℕ) (t : Slot) (d : DumpRecordFields) (tape : ℕ) (p : TapePart) → slice_get a.slots k ≡ Some t → Contains (listed_of a) d → place_of d tape ≡ Some p → holds d tape t.items ≡ true → p.end ≤ s.settled k

-- an archive, and the records of its dumps
pub record Kept : Type 0 where
  pub archive : Archive
  pub records : List DumpRecordFields

-- One after the other, before the first effect and after each, these archives are held settled.
abbrev pub AreHeld : State → List Effect → List Kept → Type 0
AreHeld s [] [] = ⊥
AreHeld s [] (a ∷ []) = HoldsSettled s a.archive a.records
AreHeld s [] (a ∷ b ∷ more) = ⊥
AreHeld s (e ∷ es) [] = ⊥
AreHeld s (e ∷ es) (a ∷ more) = HoldsSettled s a.archive a.records × AreHeld (comes e s) es more

-- archives with more and more items on a slot
abbrev pub growing : Archive → List DumpRecordFields → ℕ → List Item → List Item → List Kept
growing a records k items [] = record { archive = with_slot a k items; records = records } ∷ []
growing a records k items (i ∷ is) = record { archive = with_slot a k items; records = records } ∷ growing a records k (items ++ i ∷ []) is
