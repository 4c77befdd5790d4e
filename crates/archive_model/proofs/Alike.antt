-- Tapes that begin as they were, and what is left of tapes.
use Rattle.std.specs.Prelude.{◌≡◌, ◌⊎◌, ℕ, ◌≤◌, true, Some, List, [], ◌∷◌, ◌++◌, length, take, slice_get, Contains}
use Rattle.budb_changes.specs.declared.records.TapePart.{TapePart}
use Rattle.budb_changes.specs.declared.records.DumpRecordFields.{DumpRecordFields}
use Rattle.tape_text.specs.Items.{Item, Nothing}
use Rattle.tape_scan.specs.Slots.{Slot}
use Rattle.archive_model.specs.Holding.{place_of, holds, HasNoHead}

-- A tape, and what it was: they begin alike; behind that items are gone, and others have come, none of which is a head of one of
-- these dumps; and what it holds of these dumps ends where they are alike.
pub record IsAlike (records : List DumpRecordFields) (slots : List Slot) (k : ℕ) (new : List Item) : Type 0 where
  pub here : Slot
  pub at : slice_get slots k ≡ Some here
  pub common : List Item
  pub gone : List Item
  pub more : List Item
  pub old_is : here.items ≡ common ++ gone
  pub new_is : new ≡ common ++ more
  pub heads : (d : DumpRecordFields) → Contains records d → HasNoHead d.id more
  pub ends : (d : DumpRecordFields) (tape : ℕ) (p : TapePart) → Contains records d → place_of d tape ≡ Some p → holds d tape new ≡ true → p.end ≤ length common

-- each tape begins as it was
abbrev pub AreAlike : List DumpRecordFields → List Slot → List Slot → Type 0
AreAlike records slots slots2 = (k : ℕ) (s : Slot) → slice_get slots2 k ≡ Some s → IsAlike records slots k s.items

-- What a cut, or a crash, leaves of a tape: a front of its items, perhaps with one behind that says nothing. What is held of listed
-- dumps ends in that front.
pub record IsLeftAt (listed : List DumpRecordFields) (slots : List Slot) (k : ℕ) (new : List Item) : Type 0 where
  pub here : Slot
  pub at : slice_get slots k ≡ Some here
  pub count : ℕ
  pub rest : List Item
  pub torn : (rest ≡ []) ⊎ (rest ≡ Nothing ∷ [])
  pub is : new ≡ take count here.items ++ rest
  pub ends : (d : DumpRecordFields) (tape : ℕ) (p : TapePart) → Contains listed d → place_of d tape ≡ Some p → holds d tape new ≡ true → p.end ≤ length (take count here.items)

abbrev pub AreLeft : List DumpRecordFields → List Slot → List Slot → Type 0
AreLeft listed slots slots2 = (k : ℕ) (s : Slot) → slice_get slots2 k ≡ Some s → IsLeftAt listed slots k s.items
