-- TAPES THAT ARE LOADED FOR NOTHING: those that have the label of a tape and don't hold it.
use Rattle.std.specs.Prelude.{ℕ, ◌+◌, Bool, not, ◌&&◌, is_some, if◌then◌else◌, List, [], ◌∷◌, slice_get}
use Rattle.budb_changes.specs.declared.records.DumpRecordFields.{DumpRecordFields}
use Rattle.tape_scan.specs.Slots.{Slot}
use Rattle.archive_model.specs.Archives.{Need}
use Rattle.archive_model.specs.Holding.{is_label_frame, is_so, holds, holder_here}

-- the slot is here, and its label has the initial id and the number of the tape
abbrev pub is_labelled : DumpRecordFields → ℕ → Slot → Bool
is_labelled d tape s = s.here && is_so (is_label_frame d.initial tape) (slice_get s.items 0)

-- and it doesn't hold the tape for the record
abbrev pub is_stray : DumpRecordFields → ℕ → Slot → Bool
is_stray d tape s = is_labelled d tape s && not (holds d tape s.items)

-- one load where this is so, else none
abbrev pub load_if : Bool → ℕ
load_if b = if b then 1 else 0

-- how many slots have the label of a tape and don't hold it
abbrev pub strays : DumpRecordFields → ℕ → List Slot → ℕ
strays d tape [] = 0
strays d tape (s ∷ slots) = load_if (is_stray d tape s) + strays d tape slots

-- The most loads that finding a tape takes: one for each that is loaded for nothing, and one for the slot that holds it.
abbrev pub loads_for : List Slot → Need → ℕ
loads_for slots n = strays n.dump n.tape slots + load_if (is_some (holder_here n.dump n.tape slots))
