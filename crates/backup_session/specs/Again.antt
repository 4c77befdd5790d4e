-- Dumps that an archive has listed, on tapes that are scanned.
use Rattle.std.specs.Prelude.{◌≡◌, ◌⊎◌, ℕ, ◌<◌, true, List, [], ◌∷◌, ◌++◌, length, map, Some, slice_get, Contains, IsTrue}
use Rattle.budb_changes.specs.declared.records.TapePart.{TapePart}
use Rattle.budb_changes.specs.declared.records.DumpRecordFields.{DumpRecordFields}
use Rattle.budb_changes.specs.declared.change.Change.TheVariants as change
use Rattle.budb_changes.specs.Bytes.{encoded}
use Rattle.budb_fold.specs.Database.{after}
use Rattle.plant_core.specs.Stock.{Stock}
use Rattle.tape_scan.specs.Slots.{Slot, Located, IsFound}
use Rattle.tape_answers.specs.Slots.{slot_of}
use Rattle.archive_model.specs.Holding.{holds}
use Rattle.archive_model.specs.Archives.{Archive}
use Rattle.backup_session.specs.Worlds.{World, Turn}

-- The tapes that are here in a world are those of this stock, and the archive has their slots. Its log may be any.
abbrev pub HasTheseTapes : World → Stock → Archive → Type 0
HasTheseTapes w stock a = (k : ℕ) → IsTrue (w.setting.present k) → (stock.tape k ≡ w.state.tape k) × ((s : Slot) × (slice_get a.slots k ≡ Some s))

-- all tapes of a record are held on these slots
abbrev pub IsHeldOn : DumpRecordFields → List ℕ → List Slot → Type 0
IsHeldOn d slots all = (p : TapePart) → Contains d.tapes p → (k : ℕ) × (s : Slot) × Contains slots k × (slice_get all k ≡ Some s) × (holds d p.tape s.items ≡ true)

-- A dump is listed behind a turn, with this very record; but where the log has no room for the record of one that is found in these slots.
abbrev pub IsListedBehind : World → List ℕ → Turn → DumpRecordFields → Type 0
IsListedBehind w slots t d =
    Contains (after t.log).listed d
    ⊎ ((e : DumpRecordFields) × (parts : List Located) × IsFound (map (slot_of w.setting.present w.state.tape) slots) parts e × (268435456 < length (encoded (t.log ++ change.Found e ∷ []))))
