-- Where a restored volume goes, and as what: the rules of this project.
use Rattle.std.specs.Prelude.{ℕ, ◌++◌, List, [], if◌then◌else◌, Option, Some, None, Result, Ok, Err}
use Rattle.std.specs.Option.{unwrap_or}
use Rattle.bk_text.specs.Bases.{base_of}
use Rattle.bk_text.specs.Tests.{name_test}
use Rattle.vnode_model.specs.declared.volumes.VolumeFields.{VolumeFields}
use Rattle.cell_core.specs.declared.fault.CellFault.{CellFault}
use Rattle.cell_core.specs.declared.fault.CellFault.TheVariants.{TooLarge, BadImage}
use Rattle.cell_core.specs.declared.stored.Stored.{Stored}
use Rattle.cell_core.specs.declared.standing.Standing.{Standing}
use Rattle.cell_core.specs.declared.standing.Standing.TheVariants as standing
use Rattle.cell_core.specs.Cells.{with_stored, stored_as, standing_of, id_for_new}
use Rattle.cell_core.specs.Calls.{stored_volume}

-- the base name of a volume with an extension, where there is one
abbrev pub target_text : List ℕ → Option (List ℕ) → List ℕ
target_text name extension = base_of name ++ unwrap_or extension []

-- ---- the id

-- how the volume under a name stands, where there is one
abbrev pub standing_there : Option Stored → Option Standing
standing_there None = None
standing_there (Some s) = Some (standing_of s)

-- the id of the volume that has the name, else a new one; a bad image is in the way, and so is a cell that is full
abbrev pub id_over : Option Standing → Option ℕ → Result ℕ CellFault
id_over None None = Err TooLarge
id_over None (Some id) = Ok id
id_over (Some (standing.Volume id kind)) new = Ok id
id_over (Some (standing.Bad at)) new = Err (BadImage at)

-- the id that a volume gets under this name in this cell
abbrev pub id_at : List Stored → List ℕ → Result ℕ CellFault
id_at cell name = id_over (standing_there (stored_as name cell)) (id_for_new cell)

-- A text that is no name is no volume's: a base name with an extension is none where it has more than 31 bytes.
abbrev pub target_id : List Stored → List ℕ → Result ℕ CellFault
target_id cell name = if name_test name then id_at cell name else Err TooLarge

-- ---- the volume

-- it gets the name and the id, is read/write, and was made now
abbrev pub restored_as : List ℕ → ℕ → ℕ → VolumeFields → VolumeFields
restored_as name id now volume = record volume { header = record volume.header { id = id; name = name; kind = 0; created = now } }

-- the list with the volume in place of one that had the name; or the fault that its id is refused by
abbrev pub put_with : List Stored → List ℕ → List ℕ → List ℕ → ℕ → VolumeFields → Result ℕ CellFault → Result (List Stored) CellFault
put_with cell server partition name now volume (Ok id) = Ok (with_stored (stored_volume server partition (restored_as name id now volume)) cell)
put_with cell server partition name now volume (Err fault) = Err fault

-- The list behind a restore of a volume under a name: the volume stands there, in place of one that had the name.
abbrev pub after_restore : List Stored → List ℕ → List ℕ → List ℕ → ℕ → VolumeFields → Result (List Stored) CellFault
after_restore cell server partition name now volume = put_with cell server partition name now volume (target_id cell name)
