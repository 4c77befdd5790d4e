-- What a copy for a backup volume is, or why there is none.
use Rattle.std.specs.Prelude.{ℕ, Result, Ok, Err}
use Rattle.cell_core.specs.declared.fault.CellFault.{CellFault}
use Rattle.cell_core.specs.declared.fault.CellFault.TheVariants.{BadImage}
use Rattle.cell_core.specs.declared.stored.Stored.{Stored}
use Rattle.cell_core.specs.declared.stored.Image.{Image}
use Rattle.cell_core.specs.declared.stored.Image.TheVariants.{Good, Bad}
use Rattle.cell_core.specs.Volumes.{with_backup_date}
use Rattle.cell_core.specs.Calls.{with_volume, backup_of}

-- the backup volume of an image, with this id and made now (seconds since 1970); `BadImage` of a bad one
abbrev pub copy_of_image : Image → Stored → ℕ → ℕ → Result Stored CellFault
copy_of_image (Good volume) s id now = Ok (backup_of s id now volume)
copy_of_image (Bad at) s id now = Err (BadImage at)

-- the backup volume of what is stored
abbrev pub copy_of : Stored → ℕ → ℕ → Result Stored CellFault
copy_of s id now = copy_of_image s.image s id now

-- what is stored, with now as its volume's backup date; a bad image stays as it is
abbrev pub image_with_date : Image → Stored → ℕ → Stored
image_with_date (Good volume) s now = with_volume s (with_backup_date now volume)
image_with_date (Bad at) s now = s

-- what is stored, with the backup date
abbrev pub stored_with_date : Stored → ℕ → Stored
stored_with_date s now = image_with_date s.image s now
