-- A cell: a list of stored volumes.
use Rattle.std.specs.Prelude.{◌≡◌, ℕ, ◌≤◌, ◌==◌, if◌then◌else◌, Option, Some, None, List, length, All, ⊤}
use Rattle.bk_text.specs.Bases.{base_of}
use Rattle.vnode_model.specs.declared.volumes.VolumeFields.{VolumeFields}
use Rattle.vnode_model.specs.Limits.{AreVolume}
use Rattle.cell_core.specs.declared.stored.Stored.{Stored}
use Rattle.cell_core.specs.declared.stored.Image.{Image}
use Rattle.cell_core.specs.declared.stored.Image.TheVariants.{Good, Bad}
use Rattle.cell_core.specs.declared.standing.Standing.{Standing}
use Rattle.cell_core.specs.declared.standing.Standing.TheVariants as standing
use Rattle.cell_core.specs.Orders.{AreAscending, of_key, placed, without_key}
use Rattle.cell_core.specs.Listings.{name_order, most_volumes, free_id, new_id}

-- ---- names

-- the name under which it is stored, by which the list is in order
abbrev pub name_of : Stored → List ℕ
name_of s = s.name

-- what stands under a name
abbrev pub stored_as : List ℕ → List Stored → Option Stored
stored_as name cell = of_key name_order name_of name cell

-- a cell with one more under its name, in place of the one that is there
abbrev pub with_stored : Stored → List Stored → List Stored
with_stored s cell = placed name_order name_of s cell

-- a cell without what stands under a name; the same list where nothing does
abbrev pub without_stored : List ℕ → List Stored → List Stored
without_stored name cell = without_key name_order name_of name cell

-- ---- the list

-- A good image is a volume, and its name is the volume's.
abbrev pub IsImageOf : List ℕ → Image → Type 0
IsImageOf name (Good volume) = (volume.header.name ≡ name) × AreVolume volume.vnodes
IsImageOf name (Bad at) = ⊤

-- in ascending byte order of the names, each name once, and not too many
pub record IsCell (cell : List Stored) : Type 0 where
  pub few : length cell ≤ most_volumes
  pub ordered : AreAscending name_order name_of cell
  pub images : All (λ s. IsImageOf s.name s.image) cell

-- ---- what the rules of lists ask

-- what the rules of lists ask of an image: a volume's id and type, or at which byte it is bad
abbrev pub standing_of_image : Image → Standing
standing_of_image (Good volume) = standing.Volume volume.header.id volume.header.kind
standing_of_image (Bad at) = standing.Bad at

-- what the rules of lists ask of what is stored: the standing of its image, whatever its server and partition
abbrev pub standing_of : Stored → Standing
standing_of s = standing_of_image s.image

-- the id of the next new volume, where one is free
abbrev pub free_id_in : List Stored → Option ℕ
free_id_in cell = free_id standing_of cell

-- the same, where a volume is free too
abbrev pub id_for_new : List Stored → Option ℕ
id_for_new cell = new_id standing_of cell

-- ---- born

-- the creation date of a read/write volume; else 4,294,967,295
abbrev pub birth_of_image : Image → ℕ
birth_of_image (Good volume) = if volume.header.kind == 0 then volume.header.created else 4294967295
birth_of_image (Bad at) = 4294967295

-- when the read/write volume that stands here was created (seconds since 1970); 4,294,967,295 where none does
abbrev pub birth_of : Option Stored → ℕ
birth_of (Some s) = birth_of_image s.image
birth_of None = 4294967295

-- A read/write volume was born at its creation date, and any other one at that of the read/write volume of its base name.
abbrev pub born : List Stored → VolumeFields → ℕ
born cell volume = if volume.header.kind == 0 then volume.header.created else birth_of (stored_as (base_of volume.header.name) cell)
