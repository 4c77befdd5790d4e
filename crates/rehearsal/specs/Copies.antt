-- Which restored volumes are as the volumes that they were dumped from.
use Rattle.std.specs.Prelude.{◌≡◌, ℕ, ◌+◌, Bool, true, false, ◌&&◌, ◌==◌, if◌then◌else◌, List, length, find, slice_get, Option, Some, None}
use Rattle.std.specs.List.{filter, sum_by}
use Rattle.std.specs.Cmp.Lexicographic.{pointwise}
use Rattle.bk_text.specs.Blanks.{is_same_text}
use Rattle.vnode_model.specs.declared.vnodes.VnodeKind.{VnodeKind}
use Rattle.vnode_model.specs.declared.vnodes.VnodeKind.TheVariants.{File, Directory, Symlink}
use Rattle.vnode_model.specs.declared.vnodes.Vnode.{Vnode}
use Rattle.vnode_model.specs.declared.volumes.VolumeFields.{VolumeFields}
use Rattle.cell_core.specs.declared.stored.Stored.{Stored}
use Rattle.cell_core.specs.declared.stored.Image.{Image}
use Rattle.cell_core.specs.declared.stored.Image.TheVariants.{Good, Bad}
use Rattle.cell_core.specs.Calls.{is_good_image}
use Rattle.rehearsal.specs.declared.copies.Copies.{Copies}
use Rattle.rehearsal.specs.Names.{volumes, volume_name, copy_name}

-- ---- the same vnodes

-- two vnodes of one type
abbrev pub is_same_kind : VnodeKind → VnodeKind → Bool
is_same_kind File File = true
is_same_kind File Directory = false
is_same_kind File Symlink = false
is_same_kind Directory File = false
is_same_kind Directory Directory = true
is_same_kind Directory Symlink = false
is_same_kind Symlink File = false
is_same_kind Symlink Directory = false
is_same_kind Symlink Symlink = true

-- in all fields, the data among them
abbrev pub is_same_vnode : Vnode → Vnode → Bool
is_same_vnode a b =
    (a.number == b.number) && ((a.uniq == b.uniq) && (is_same_kind a.kind b.kind && ((a.links == b.links) && ((a.data_version == b.data_version) && ((a.modified == b.modified)
    && ((a.author == b.author) && ((a.owner == b.owner) && ((a.group == b.group) && ((a.mode == b.mode) && ((a.parent == b.parent) && ((a.server_modified == b.server_modified)
    && (is_same_text a.access b.access && is_same_text a.body b.body))))))))))))

-- two lists of the same vnodes, one by one
abbrev pub are_same : List Vnode → List Vnode → Bool
are_same = pointwise is_same_vnode

-- ---- in a cell

-- the volume of an image that is good
abbrev pub volume_in : Image → Option VolumeFields
volume_in (Good volume) = Some volume
volume_in (Bad at) = None

-- the same of a stored volume, where there is one
abbrev pub volume_of : Option Stored → Option VolumeFields
volume_of None = None
volume_of (Some s) = volume_in s.image

-- the volume under a name
abbrev pub volume_under : List ℕ → List Stored → Option VolumeFields
volume_under name cell = volume_of (find (λ s. is_same_text s.name name) cell)

-- two volumes that are there, with the same vnodes
abbrev pub are_equal : Option VolumeFields → Option VolumeFields → Bool
are_equal None b = false
are_equal (Some a) None = false
are_equal (Some a) (Some b) = are_same a.vnodes b.vnodes

-- a volume was restored as it is
abbrev pub is_restored_equal : List Stored → ℕ → Bool
is_restored_equal cell k = are_equal (volume_under (volume_name k) cell) (volume_under (copy_name k) cell)

-- ---- their data

-- how many bytes of data vnodes have, and a volume
abbrev pub bytes_in : List Vnode → ℕ
bytes_in vnodes = sum_by (λ v. length v.body) vnodes

-- how many bytes of data a volume has; 0 where there is none
abbrev pub data_of : Option VolumeFields → ℕ
data_of None = 0
data_of (Some volume) = bytes_in volume.vnodes

-- the restored volumes that are equal, and the bytes of their data
abbrev pub equal_copies : List Stored → ℕ → List ℕ
equal_copies cell n = filter (is_restored_equal cell) (volumes n)

-- how many bytes of data the equal copies have together
abbrev pub copied_data : List Stored → ℕ → ℕ
copied_data cell n = sum_by (λ k. data_of (volume_under (copy_name k) cell)) (equal_copies cell n)

-- ---- inside the crate

-- where a volume stands that is found under a name
pub record IsPlace (name : List ℕ) (cell : List Stored) (i : ℕ) : Type 0 where
  pub stored : Stored
  pub at : slice_get cell i ≡ Some stored
  pub good : is_good_image stored.image ≡ true
  pub found : find (λ s. is_same_text s.name name) cell ≡ Some stored

-- a good volume stands under a name at a place, or none does
abbrev pub StandsAt : List ℕ → List Stored → Option ℕ → Type 0
StandsAt name cell None = volume_under name cell ≡ None
StandsAt name cell (Some i) = IsPlace name cell i

-- the data of a copy that is equal to its source
abbrev pub data_beside : Option VolumeFields → Option VolumeFields → Option ℕ
data_beside source copy = if are_equal source copy then Some (data_of copy) else None

-- the data of a restored volume
abbrev pub data_at : List Stored → ℕ → Option ℕ
data_at cell k = data_beside (volume_under (volume_name k) cell) (volume_under (copy_name k) cell)

-- one more copy, where it is equal
abbrev pub with_data : Copies → Option ℕ → Copies
with_data c None = c
with_data c (Some bytes) = record { equal = c.equal + 1; bytes = c.bytes + bytes }

-- all of the first so many
abbrev pub counted : List Stored → ℕ → Copies
counted cell n = record { equal = length (equal_copies cell n); bytes = copied_data cell n }
