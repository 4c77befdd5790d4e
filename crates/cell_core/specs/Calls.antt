-- What each call makes of a cell: the list after it, or the refusal, at which the list stays. Where several refusals hold,
-- the order is NoVolume, VolumeExists, NoVnode, TooLarge, BadImage; but `write` finds a bad image before it looks at sizes.
use Rattle.std.specs.Prelude.{ℕ, ◌==◌, nat_lt, Bool, true, false, if◌then◌else◌, Option, Some, None, is_none, slice_get, Result, Ok, Err, List, length}
use Rattle.vnode_model.specs.declared.volumes.VolumeFields.{VolumeFields}
use Rattle.vnode_model.specs.declared.listed.VolEntry.{VolEntry}
use Rattle.vnode_model.specs.declared.listed.EntryState.{EntryState}
use Rattle.vnode_model.specs.declared.listed.EntryState.TheVariants as state
use Rattle.vnode_model.specs.Volumes.{latest_of}
use Rattle.cell_core.specs.declared.fault.CellFault.{CellFault}
use Rattle.cell_core.specs.declared.fault.CellFault.TheVariants.{NoVolume, VolumeExists, TooLarge, BadImage}
use Rattle.cell_core.specs.declared.stored.Stored.{Stored}
use Rattle.cell_core.specs.declared.stored.Image.{Image}
use Rattle.cell_core.specs.declared.stored.Image.TheVariants.{Good, Bad}
use Rattle.cell_core.specs.declared.stored.Taken.{Taken}
use Rattle.cell_core.specs.Volumes.{new_volume, written_volume, volume_without, backup_name, backup_copy, with_backup_date}
use Rattle.cell_core.specs.Listings.{backup_id_where, has_kind}
use Rattle.cell_core.specs.Cells.{standing_of, stored_as, with_stored, without_stored, id_for_new, born}

-- ---- looking

-- what is told of an image
abbrev pub state_of : Image → EntryState
state_of (Good volume) = state.Good volume.header.id volume.header.kind (latest_of volume)
state_of (Bad at) = state.Bad at

-- what is told of what is stored: its name, its server and partition, and what its image is
abbrev pub entry_of_stored : Stored → VolEntry
entry_of_stored s = record { name = s.name; server = s.server; partition = s.partition; state = state_of s.image }

-- what is told of what may be stored; `None` where nothing is
abbrev pub entry_of : Option Stored → Option VolEntry
entry_of (Some s) = Some (entry_of_stored s)
entry_of None = None

-- what is told of the one at this index of the list, counted from 0; `None` past its end
abbrev pub entry_at : List Stored → ℕ → Option VolEntry
entry_at cell i = entry_of (slice_get cell i)

-- The clone time of a read/write volume is now, and that of any other one its creation date.
abbrev pub clone_time : VolumeFields → ℕ → ℕ
clone_time volume now = if volume.header.kind == 0 then now else volume.header.created

-- the clone of an image of this cell, taken now (seconds since 1970); `None` of a bad one
abbrev pub clone_of_image : List Stored → Image → ℕ → Option Taken
clone_of_image cell (Good volume) now = Some (record { time = clone_time volume now; born = born cell volume; volume = volume })
clone_of_image cell (Bad at) now = None

-- the clone of what may be stored in this cell, taken now; `None` where nothing is, or a bad image
abbrev pub clone_of : List Stored → Option Stored → ℕ → Option Taken
clone_of cell (Some s) now = clone_of_image cell s.image now
clone_of cell None now = None

-- a clone of one of the list
abbrev pub clone_at : List Stored → ℕ → ℕ → Option Taken
clone_at cell i now = clone_of cell (slice_get cell i) now

-- an entry is a good one
abbrev pub is_good_image : Image → Bool
is_good_image (Good volume) = true
is_good_image (Bad at) = false

-- something is stored, and its image is a volume
abbrev pub is_good : Option Stored → Bool
is_good (Some s) = is_good_image s.image
is_good None = false

-- ---- new names

-- a new volume, with its id
pub record Creation : Type 0 where
  pub id : ℕ
  pub list : List Stored

-- a new volume with this id, and the list with it under its name; `TooLarge` without an id
abbrev pub creation_with : Option ℕ → List Stored → List ℕ → List ℕ → List ℕ → ℕ → Result Creation CellFault
creation_with (Some id) cell server partition name now = Ok (record {
  id = id;
  list = with_stored (record { name = name; server = server; partition = partition; image = Good (new_volume id name now) }) cell;
})
creation_with None cell server partition name now = Err TooLarge

-- the new volume of a name under which this stands: `VolumeExists` where anything does, and `TooLarge` where no
-- volume or no id is free
abbrev pub creation_where : Option Stored → List Stored → List ℕ → List ℕ → List ℕ → ℕ → Result Creation CellFault
creation_where (Some s) cell server partition name now = Err VolumeExists
creation_where None cell server partition name now = creation_with (id_for_new cell) cell server partition name now

-- a read/write volume is made under a new name
abbrev pub after_create : List Stored → List ℕ → List ℕ → List ℕ → ℕ → Result Creation CellFault
after_create cell server partition name now = creation_where (stored_as name cell) cell server partition name now

-- a volume that is handed in stands under its name
abbrev pub stored_volume : List ℕ → List ℕ → VolumeFields → Stored
stored_volume server partition volume = record { name = volume.header.name; server = server; partition = partition; image = Good volume }

-- the list with a volume in place of this image, which stands under its name; a bad one refuses with `BadImage`
abbrev pub put_over : Image → List Stored → Stored → Result (List Stored) CellFault
put_over (Good old) cell s = Ok (with_stored s cell)
put_over (Bad at) cell s = Err (BadImage at)

-- the list with a volume under its name, where this stands: a bad image refuses, and a new name where no volume or no
-- id is free
abbrev pub put_where : Option Stored → List Stored → Stored → Result (List Stored) CellFault
put_where (Some old) cell s = put_over old.image cell s
put_where None cell s = if is_none (id_for_new cell) then Err TooLarge else Ok (with_stored s cell)

-- a volume stands under its name from now on
abbrev pub after_put : List Stored → List ℕ → List ℕ → VolumeFields → Result (List Stored) CellFault
after_put cell server partition volume = put_where (stored_as volume.header.name cell) cell (stored_volume server partition volume)

-- ---- changes of a read/write volume

-- the same volume, with another image
abbrev pub with_volume : Stored → VolumeFields → Stored
with_volume s volume = record s { image = Good volume }

-- what is stored, with the volume that a change gave as its image; or the fault that it gave
abbrev pub with_outcome : Stored → Result VolumeFields CellFault → Result Stored CellFault
with_outcome s (Ok volume) = Ok (with_volume s volume)
with_outcome s (Err fault) = Err fault

-- what is stored after a change of its image: `NoVolume` of a volume not read/write, `BadImage` of a bad image
abbrev pub image_after : Image → Stored → (VolumeFields → Result VolumeFields CellFault) → Result Stored CellFault
image_after (Good volume) s change = if volume.header.kind == 0 then with_outcome s (change volume) else Err NoVolume
image_after (Bad at) s change = Err (BadImage at)

-- what stands under a name is changed so, where it is a read/write volume
abbrev pub stored_after : Stored → (VolumeFields → Result VolumeFields CellFault) → Result Stored CellFault
stored_after s change = image_after s.image s change

-- the list with what a change gave under its name, or the fault that it gave
abbrev pub put_back : List Stored → Result Stored CellFault → Result (List Stored) CellFault
put_back cell (Ok s) = Ok (with_stored s cell)
put_back cell (Err fault) = Err fault

-- the list after a change of what stands under a name; `NoVolume` where nothing does
abbrev pub after_change_where : Option Stored → List Stored → (VolumeFields → Result VolumeFields CellFault) → Result (List Stored) CellFault
after_change_where (Some s) cell change = put_back cell (stored_after s change)
after_change_where None cell change = Err NoVolume

-- the read/write volume of a name is changed so
abbrev pub after_change : List Stored → List ℕ → (VolumeFields → Result VolumeFields CellFault) → Result (List Stored) CellFault
after_change cell name change = after_change_where (stored_as name cell) cell change

-- the list after this data is written to this vnode of the name's volume; an absent vnode is made
abbrev pub after_write : List Stored → List ℕ → ℕ → List ℕ → ℕ → Result (List Stored) CellFault
after_write cell name number body now = after_change cell name (written_volume number body now)

-- the list after the vnode of this number is removed from the name's volume; `NoVnode` where it is absent
abbrev pub after_remove_vnode : List Stored → List ℕ → ℕ → ℕ → Result (List Stored) CellFault
after_remove_vnode cell name number now = after_change cell name (volume_without number now)

-- ---- backup volumes

-- the id of a backup volume of this name: none where the name is too long, nor where none is free for it
abbrev pub backup_id : List Stored → List ℕ → Option ℕ
backup_id cell name = if nat_lt 31 (length name) then None else backup_id_where standing_of (stored_as name cell) cell

-- the copy stands at the volume's server and partition
abbrev pub backup_of : Stored → ℕ → ℕ → VolumeFields → Stored
backup_of s id now volume = record { name = backup_name s.name; server = s.server; partition = s.partition; image = Good (backup_copy id now volume) }

-- the list after a backup of an image: the copy with this id, and now as the volume's backup date; else `NoVolume`
-- where it isn't read/write, then `TooLarge` without an id, then `BadImage`
abbrev pub after_backup_of : Image → Option ℕ → List Stored → Stored → ℕ → Result (List Stored) CellFault
after_backup_of (Good volume) (Some id) cell s now =
    if volume.header.kind == 0
    then Ok (with_stored (with_volume s (with_backup_date now volume)) (with_stored (backup_of s id now volume) cell)) else Err NoVolume
after_backup_of (Good volume) None cell s now = if volume.header.kind == 0 then Err TooLarge else Err NoVolume
after_backup_of (Bad at) (Some id) cell s now = Err (BadImage at)
after_backup_of (Bad at) None cell s now = Err TooLarge

-- the list after a backup of what stands under a name; `NoVolume` where nothing does
abbrev pub after_backup_where : Option Stored → List Stored → List ℕ → ℕ → Result (List Stored) CellFault
after_backup_where (Some s) cell name now = after_backup_of s.image (backup_id cell (backup_name name)) cell s now
after_backup_where None cell name now = Err NoVolume

-- the list after the read/write volume of a name has its backup volume, the copy of it as it is now
abbrev pub after_backup : List Stored → List ℕ → ℕ → Result (List Stored) CellFault
after_backup cell name now = after_backup_where (stored_as name cell) cell name now

-- ---- removal

-- a good image of this type
abbrev pub is_of_kind : ℕ → Option Stored → Bool
is_of_kind kind (Some s) = has_kind kind (standing_of s)
is_of_kind kind None = false

-- all but the backup volume of this name, where there is one
abbrev pub without_backup : List ℕ → List Stored → List Stored
without_backup name cell = if is_of_kind 2 (stored_as name cell) then without_stored name cell else cell

-- the list without what stands under a name, and, where it is read/write (`true`), without its backup volume
abbrev pub without_both : Bool → List ℕ → List Stored → List Stored
without_both true name cell = without_backup (backup_name name) (without_stored name cell)
without_both false name cell = without_stored name cell

-- the list after the removal of what stands under a name; `NoVolume` where nothing does
abbrev pub after_remove_where : Option Stored → List ℕ → List Stored → Result (List Stored) CellFault
after_remove_where (Some s) name cell = Ok (without_both (has_kind 0 (standing_of s)) name cell)
after_remove_where None name cell = Err NoVolume

-- a volume goes, or a bad image, and with a read/write volume its backup volume
abbrev pub after_remove : List Stored → List ℕ → Result (List Stored) CellFault
after_remove cell name = after_remove_where (stored_as name cell) name cell
