-- What a file server makes of one volume.
use Rattle.std.specs.Prelude.{ℕ, ◌+◌, ◌==◌, ◌&&◌, nat_le, if◌then◌else◌, List, [], ◌∷◌, ◌++◌, length, replicate, Option, Some, None, Result, Ok, Err}
use Rattle.bk_text.specs.Bases.{backup_ending}
use Rattle.vnode_model.specs.declared.vnodes.Vnode.{Vnode}
use Rattle.vnode_model.specs.declared.headers.HeaderFields.{HeaderFields}
use Rattle.vnode_model.specs.declared.volumes.VolumeFields.{VolumeFields}
use Rattle.vnode_model.specs.Limits.{most_vnodes, most_data, all_data}
use Rattle.vnode_model.specs.Increments.{data_of}
use Rattle.cell_core.specs.declared.fault.CellFault.{CellFault}
use Rattle.cell_core.specs.declared.fault.CellFault.TheVariants.{NoVnode, TooLarge}
use Rattle.cell_core.specs.Vnodes.{vnode_of, with_vnode, without_vnode, first_directory, made_vnode, rewritten_vnode, kib_of}

-- ---- a new volume

-- read/write, all its dates now, and 2 the next uniquifier
abbrev pub new_header : ℕ → List ℕ → ℕ → HeaderFields
new_header id name now = record {
  id = id;
  stamp = 0;
  name = name;
  in_service = 0;
  blessed = 0;
  uniq = 2;
  kind = 0;
  parent = 0;
  clone_id = 0;
  max_quota = 0;
  min_quota = 0;
  disk_used = 0;
  file_count = 0;
  account = 0;
  owner = 0;
  created = now;
  accessed = now;
  updated = now;
  expires = now;
  backed_up = now;
  offline = [];
  message = [];
  week = replicate 7 0;
  day_date = now;
  day_use = 0;
  updates = None;
}

-- a new read/write volume with this id and name, made now (seconds since 1970), with its first directory alone
abbrev pub new_volume : ℕ → List ℕ → ℕ → VolumeFields
new_volume id name now = record { header = new_header id name now; vnodes = first_directory now ∷ [] }

-- ---- a changed volume

-- a header after a change: the update date, the number of vnodes and what they use of a disk
abbrev pub updated_header : List Vnode → ℕ → HeaderFields → HeaderFields
updated_header vnodes now h = record h { updated = now; file_count = length vnodes; disk_used = kib_of vnodes }

-- a volume that has these vnodes from now on, and this next uniquifier
abbrev pub updated_volume : List Vnode → ℕ → ℕ → VolumeFields → VolumeFields
updated_volume vnodes uniq now volume = record { header = updated_header vnodes now (record volume.header { uniq = uniq }); vnodes = vnodes }

-- the limits: bytes of the data that was written, vnodes, and bytes of all data
abbrev pub within_limits : List ℕ → VolumeFields → Result VolumeFields CellFault
within_limits body volume =
    if nat_le (length body) most_data && (nat_le (length volume.vnodes) most_vnodes && nat_le (data_of volume.vnodes) all_data)
    then Ok volume else Err TooLarge

-- data that is written to a vnode that is there, or to one that is made for it with the header's uniquifier, which then
-- rises by one; at 4,294,967,295 they are spent
abbrev pub written_over : Option Vnode → VolumeFields → ℕ → List ℕ → ℕ → Result VolumeFields CellFault
written_over (Some v) volume number body now =
    within_limits body (updated_volume (with_vnode (rewritten_vnode body now v) volume.vnodes) volume.header.uniq now volume)
written_over None volume number body now =
    if volume.header.uniq == 4294967295 then Err TooLarge else
    within_limits body (updated_volume (with_vnode (made_vnode number volume.header.uniq body now) volume.vnodes) (volume.header.uniq + 1) now volume)

-- a vnode's number is 1 or more
abbrev pub written_volume : ℕ → List ℕ → ℕ → VolumeFields → Result VolumeFields CellFault
written_volume number body now volume =
    if number == 0 then Err TooLarge else written_over (vnode_of number volume.vnodes) volume number body now

-- a vnode is taken away
abbrev pub removed_where : Option Vnode → ℕ → ℕ → VolumeFields → Result VolumeFields CellFault
removed_where None number now volume = Err NoVnode
removed_where (Some v) number now volume = Ok (updated_volume (without_vnode number volume.vnodes) volume.header.uniq now volume)

-- a volume after the vnode of this number is removed; `NoVnode` where it is absent
abbrev pub volume_without : ℕ → ℕ → VolumeFields → Result VolumeFields CellFault
volume_without number now volume = removed_where (vnode_of number volume.vnodes) number now volume

-- ---- a backup volume

-- the name of a volume's backup volume: the volume's name, and `.backup` behind it
abbrev pub backup_name : List ℕ → List ℕ
backup_name name = name ++ backup_ending

-- the copy: its name, type 2, made now, with the volume's id as its parent id. It keeps the backup date that the volume had.
abbrev pub backup_copy : ℕ → ℕ → VolumeFields → VolumeFields
backup_copy id now volume = record {
  header = record volume.header { id = id; name = backup_name volume.header.name; kind = 2; parent = volume.header.id; created = now };
  vnodes = volume.vnodes;
}

-- the volume's own backup date
abbrev pub with_backup_date : ℕ → VolumeFields → VolumeFields
with_backup_date now volume = record { header = record volume.header { backed_up = now }; vnodes = volume.vnodes }
