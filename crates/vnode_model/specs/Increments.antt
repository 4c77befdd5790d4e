-- Increments of a volume, and volumes made from increments.
use Rattle.std.specs.Prelude.{◌≡◌, ℕ, ◌<◌, Bool, true, false, ◌&&◌, ◌||◌, ◌==◌, nat_le, if◌then◌else◌, Option, Some, None, is_none, Result, Ok, Err, List, [], length, map, find, sum_by, All, Contains, ⊤}
use Rattle.std.specs.List.{filter_map}
use Rattle.vnode_model.specs.declared.vnodes.VnodeKind.{VnodeKind}
use Rattle.vnode_model.specs.declared.vnodes.VnodeKind.TheVariants.{File, Directory, Symlink}
use Rattle.vnode_model.specs.declared.vnodes.Vnode.{Vnode}
use Rattle.vnode_model.specs.declared.headers.HeaderFields.{HeaderFields}
use Rattle.vnode_model.specs.declared.increments.Entry.{Entry}
use Rattle.vnode_model.specs.declared.increments.Entry.TheVariants.{Whole, Kept}
use Rattle.vnode_model.specs.declared.increments.IncrementFields.{IncrementFields}
use Rattle.vnode_model.specs.declared.volumes.VolumeFields.{VolumeFields}
use Rattle.vnode_model.specs.declared.applying.ApplyFault.{ApplyFault}
use Rattle.vnode_model.specs.declared.applying.ApplyFault.TheVariants.{BaseLacks, TooLarge, Memory}
use Rattle.vnode_model.specs.Limits.{all_data, number_of}

-- ---- the increment of a volume from a time on

-- whether a vnode of this kind is a directory; a file or a symbolic link is none
abbrev pub is_directory : VnodeKind → Bool
is_directory File = false
is_directory Directory = true
is_directory Symlink = false

-- whether a vnode stands whole in an increment from this time on: always from 0; else where it is a directory, or the
-- server changed it then or later
abbrev pub is_whole_from : ℕ → Vnode → Bool
is_whole_from since v = (since == 0) || (is_directory v.kind || nat_le since v.server_modified)

-- what it says of a vnode: all of it, or its number and uniquifier alone
abbrev pub entry_from : ℕ → Vnode → Entry
entry_from since v = if is_whole_from since v then Whole v else Kept v.number v.uniq

-- what an increment from this time on (seconds since 1970) says of a volume: one entry for each vnode, in order
abbrev pub entries_from : VolumeFields → ℕ → List Entry
entries_from volume since = map (entry_from since) volume.vnodes

-- the increment: its dump header has the volume's id and name and both times; then the volume's header, and one entry
-- for each vnode, in order
abbrev pub selected : VolumeFields → ℕ → ℕ → IncrementFields
selected volume since until = record {
  dump_id = volume.header.id;
  dump_name = volume.header.name;
  from = since;
  to = until;
  header = volume.header;
  entries = entries_from volume since;
}

-- ---- a volume made from a base and an increment

-- the vnode of this number and this uniquifier
abbrev pub is_named : ℕ → ℕ → Vnode → Bool
is_named number uniq v = (v.number == number) && (v.uniq == uniq)

-- the vnode that an entry stands for, over a base's vnodes: a whole one for itself, a kept one for the base's vnode of
-- that number and uniquifier, where the base has it
abbrev pub vnode_for : List Vnode → Entry → Option Vnode
vnode_for base (Whole v) = Some v
vnode_for base (Kept number uniq) = find (is_named number uniq) base

-- the first entry that the base lacks
abbrev pub first_lacking : List Vnode → List Entry → Option Entry
first_lacking base entries = find (λ e. is_none (vnode_for base e)) entries

-- the uniquifier of an entry's vnode, which tells it from an earlier vnode of its number
abbrev pub uniq_of : Entry → ℕ
uniq_of (Whole v) = v.uniq
uniq_of (Kept number uniq) = uniq

-- the bytes of all vnodes' data
abbrev pub data_of : List Vnode → ℕ
data_of vnodes = sum_by (λ v. length v.body) vnodes

-- a base's vnodes: none without a base
abbrev pub vnodes_of : Option VolumeFields → List Vnode
vnodes_of None = []
vnodes_of (Some base) = base.vnodes

-- the volume of a header and vnodes, unless their data is too much
abbrev pub volume_of : HeaderFields → List Vnode → Result VolumeFields ApplyFault
volume_of header vnodes =
    if nat_le (data_of vnodes) all_data then Ok (record { header = header; vnodes = vnodes }) else Err TooLarge

-- what applying gives, by the first entry that the base lacks, if there is one
abbrev pub applied_unless : Option Entry → HeaderFields → List Vnode → Result VolumeFields ApplyFault
applied_unless (Some e) header vnodes = Err (BaseLacks (number_of e) (uniq_of e))
applied_unless None header vnodes = volume_of header vnodes

-- what applying an increment to a base gives: the first entry that the base lacks; else the volume of the increment's
-- header and of the vnodes that its entries stand for, one each, in order; too large where their data passes the limit
abbrev pub applied : Option VolumeFields → IncrementFields → Result VolumeFields ApplyFault
applied base increment =
    let vnodes = vnodes_of base in
    applied_unless (first_lacking vnodes increment.entries) increment.header (filter_map (vnode_for vnodes) increment.entries)

-- an answer is the defined one; want of memory may come for any
abbrev pub Answers : Result VolumeFields ApplyFault → Result VolumeFields ApplyFault → Type 0
Answers defined (Ok volume) = defined ≡ Ok volume
Answers defined (Err (BaseLacks number uniq)) = defined ≡ Err (BaseLacks number uniq)
Answers defined (Err TooLarge) = defined ≡ Err TooLarge
Answers defined (Err Memory) = ⊤

-- ---- the law

-- each vnode of the new volume that the server last changed before this time stands equal in the old one
abbrev pub Follows : VolumeFields → ℕ → VolumeFields → Type 0
Follows old since new = All (λ v. v.server_modified < since → Contains old.vnodes v) new.vnodes
