-- What is known of a folder's images: a list in the order of their names.
use Rattle.std.specs.Prelude.{◌≡◌, ⊤, ℕ, ◌+◌, ◌≤◌, if◌then◌else◌, Option, Some, None, List, length}
use Rattle.vnode_model.specs.declared.volumes.VolumeFields.{VolumeFields}
use Rattle.vnode_model.specs.declared.listed.VolEntry.{VolEntry}
use Rattle.vnode_model.specs.declared.listed.EntryState.{EntryState}
use Rattle.vnode_model.specs.declared.listed.EntryState.TheVariants as state
use Rattle.vnode_model.specs.Volumes.{latest_of}
use Rattle.cell_core.specs.declared.standing.Standing.{Standing}
use Rattle.cell_core.specs.declared.standing.Standing.TheVariants.{Volume, Bad}
use Rattle.cell_core.specs.Orders.{AreAscending, of_key, placed, without_key}
use Rattle.cell_core.specs.Listings.{name_order, most_volumes, has_kind}
use Rattle.dir_cell.specs.declared.known.Known.{Known}

-- the volume name of an image, by which what is known is in order
abbrev pub name_of : Known → List ℕ
name_of k = k.name

-- what the rules of lists ask of an image: a volume's id and type, or at which byte it is bad
abbrev pub standing_of : Known → Standing
standing_of k = k.standing

-- what is known under a name
abbrev pub known_as : List ℕ → List Known → Option Known
known_as name catalog = of_key name_order name_of name catalog

-- one more under its name, in place of the one that is there
abbrev pub with_known : Known → List Known → List Known
with_known k catalog = placed name_order name_of k catalog

-- what is known, without what is known under this name; the same where nothing is
abbrev pub without_known : List ℕ → List Known → List Known
without_known name catalog = without_key name_order name_of name catalog

-- in ascending byte order of the names, each name once, and not too many
pub record IsCatalog (catalog : List Known) : Type 0 where
  pub few : length catalog ≤ most_volumes
  pub ordered : AreAscending name_order name_of catalog

-- a name finds a place: it is there, or not too many others are
abbrev pub HasPlace : List ℕ → List Known → Type 0
HasPlace name catalog = known_as name catalog ≡ None → length catalog + 1 ≤ most_volumes

-- ---- what is told

-- what is told of an image: a volume's id, type and latest time (seconds since 1970), or at which byte it is bad
abbrev pub state_of : Standing → ℕ → EntryState
state_of (Volume id kind) latest = state.Good id kind latest
state_of (Bad at) latest = state.Bad at

-- what is told of what is known: its name, its server and partition, and what its image is
abbrev pub entry_of : Known → VolEntry
entry_of k = record { name = k.name; server = k.server; partition = k.partition; state = state_of k.standing k.latest }

-- the creation date of a read/write volume; else 4,294,967,295
abbrev pub birth_of : Option Known → ℕ
birth_of (Some k) = if has_kind 0 k.standing then k.created else 4294967295
birth_of None = 4294967295

-- what is known of a volume that stands at this server and partition
pub record IsKnownOf (server partition : List ℕ) (volume : VolumeFields) (k : Known) : Type 0 where
  pub name : k.name ≡ volume.header.name
  pub server_is : k.server ≡ server
  pub partition_is : k.partition ≡ partition
  pub standing : k.standing ≡ Volume volume.header.id volume.header.kind
  pub created : k.created ≡ volume.header.created
  pub latest : k.latest ≡ latest_of volume

-- no volume
abbrev pub IsBad : Standing → Type 0
IsBad (Volume id kind) = ⊥
IsBad (Bad at) = ⊤
