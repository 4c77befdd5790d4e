-- What the calls leave of what is known.
use Rattle.std.specs.Prelude.{◌≡◌, ℕ, Bool, false, if◌then◌else◌, Option, Some, None, List}
use Rattle.bk_text.specs.Bases.{base_of}
use Rattle.vnode_model.specs.declared.volumes.VolumeFields.{VolumeFields}
use Rattle.cell_core.specs.declared.standing.Standing.TheVariants.{Volume}
use Rattle.cell_core.specs.declared.stored.Taken.{Taken}
use Rattle.cell_core.specs.Listings.{has_kind}
use Rattle.cell_core.specs.Volumes.{backup_name}
use Rattle.dir_cell.specs.declared.known.Known.{Known}
use Rattle.dir_cell.specs.Catalogs.{IsKnownOf, known_as, with_known, without_known, birth_of}

-- a volume that was read is what is known of it
abbrev pub IsAsKnown : Known → VolumeFields → Type 0
IsAsKnown k volume = IsKnownOf k.server k.partition volume k

-- a volume stands under its name from now on
pub record Keeps (server partition : List ℕ) (volume : VolumeFields) (old new : List Known) : Type 0 where
  pub known : Known
  pub is : IsKnownOf server partition volume known
  pub kept : new ≡ with_known known old

-- a clone of what is known: its time is now for a read/write volume, and else its creation date
pub record IsClone (catalog : List Known) (k : Known) (now : ℕ) (taken : Taken) : Type 0 where
  pub volume : IsAsKnown k taken.volume
  pub time : taken.time ≡ (if has_kind 0 k.standing then now else k.created)
  pub born : taken.born ≡ (if has_kind 0 k.standing then k.created else birth_of (known_as (base_of k.name) catalog))

-- a volume of this type is known
abbrev pub is_of_kind : ℕ → Option Known → Bool
is_of_kind kind (Some k) = has_kind kind k.standing
is_of_kind kind None = false

-- what is known, without the backup volume of this name; the same where the name has no backup volume
abbrev pub without_backup : List ℕ → List Known → List Known
without_backup name catalog = if is_of_kind 2 (known_as name catalog) then without_known name catalog else catalog

-- what stands under a name goes, and with a read/write volume its backup volume
abbrev pub after_removal : List ℕ → List Known → List Known
after_removal name catalog =
    if is_of_kind 0 (known_as name catalog) then without_known name (without_backup (backup_name name) catalog) else without_known name catalog

-- a volume of this name stands from now on where one stood, and nothing else changes
pub record KeepsNamed (name : List ℕ) (old new : List Known) : Type 0 where
  pub known : Known
  pub named : known.name ≡ name
  pub kept : new ≡ with_known known old

-- what is known of a copy for the backup volume of a name, with this id
pub record IsCopyKnown (name : List ℕ) (id : Option ℕ) (k : Known) : Type 0 where
  pub named : k.name ≡ backup_name name
  pub number : ℕ
  pub is_number : id ≡ Some number
  pub standing : k.standing ≡ Volume number 2

-- such a copy stands from now on
pub record KeepsCopy (name : List ℕ) (id : Option ℕ) (old new : List Known) : Type 0 where
  pub known : Known
  pub is : IsCopyKnown name id known
  pub kept : new ≡ with_known known old
