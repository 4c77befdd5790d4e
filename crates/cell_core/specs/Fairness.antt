-- When a cell is fair to what was dumped of it: nothing that was changed since a clone looks older than the clone.
use Rattle.std.specs.Prelude.{◌≡◌, ◌⊎◌, ℕ, ◌≤◌, Option, Some, IfSome, List, All, Contains, ⊤}
use Rattle.vnode_model.specs.declared.volumes.VolumeFields.{VolumeFields}
use Rattle.vnode_model.specs.Limits.{AreVolume}
use Rattle.vnode_model.specs.Increments.{Follows}
use Rattle.cell_core.specs.declared.stored.Stored.{Stored}
use Rattle.cell_core.specs.declared.stored.Image.{Image}
use Rattle.cell_core.specs.declared.stored.Image.TheVariants.{Good, Bad}
use Rattle.cell_core.specs.declared.stored.Taken.{Taken}
use Rattle.cell_core.specs.Volumes.{backup_name}
use Rattle.cell_core.specs.Cells.{born}

-- what a dump has of a volume: its name, its clone time, and the volume as it was cloned, where there is one
pub record Dumped : Type 0 where
  pub name : List ℕ
  pub time : ℕ
  pub volume : Option VolumeFields

-- what a dump of a clone has of it
abbrev pub dumped_from : Taken → Dumped
dumped_from clone = record { name = clone.volume.header.name; time = clone.time; volume = Some clone.volume }

-- A volume against an older state of it, with that state's clone time: it was born then or later, or each of its vnodes
-- that the server last changed before stands equal in the older state.
abbrev pub IsFairTo : ℕ → VolumeFields → ℕ → VolumeFields → Type 0
IsFairTo birth new time old = (time ≤ birth) ⊎ Follows old time new

-- a cell, what was dumped, and the time
pub record Fair (cell : List Stored) (dumped : List Dumped) (now : ℕ) : Type 0 where
  -- every clone time is at most the time, also where no volume has that name
  pub times : All (λ d. d.time ≤ now) dumped
  -- what was dumped of a volume has a volume's vnodes
  pub volumes : All (λ d. IfSome d.volume (λ old. AreVolume old.vnodes)) dumped
  -- each volume, and what was dumped under its name
  pub own : (s : Stored) (new : VolumeFields) (d : Dumped) (old : VolumeFields) → Contains cell s → s.image ≡ Good new → Contains dumped d → d.volume ≡ Some old → d.name ≡ s.name → IsFairTo (born cell new) new d.time old
  -- each read/write volume, and what was dumped under its backup volume's name
  pub of_backup : (s : Stored) (new : VolumeFields) (d : Dumped) (old : VolumeFields) → Contains cell s → s.image ≡ Good new → new.header.kind ≡ 0 → Contains dumped d → d.volume ≡ Some old → d.name ≡ backup_name s.name → IsFairTo new.header.created new d.time old
  -- each read/write volume, and the volume under its backup volume's name, whatever type that has but read/write
  pub backup : (s : Stored) (new : VolumeFields) (b : Stored) (old : VolumeFields) → Contains cell s → s.image ≡ Good new → new.header.kind ≡ 0 → Contains cell b → b.image ≡ Good old → (old.header.kind ≡ 0 → ⊥) → b.name ≡ backup_name s.name → (old.header.created ≤ now) × IsFairTo new.header.created new old.header.created old

-- an image that wasn't made after this time
abbrev pub IsNotMadeAfter : ℕ → Image → Type 0
IsNotMadeAfter now (Good volume) = volume.header.created ≤ now
IsNotMadeAfter now (Bad at) = ⊤

-- No volume has a creation date to come. It is so at a time that is no less than the `latest` of each entry. Fairness says it
-- of what stands under the backup names of read/write volumes alone; a volume that is made anew may find one there.
abbrev pub NoneIsMadeAfter : ℕ → List Stored → Type 0
NoneIsMadeAfter now cell = All (λ s. IsNotMadeAfter now s.image) cell

-- an image that is no read/write volume, where its name ends in `.backup`
abbrev pub IsNoSourceUnder : List ℕ → Image → Type 0
IsNoSourceUnder name image = (base : List ℕ) (volume : VolumeFields) → name ≡ backup_name base → image ≡ Good volume → volume.header.kind ≡ 0 → ⊥

-- no read/write volume's name ends in `.backup`
abbrev pub NoSourceHasBackupName : List Stored → Type 0
NoSourceHasBackupName cell = All (λ s. IsNoSourceUnder s.name s.image) cell
