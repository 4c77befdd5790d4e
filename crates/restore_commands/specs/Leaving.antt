-- Which archive a restore looks up in, and how it leaves the cell whatever stands on the tapes.
use Rattle.std.specs.Prelude.{◌≡◌, ◌⊎◌, ℕ, false, Option, Some, None, List, [], ◌∷◌, Ok, Contains}
use Rattle.vnode_model.specs.declared.volumes.VolumeFields.{VolumeFields}
use Rattle.volume_sets.specs.declared.sets.SetEntry.{SetEntry}
use Rattle.budb_changes.specs.declared.records.DumpRecordFields.{DumpRecordFields}
use Rattle.plant_core.specs.declared.plant.Plant.{Ghosts as Plant}
use Rattle.plant_core.specs.Stock.{Stock}
use Rattle.tape_scan.specs.Looking.{HasSlots}
use Rattle.cell_core.specs.declared.stored.Stored.{Stored}
use Rattle.archive_model.specs.Archives.{Archive, Holds, listed_of}
use Rattle.restore_target.specs.Targets.{target_text, after_restore}
use Rattle.backup_words.specs.declared.command.Wanted.{Wanted}
use Rattle.restore_commands.specs.Choices.{set_choices}
use Rattle.restore_commands.specs.Answers.{Manner, RestoreAnswer, last_cell}

-- The archive stands on the plant, and the database lists its dumps: its slots are the plant's, and a log and tapes hold it, as those of
-- the plant do.
pub record IsArchiveOf {D : Type 0} (P : Plant D) (listed : List DumpRecordFields) (a : Archive) (plant : D) : Type 0 where
  pub stock : Stock
  pub records : List DumpRecordFields
  pub holds : Holds stock a records
  pub slots : HasSlots P a.slots plant
  pub lists : listed_of a ≡ listed

-- ---- what was answered

-- the reply is this answer's, and the cell has the last of its lists
pub record IsAnswer (answer : RestoreAnswer) (reply : List ℕ) (old new : List Stored) : Type 0 where
  pub reply_is : reply ≡ answer.reply
  pub list : new ≡ last_cell old answer.cells

-- the cell was left on the way: its list is the one before, or one of those after a change
abbrev pub OnTheWay : List Stored → List (List Stored) → List Stored → Type 0
OnTheWay old cells new = Contains (old ∷ cells) new

-- ---- whatever stands on the tapes

-- a volume was put whole, under the name that the wanted one gets
pub record IsPut (manner : Manner) (wanted : Wanted) (old new : List Stored) : Type 0 where
  pub real : manner.is_trial ≡ false
  pub volume : VolumeFields
  pub put : after_restore old wanted.server wanted.partition (target_text wanted.name manner.extension) manner.time volume ≡ Ok new

-- the list stays, or a volume was put
abbrev pub MayPut : Manner → Wanted → List Stored → List Stored → Type 0
MayPut manner wanted old new = (new ≡ old) ⊎ IsPut manner wanted old new

-- one after the other, for each of some that were chosen
abbrev pub MayPutEach : Manner → List Wanted → List Stored → List Stored → Type 0
MayPutEach manner [] old new = new ≡ old
MayPutEach manner (choice ∷ choices) old new = (mid : List Stored) × MayPut manner choice old mid × MayPutEach manner choices mid new

-- the same by the entries of a volume set, where it is there
abbrev pub MayPutNamed : Manner → List DumpRecordFields → Option (List SetEntry) → List Stored → List Stored → Type 0
MayPutNamed manner listed None old new = new ≡ old
MayPutNamed manner listed (Some entries) old new = MayPutEach manner (set_choices listed entries) old new
