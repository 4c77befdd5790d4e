-- What an archive's dumps are to the cell that they are dumped from.
use Rattle.std.specs.Prelude.{ℕ, ◌==◌, if◌then◌else◌, Option, Some, None, Result, Ok, Err, List, [], ◌∷◌, map, ◌≡◌, ◌⊎◌, ◌≤◌, Contains, slice_get}
use Rattle.std.specs.List.{flat_map}
use Rattle.bk_text.specs.Blanks.{is_same_text}
use Rattle.vnode_model.specs.declared.volumes.VolumeFields.{VolumeFields}
use Rattle.budb_changes.specs.declared.records.VolRecordFields.{VolRecordFields}
use Rattle.budb_changes.specs.declared.records.DumpRecordFields.{DumpRecordFields}
use Rattle.budb_fold.specs.Database.{without}
use Rattle.cell_core.specs.Fairness.{Dumped, dumped_from}
use Rattle.archive_model.specs.Archives.{Refusal}
use Rattle.cell_core.specs.declared.stored.Stored.{Stored}
use Rattle.cell_core.specs.declared.stored.Taken.{Taken}
use Rattle.cell_core.specs.Calls.{clone_at}
use Rattle.vnode_model.specs.Limits.{AreVolume}
use Rattle.vnode_model.specs.Increments.{selected}
use Rattle.dump_stream.specs.Written.{written}
use Rattle.dump_stream.specs.Allowed.{Allowed}
use Rattle.tape_writer.specs.Filling.{Dumping}
use Rattle.tape_scan.specs.Slots.{Slot}
use Rattle.archive_model.specs.Turns.{GivesNext, IsClone}
use Rattle.archive_model.specs.Clones.{IsRecordOf}

-- of one name in a record the first volume alone counts
abbrev pub firsts : List VolRecordFields → List VolRecordFields
firsts [] = []
firsts (v ∷ vs) = v ∷ without (λ w. is_same_text w.name v.name) (firsts vs)

-- contents that are a volume
abbrev pub volume_told : Result VolumeFields Refusal → Option VolumeFields
volume_told (Ok volume) = Some volume
volume_told (Err refusal) = None

-- what a dump has of a volume, as the fairness of a cell speaks of it
abbrev pub dumped_of : (ℕ → List ℕ → Result VolumeFields Refusal) → DumpRecordFields → VolRecordFields → Dumped
dumped_of contents d v = record { name = v.name; time = v.clone; volume = volume_told (contents d.id v.name) }

-- what the dumps of an archive have of all volumes
abbrev pub dumped_by : (ℕ → List ℕ → Result VolumeFields Refusal) → List DumpRecordFields → List Dumped
dumped_by contents records = flat_map (λ d. map (dumped_of contents d) (firsts d.volumes)) records

-- What a dump has of a clone that was taken for it: the clone; where it has what changed since the parent alone, and the parent's
-- contents are a refusal, that refusal.
abbrev pub over_parent : Result VolumeFields Refusal → VolumeFields → Result VolumeFields Refusal
over_parent (Ok old) clone = Ok clone
over_parent (Err refusal) clone = Err refusal

-- what a dump has of a clone by its from time: the clone where that is 0, else what it has over the parent's contents
abbrev pub clone_or_refusal : Result VolumeFields Refusal → ℕ → VolumeFields → Result VolumeFields Refusal
clone_or_refusal parent from clone = if from == 0 then Ok clone else over_parent parent clone

-- ---- the clones of a dump

-- a clone of one of a cell's volumes at this time
abbrev pub IsTakenFrom : List Stored → ℕ → Taken → Type 0
IsTakenFrom cell now clone = (i : ℕ) × (clone_at cell i now ≡ Some clone)

-- what dumps of clones have, before what was dumped already
abbrev pub dumped_clones : List Taken → List Dumped → List Dumped
dumped_clones [] dumped = dumped
dumped_clones (c ∷ clones) dumped = dumped_from c ∷ dumped_clones clones dumped

-- A volume's contents in a dump are one of these clones, of its name and clone time; or they are a refusal, and its clone time isn't to
-- come.
abbrev pub IsCloneOf : (ℕ → List ℕ → Result VolumeFields Refusal) → DumpRecordFields → ℕ → List Taken → VolRecordFields → Type 0
IsCloneOf contents d now clones v =
    ((c : Taken) × Contains clones c × (v.name ≡ c.volume.header.name) × (v.clone ≡ c.time) × (contents d.id v.name ≡ Ok c.volume))
    ⊎ ((r : Refusal) × (contents d.id v.name ≡ Err r) × (v.clone ≤ now))

-- ---- a dump that fills tapes

-- A volume's record in a dump over these volumes: one of them has its fields, and where that one's stream is a clone's increment the
-- dump gives the clone over the parent's contents, or the refusal that these are.
pub record IsFilled (slots : List Slot) (d : DumpRecordFields) (volumes : List Dumping) (name : List ℕ) (v : VolRecordFields) : Type 0 where
  pub index : ℕ
  pub dumping : Dumping
  pub at : slice_get volumes index ≡ Some dumping
  pub fields : IsRecordOf v dumping
  pub gives : (contents : ℕ → List ℕ → Result VolumeFields Refusal) (clone : VolumeFields) (time : ℕ) → dumping.stream ≡ written (selected clone v.from time) → Allowed (selected clone v.from time) → AreVolume clone.vnodes → IsClone contents d name v clone → GivesNext slots contents d name v
