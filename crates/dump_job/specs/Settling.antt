-- What is done of a dump that is given up: the tape that it cut last is settled.
use Rattle.std.specs.Prelude.{ℕ, ◌-◌, Option, Some, None, List, [], ◌∷◌, length, slice_get}
use Rattle.plant_core.specs.declared.plant.Plant.{Ghosts as Plant}
use Rattle.plant_core.specs.Effects.{Effect, cuts}
use Rattle.plant_effects.specs.Runs.{state_of}
use Rattle.dump_job.specs.declared.fields.Filled.{Filled}
use Rattle.dump_job.specs.declared.fields.JobFields.{JobFields}
use Rattle.dump_job.specs.declared.fields.Phase.{Phase}
use Rattle.dump_job.specs.declared.fields.Phase.TheVariants as phase
use Rattle.dump_job.specs.Reels.{turn_of}

-- the same of a part that may be none
abbrev pub slot_in : Option Filled → Option ℕ
slot_in None = None
slot_in (Some f) = Some f.slot

-- the slot of the last part that is ended
abbrev pub last_filled : List Filled → Option ℕ
last_filled filled = slot_in (slice_get filled (length filled - 1))

-- A tape that was chosen isn't cut before its tape step.
abbrev pub last_cut_by : Phase → List Filled → ℕ → Option ℕ
last_cut_by phase.Tape filled slot = last_filled filled
last_cut_by phase.Clone filled slot = Some slot
last_cut_by phase.Head filled slot = Some slot
last_cut_by phase.Piece filled slot = Some slot
last_cut_by phase.VolumeEnd filled slot = Some slot
last_cut_by phase.PartEnd filled slot = Some slot
last_cut_by phase.DumpEnd filled slot = Some slot
last_cut_by phase.Over filled slot = Some slot

-- the slot of the tape that a dump cut last; none where it has cut none
abbrev pub last_cut : JobFields → Option ℕ
last_cut j = last_cut_by j.phase j.filled j.reel.slot

-- The tape in a slot is cut at its own length, which settles it, and its records stay.
abbrev pub settling : {D : Type 0} → Plant D → ℕ → D → List Effect
settling P slot plant = turn_of P slot (cuts slot (length ((state_of P plant).tape slot)) ∷ []) plant

-- the same of the tape that was cut last; nothing where none was
abbrev pub settling_last : {D : Type 0} → Plant D → Option ℕ → D → List Effect
settling_last P None plant = []
settling_last P (Some slot) plant = settling P slot plant
