-- What opening a plant gives, and what becomes of the media.
use Rattle.std.specs.Prelude.{◌≡◌, ℕ, Bool, true, Result, Ok, Err}
use Rattle.crash_moments.specs.Moments.{Rose}
use Rattle.plant_media.specs.declared.plant.MediaPlant.{MediaPlant}
use Rattle.plant_media.specs.declared.open.Unopened.{Unopened}
use Rattle.plant_media.specs.declared.open.OpenFault.{OpenFault}
use Rattle.plant_media.specs.declared.open.OpenFault.TheVariants.{Failed, BadLog}

-- the media once a plant was opened on it, or wasn't
abbrev pub media_after : {D : Type 0} → Result (MediaPlant D) (Unopened D) → D
media_after (Ok plant) = plant.media
media_after (Err unopened) = unopened.media

-- A fault has its cause: the count of the media's faults rose, or it is as before and the journal is damaged, with place 0.
abbrev pub HasCauseIn : Type 0 → Bool → ℕ → ℕ → OpenFault → Type 0
HasCauseIn tells damaged before now Failed = Rose before now
HasCauseIn tells damaged before now (BadLog at) = (at ≡ 0) × (now ≡ before) × (tells → damaged ≡ true)
