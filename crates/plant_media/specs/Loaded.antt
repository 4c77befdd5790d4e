-- The loaded tape, and that what is kept of it fits its file, as reads give it and as a crash may leave it.
use Rattle.std.specs.Prelude.{◌≡◌, ℕ, ◌+◌, ◌*◌, ◌^◌, ◌≤◌, min, Bool, true, List, length, IsTrue}
use Rattle.crash_moments.specs.Moments.{Moments}
use Rattle.media_core.specs.Media.{Image}
use Rattle.crash_log.specs.CrashLog.{file_of, limit_of, length_of, settled_of, damaged_of, log_bytes, state_of}
use Rattle.crash_log.specs.Fit.{IsStill, Fits, as_read}
use Rattle.plant_core.specs.Records.{Record}
use Rattle.plant_media.specs.Stock.{tape_shown}
use Rattle.plant_media.specs.declared.tape.Tape.{Tape}

-- its records, as they are read, with those that were put
unfoldable pub tape_in : Tape → Image → List Record
tape_in tape image = tape_shown (damaged_of tape.log) (log_bytes tape.log (image.file (tape.slot + 1)))

-- What is kept of it suits its file, in each image that these moments may leave: the log is that of the slot's file, and the
-- counts of records are those of its bytes.
pub record TapeSuits {D : Type 0} (tells : Type 0) (moments : Moments D Image) (seen : D → Image) (present : D → ℕ → Bool) (tape : Tape) (media : D) : Type 0 where
  pub file : file_of tape.log ≡ tape.slot + 1
  pub limit : limit_of tape.log ≡ 2 ^ 34
  pub here : IsTrue (present media (tape.slot + 1))
  pub within : tape.settled ≤ tape.records
  pub room : length_of tape.log ≤ 16385 * tape.records
  pub fits : tells → Fits moments seen (state_of tape.log) media
  pub counted : tells → tape.records ≡ length (tape_in tape (seen media))
  pub settled : tells → settled_of tape.log ≡ min (16385 * tape.settled) (length_of tape.log)
  pub damaged : tells → damaged_of tape.log ≡ true → tape.settled ≡ 1
  pub still : tells → tape.settled ≡ tape.records → IsStill moments seen (tape.slot + 1) media

-- It fits its file, as reads give it, with what was put.
abbrev pub TapeFits : {D : Type 0} → Type 0 → (D → Image) → (D → ℕ → Bool) → Tape → D → Type 0
TapeFits tells seen present tape media = TapeSuits tells (as_read seen) seen present tape media

-- It survives a crash: each image that a crash may leave has its settled records.
abbrev pub TapeSurvives : {D : Type 0} → Type 0 → Moments D Image → (D → Image) → (D → ℕ → Bool) → Tape → D → Type 0
TapeSurvives tells moments seen present tape media = TapeSuits tells moments seen present tape media
