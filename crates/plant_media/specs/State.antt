-- What a plant over a media shows, in which states calls may be made, and in which ones a crash leaves what is settled.
use Rattle.std.specs.Prelude.{◌≡◌, ◌≢◌, ℕ, ◌+◌, ◌-◌, Bool, false, Option, Some, IfSome, IsTrue}
use Rattle.crash_moments.specs.Moments.{Moments, mapped}
use Rattle.media_core.specs.Media.{Image}
use Rattle.crash_log.specs.CrashLog.{file_of, limit_of, length_of, damaged_of, state_of}
use Rattle.crash_log.specs.Fit.{IsStill, Fits, as_read}
use Rattle.crash_log.specs.declared.log.CrashLog.{CrashLog}
use Rattle.plant_core.specs.Crashes.{State}
use Rattle.plant_core.specs.Stock.{Stock}
use Rattle.plant_core.specs.Views.{View}
use Rattle.plant_media.specs.Stock.{stock_of}
use Rattle.plant_media.specs.Loaded.{TapeSuits}
use Rattle.plant_media.specs.Slots.{slot_in, records_in, shown, slots_here}
use Rattle.plant_media.specs.declared.plant.MediaPlant.{MediaPlant}

module _ {D : Type 0} where
  abbrev pub media_of : MediaPlant D → D
  media_of plant = plant.media

  -- what reads give, and what is settled
  abbrev pub shown_of : (D → Image) → MediaPlant D → State
  shown_of seen plant = shown plant.journal plant.tape (seen plant.media)

  -- The moments are the media's. What a crash leaves is the stock of the files and the output that it leaves.
  abbrev pub moments_of : Moments D Image → Moments (MediaPlant D) Stock
  moments_of moments = mapped moments media_of stock_of

  abbrev pub loaded_of : MediaPlant D → Option ℕ
  loaded_of plant = slot_in plant.tape

  -- what is told of it, by what the media tells: file 0 is no slot's, and its counts of faults are the media's
  abbrev pub view_of : (D → Image) → (D → ℕ) → (D → ℕ → Bool) → (D → ℕ) → (D → ℕ) → MediaPlant D → View
  view_of seen count present faults tell_faults plant = record {
    state = shown_of seen plant;
    loaded = slot_in plant.tape;
    records = records_in plant.tape;
    log_size = length_of plant.journal;
    slots = count plant.media - 1;
    present = slots_here (present plant.media);
    loads = plant.loads;
    faults = faults plant.media;
    tell_faults = tell_faults plant.media;
  }

-- reads give the same, whatever is settled of the tapes
pub record SameBut (s t : State) : Type 0 where
  pub log : t.log ≡ s.log
  pub tape : (k : ℕ) → t.tape k ≡ s.tape k
  pub told : t.told ≡ s.told
  pub log_settled : t.log_settled ≡ s.log_settled

-- The journal is the log of file 0, in each image that these moments may leave. It isn't damaged.
pub record JournalSuits {D : Type 0} (tells : Type 0) (moments : Moments D Image) (seen : D → Image) (present : D → ℕ → Bool) (log : CrashLog) (media : D) : Type 0 where
  pub file : file_of log ≡ 0
  pub limit : limit_of log ≡ 268435456
  pub here : IsTrue (present media 0)
  pub whole : damaged_of log ≡ false
  pub fits : tells → Fits moments seen (state_of log) media

-- Journal and loaded tape suit their files, in each image that these moments may leave. Every other tape's file is there as it
-- is read.
pub record Suits {D : Type 0} (tells : Type 0) (moments : Moments D Image) (seen : D → Image) (present : D → ℕ → Bool) (plant : MediaPlant D) : Type 0 where
  pub journal : JournalSuits tells moments seen present plant.journal plant.media
  pub loaded : IfSome plant.tape (λ tape. TapeSuits tells moments seen present tape plant.media)
  pub others : tells → (k : ℕ) → slot_in plant.tape ≢ Some k → IsStill moments seen (k + 1) plant.media

-- Calls may be made: journal and loaded tape fit their files, as reads give them. Nothing is said of a crash.
abbrev pub IsSound : {D : Type 0} → Type 0 → (D → Image) → (D → ℕ → Bool) → MediaPlant D → Type 0
IsSound tells seen present plant = Suits tells (as_read seen) seen present plant

-- A crash leaves what is settled: each image that one may leave has the settled log and the settled records of the loaded tape,
-- and every other tape as it is read.
abbrev pub Survives : {D : Type 0} → Type 0 → Moments D Image → (D → Image) → (D → ℕ → Bool) → MediaPlant D → Type 0
Survives tells moments seen present plant = Suits tells moments seen present plant
