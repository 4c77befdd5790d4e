-- What callers may know of a log that fits its file.
use Rattle.std.proofs.Common.{◌≡◌, inl, inr, ℕ, ◌+◌, ◌<◌, ◌≤◌, true, false, List, length, take, drop, ◌∙◌, ap, arith, length-drop}
use Rattle.std.proofs.lemmas.Bool.{cases_lt}
use Rattle.std.proofs.lemmas.List.{length-take}
use Rattle.crash_moments.specs.Moments.{Moments, Stepped}
use Rattle.media_core.specs.Media.{Image}
use Rattle.crash_log.specs.Log.{log_of, is_damaged}
use Rattle.crash_log.specs.State.{base_of, other_of, place_in, settled_bytes, needs_mending}
use Rattle.crash_log.specs.Fit.{Fits, FitsAs, IsStill, as_read}
use Rattle.crash_log.specs.CrashLog.{file_of, length_of, settled_of, damaged_of, log_bytes, settled_log, FitsIts, Survives}
use Rattle.crash_log.specs.declared.log.CrashLog.{CrashLog}
use Rattle.crash_log.specs.declared.state.LogState.{LogState}
use Rattle.crash_log.specs.declared.state.Needs.{Needs}
use Rattle.crash_log.specs.declared.state.Needs.TheVariants.{Nothing, Blank, Damaged, Stale}
use Rattle.crash_log.proofs.Changing.{fits_kept, fits_long, fits_has_log, span_front}
use Rattle.crash_log.proofs.Closing.{apart, ready_whole}
use Rattle.crash_log.proofs.Formatting.{none_damaged}
use Rattle.crash_log.proofs.Reading.{step_read, fits_still}
use Rattle.crash_log.proofs.Slots.{stands_whole, short_whole}

whole_as : {D : Type 0} (needs : Needs) (moments : Moments D Image) (seen : D → Image) (log : LogState) (media : D) → FitsAs needs moments seen log media → needs_mending needs ≡ false
    → (c : Image) → moments.may_leave media c → is_damaged (c.file log.file) ≡ false
whole_as Nothing moments seen log media fits whole c left = ready_whole moments seen log media fits.ready c left
whole_as Blank moments seen log media fits whole c left = ap is_damaged (fits.still c left) ∙ short_whole ((seen media).file log.file) fits.short
whole_as (Damaged first second) moments seen log media fits whole c left = absurd (cc)
whole_as Stale moments seen log media fits whole c left =
    ap is_damaged (fits.still c left) ∙ stands_whole (base_of log) (other_of log) (apart log) (place_in log) (settled_bytes log ((seen media).file log.file)) ((seen media).file log.file) fits.fine fits.stands

still_as : {D : Type 0} (needs : Needs) (moments : Moments D Image) (seen : D → Image) (log : LogState) (media : D) → FitsAs needs moments seen log media → needs_mending needs ≡ true → IsStill moments seen log.file media
still_as Nothing moments seen log media fits damaged = absurd (cc)
still_as Blank moments seen log media fits damaged = absurd (cc)
still_as (Damaged first second) moments seen log media fits damaged = fits.still
still_as Stale moments seen log media fits damaged = absurd (cc)

damaged_as : {D : Type 0} (needs : Needs) (moments : Moments D Image) (seen : D → Image) (log : LogState) (media : D) → FitsAs needs moments seen log media → needs_mending needs ≡ true
    → is_damaged ((seen media).file log.file) ≡ true
damaged_as Nothing moments seen log media fits damaged = absurd (cc)
damaged_as Blank moments seen log media fits damaged = absurd (cc)
damaged_as (Damaged first second) moments seen log media fits damaged = none_damaged ((seen media).file log.file) fits.long fits.first_bad fits.second_bad
damaged_as Stale moments seen log media fits damaged = absurd (cc)

quiet_as : {D : Type 0} (needs : Needs) (moments : Moments D Image) (seen : D → Image) (log : LogState) (media : D) → FitsAs needs moments seen log media → log.more ≡ 0 → IsStill moments seen log.file media
quiet_as Nothing moments seen log media fits none = fits.quiet none
quiet_as Blank moments seen log media fits none = fits.still
quiet_as (Damaged first second) moments seen log media fits none = fits.still
quiet_as Stale moments seen log media fits none = fits.still

long_span : (at n : ℕ) (file : List ℕ) → (0 < n → at + n ≤ length file) → length (take n (drop at file)) ≡ n
long_span at n file within = elim (cases_lt 0 n) [
  | inl some ↦ omega (arith, within some, length-take n (drop at file), length-drop at file)
  | inr none ↦ omega (arith, length-take n (drop at file))
]

-- what was put comes behind what is settled
pub settled_front : (log : CrashLog) (file : List ℕ) → settled_log log file ≡ take (settled_of log) (log_bytes log file)
settled_front log file = span_front log.state.start (log.state.size + log.state.more) log.state.size file (omega arith)

-- no more is settled than there is
pub settled_within : (log : CrashLog) → settled_of log ≤ length_of log
settled_within log = omega arith

-- a damaged log is empty
pub damaged_empty : (log : CrashLog) → damaged_of log ≡ true → length_of log ≡ 0
damaged_empty log damaged = log.bounded.none damaged

module _ {D : Type 0} (moments : Moments D Image) (seen : D → Image) (log : CrashLog) (media : D) (fits : Fits moments seen log.state media) where
  -- each image has the settled log
  pub log_left : (c : Image) → moments.may_leave media c → log_of (c.file (file_of log)) ≡ settled_log log ((seen media).file (file_of log))
  log_left c left = fits_has_log log.state.needs moments seen log.state media fits c left

  -- where the log isn't damaged no image is
  pub whole_left : damaged_of log ≡ false → (c : Image) → moments.may_leave media c → is_damaged (c.file (file_of log)) ≡ false
  whole_left whole c left = whole_as log.state.needs moments seen log.state media fits whole c left

  -- to a damaged one nothing was written
  pub still_damaged : damaged_of log ≡ true → IsStill moments seen (file_of log) media
  still_damaged damaged = still_as log.state.needs moments seen log.state media fits damaged

  -- of one of which all is settled no write waits for a sync
  pub still_settled : settled_of log ≡ length_of log → IsStill moments seen (file_of log) media
  still_settled all = quiet_as log.state.needs moments seen log.state media fits (omega (arith, all))

  pub damaged_is : damaged_of log ≡ true → is_damaged ((seen media).file (file_of log)) ≡ true
  damaged_is damaged = damaged_as log.state.needs moments seen log.state media fits damaged

  -- reads give as many bytes as the log has
  pub bytes_long : length (log_bytes log ((seen media).file (file_of log))) ≡ length_of log
  bytes_long = long_span log.state.start (log.state.size + log.state.more) ((seen media).file (file_of log)) (fits_long log.state.needs moments seen log.state media fits)

  -- what leaves the file alone keeps the fit
  pub fits_alone : (new : D) (R : Image → Image → Type 0) → ((c : Image) → moments.may_leave new c → Stepped moments media R c) → ((a b : Image) → R a b → b.file (file_of log) ≡ a.file (file_of log))
      → (seen new).file (file_of log) ≡ (seen media).file (file_of log) → Fits moments seen log.state new
  fits_alone new R now alone same = fits_kept moments seen log.state media new R fits now alone same

-- so does what reads of the file as before
pub reads_alone : {D : Type 0} (seen : D → Image) (log : CrashLog) (media new : D) → FitsIts seen log media → (seen new).file (file_of log) ≡ (seen media).file (file_of log) → FitsIts seen log new
reads_alone seen log media new fits same =
    let Alone = λ (a b : Image). b.file (file_of log) ≡ a.file (file_of log) in
    fits_alone (as_read seen) seen log media fits new Alone (step_read seen media new Alone same) (λ a b step. step) same

-- where no write to the file waits for a sync, a log that fits survives a crash
pub survives_still : {D : Type 0} (moments : Moments D Image) (seen : D → Image) (log : CrashLog) (media : D) → IsStill moments seen (file_of log) media → FitsIts seen log media → Survives moments seen log media
survives_still moments seen log media still fits = fits_still moments seen log.state media still fits
