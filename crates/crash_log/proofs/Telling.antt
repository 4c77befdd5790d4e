-- What callers may know of a log while they tell something.
use Rattle.std.proofs.Common.{◌≡◌, ℕ, List, length, ap, arith}
use Rattle.std.proofs.lemmas.List.{length-take}
use Rattle.crash_moments.specs.Moments.{Moments, Leads}
use Rattle.media_core.specs.Media.{Image, Tells}
use Rattle.crash_log.specs.CrashLog.{file_of, settled_of, log_bytes, settled_log, FitsIts, Survives}
use Rattle.crash_log.specs.Fit.{as_read}
use Rattle.crash_log.specs.declared.log.CrashLog.{CrashLog}
use Rattle.crash_log.proofs.Fitting.{settled_front, settled_within, bytes_long, fits_alone, reads_alone}

-- as many bytes are settled as the log says
pub settled_long : {D : Type 0} (seen : D → Image) (log : CrashLog) (media : D) → FitsIts seen log media → length (settled_log log ((seen media).file (file_of log))) ≡ settled_of log
settled_long seen log media fits =
    omega (arith, ap length (settled_front log ((seen media).file (file_of log))), length-take (settled_of log) (log_bytes log ((seen media).file (file_of log))), bytes_long (as_read seen) seen log media fits, settled_within log)

-- what is told leaves its file alone
module _ {D : Type 0} (seen : D → Image) (log : CrashLog) (old new : D) (same : (seen new).file ≡ (seen old).file) where
  here : (seen new).file (file_of log) ≡ (seen old).file (file_of log)
  here = ap (λ (files : ℕ → List ℕ). files (file_of log)) same

  pub told_fits : FitsIts seen log old → FitsIts seen log new
  told_fits fits = reads_alone seen log old new fits here

  pub told_survives : (time : Moments D Image) (taken piece : List ℕ) → Leads time old new (Tells taken piece) → Survives time seen log old → Survives time seen log new
  told_survives time taken piece leads survives = fits_alone time seen log old survives new (Tells taken piece) leads.now (λ a b step. step.files (file_of log)) here
