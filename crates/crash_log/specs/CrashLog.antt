-- What a log shows: its state, and the bytes that its file has for it.
use Rattle.std.specs.Prelude.{◌≡◌, ℕ, Bool, false, List}
use Rattle.crash_moments.specs.Moments.{Moments}
use Rattle.media_core.specs.Media.{Image}
use Rattle.crash_log.specs.State.{len_of, put_bytes, settled_bytes, needs_mending}
use Rattle.crash_log.specs.Fit.{Fits, as_read}
use Rattle.crash_log.specs.declared.state.LogState.{LogState}
use Rattle.crash_log.specs.declared.log.CrashLog.{CrashLog}

-- its state: its file and limit, what its current slot says, how many bytes were put, and what has to be done first
abbrev pub state_of : CrashLog → LogState
state_of log = log.state

-- the number of its file, and its limit in bytes
abbrev pub file_of : CrashLog → ℕ
file_of log = log.state.file

-- the most bytes that it may have; none is put beyond
abbrev pub limit_of : CrashLog → ℕ
limit_of log = log.state.limit

-- how many bytes it has, with those that were put
abbrev pub length_of : CrashLog → ℕ
length_of log = len_of log.state

-- how many of them are settled: a crash leaves these
abbrev pub settled_of : CrashLog → ℕ
settled_of log = log.state.size

-- its file was damaged, and wasn't formatted since
abbrev pub damaged_of : CrashLog → Bool
damaged_of log = needs_mending log.state.needs

-- its bytes in a file, with those that were put
abbrev pub log_bytes : CrashLog → List ℕ → List ℕ
log_bytes log file = put_bytes log.state file

-- the same without those that were put since the last commit, cut or replace
abbrev pub settled_log : CrashLog → List ℕ → List ℕ
settled_log log file = settled_bytes log.state file

-- It fits its file: reads give its bytes, with what was put.
abbrev pub FitsIts : {D : Type 0} → (D → Image) → CrashLog → D → Type 0
FitsIts seen log media = Fits (as_read seen) seen log.state media

-- It survives a crash: each image that a crash may leave has its settled log. Where all of it is settled no write to its file
-- waits for a sync.
abbrev pub Survives : {D : Type 0} → Moments D Image → (D → Image) → CrashLog → D → Type 0
Survives moments seen log media = Fits moments seen log.state media

-- it is the log of the same file with the same limit, of this length, of which so much is settled, and isn't damaged
pub record IsNow (old : CrashLog) (n kept : ℕ) (new : CrashLog) : Type 0 where
  pub file : file_of new ≡ file_of old
  pub limit : limit_of new ≡ limit_of old
  pub size : length_of new ≡ n
  pub settled : settled_of new ≡ kept
  pub sound : damaged_of new ≡ false
