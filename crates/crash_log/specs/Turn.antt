-- The steps by which the other slot becomes the current one.
use Rattle.std.specs.Prelude.{◌≡◌, ◌≢◌, ℕ, ◌+◌, ◌≤◌, List, length}
use Rattle.crash_moments.specs.Moments.{Moments}
use Rattle.media_core.specs.Media.{Image}
use Rattle.crash_log.specs.Log.{Place, IsFine, gate_at, place_at, successor}
use Rattle.crash_log.specs.State.{base_of, other_of, place_in, settled_bytes}
use Rattle.crash_log.specs.Fit.{Stands, IsStill}
use Rattle.crash_log.specs.declared.state.LogState.{LogState}

-- the other slot is closed in each image
pub record IsClosed {D : Type 0} (moments : Moments D Image) (seen : D → Image) (log : LogState) (media : D) : Type 0 where
  pub fine : IsFine (place_in log)
  pub put : log.start + (log.size + log.more) ≤ length ((seen media).file log.file)
  pub stands : (c : Image) → moments.may_leave media c → Stands (base_of log) (place_in log) (settled_bytes log ((seen media).file log.file)) (c.file log.file)
  pub shut : (c : Image) → moments.may_leave media c → gate_at (other_of log) (c.file log.file) ≢ 1

-- a place that may come next: the next turn, and bytes that the file has
pub record IsNext (log : LogState) (p : Place) (file : List ℕ) : Type 0 where
  pub fine : IsFine p
  pub turn : p.turn ≡ successor log.turn
  pub within : p.start + p.size ≤ length file

-- the closed slot has the next place, all of it on the disk
pub record IsNamed {D : Type 0} (moments : Moments D Image) (seen : D → Image) (log : LogState) (p : Place) (media : D) : Type 0 where
  pub closed : IsClosed moments seen log media
  pub durable : IsStill moments seen log.file media
  pub place : place_at (other_of log) ((seen media).file log.file) ≡ p
