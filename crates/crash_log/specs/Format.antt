-- The steps by which a blank file and a damaged one are formatted.
use Rattle.std.specs.Prelude.{◌≡◌, ◌≢◌, ℕ, ◌≤◌, List, length, false}
use Rattle.crash_moments.specs.Moments.{Moments}
use Rattle.media_core.specs.Media.{Image}
use Rattle.crash_log.specs.Log.{Place, gate_at, place_at, is_good}
use Rattle.crash_log.specs.Fit.{IsStill}

-- turn 0, no bytes, behind the slots
abbrev pub first_place : Place
first_place = record { turn = 0; start = 8192; size = 0 }

-- all but the last byte of the slots: the first one is good and empty, the second one is closed
pub record IsFront (file : List ℕ) : Type 0 where
  pub size : length file ≡ 8191
  pub gate : gate_at 0 file ≡ 1
  pub place : place_at 0 file ≡ first_place
  pub other : gate_at 4096 file ≢ 1

-- no slot is good
pub record HasNoGood (file : List ℕ) : Type 0 where
  pub long : 8192 ≤ length file
  pub first : is_good 0 file ≡ false
  pub second : is_good 4096 file ≡ false

-- both gates are closed
pub record IsShut (file : List ℕ) : Type 0 where
  pub long : 8192 ≤ length file
  pub first : gate_at 0 file ≢ 1
  pub second : gate_at 4096 file ≢ 1

-- both gates are closed, and the first slot has the place of an empty log
pub record IsPlaced (file : List ℕ) : Type 0 where
  pub shut : IsShut file
  pub place : place_at 0 file ≡ first_place

-- the first slot is good and empty, the second one is closed
pub record IsFormatted (file : List ℕ) : Type 0 where
  pub long : 8192 ≤ length file
  pub gate : gate_at 0 file ≡ 1
  pub place : place_at 0 file ≡ first_place
  pub other : gate_at 4096 file ≢ 1

-- so the file is read, and so it is in each image
pub record Has {D : Type 0} (moments : Moments D Image) (seen : D → Image) (Is : List ℕ → Type 0) (f : ℕ) (media : D) : Type 0 where
  pub still : IsStill moments seen f media
  pub is : Is ((seen media).file f)
