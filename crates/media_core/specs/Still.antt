-- That no write waits for a sync.
use Rattle.std.specs.Prelude.{◌≡◌, ℕ}
use Rattle.crash_moments.specs.Moments.{Moments}
use Rattle.media_core.specs.Media.{Image}

-- no write to a file waits: in each image it is as it is read
abbrev pub IsStill : {D : Type 0} → Moments D Image → (D → Image) → ℕ → D → Type 0
IsStill moments seen f media = (c : Image) → moments.may_leave media c → c.file f ≡ (seen media).file f

-- no write to any file waits
abbrev pub AreStill : {D : Type 0} → Moments D Image → (D → Image) → D → Type 0
AreStill moments seen media = (f : ℕ) → IsStill moments seen f media
