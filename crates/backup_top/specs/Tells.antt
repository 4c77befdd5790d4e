-- What telling pieces to a media leaves of it.
use Rattle.std.specs.Prelude.{◌≡◌, ◌⊎◌, ℕ, ◌≤◌, Bool, List, ◌++◌, Result, OnOk, OnErr}
use Rattle.crash_moments.specs.Moments.{Moments, Leads}
use Rattle.crash_moments.specs.Telling.{Extends}
use Rattle.media_core.specs.Media.{Image}

-- the first bytes of others
abbrev pub Heads : List ℕ → List ℕ → Type 0
Heads front whole = (rest : List ℕ) × (whole ≡ front ++ rest)

-- a front of these lines was told
abbrev pub ToldFront : List ℕ → List ℕ → List ℕ → Type 0
ToldFront lines old new = (front : List ℕ) × Heads front lines × (new ≡ old ++ front)

-- the lines were told, or a front of them where a call failed
pub record ToldLines {T E : Type 0} (lines old new : List ℕ) (result : Result T E) : Type 0 where
  pub ok : OnOk result (new ≡ old ++ lines)
  pub err : OnErr result (ToldFront lines old new)

-- What an image was told stays, or it was a front of these lines behind what was told before them, and is one now.
abbrev pub TellsOn : List ℕ → List ℕ → Image → Image → Type 0
TellsOn lines taken old new = (new.told ≡ old.told) ⊎ (ToldFront lines taken old.told × ToldFront lines taken new.told)

-- nothing but the output changes, and it grows
pub record OnlyGrows (old new : Image) : Type 0 where
  pub files : (k : ℕ) → new.file k ≡ old.file k
  pub told : Extends old.told new.told

-- The files stay as they are, also in each image that a crash might have left since, their count of faults is as before, and
-- that of the output doesn't fall.
pub record OnlyTells {D : Type 0} (tells : Type 0) (seen : D → Image) (time : Moments D Image) (count : D → ℕ) (present : D → ℕ → Bool) (faults tell_faults : D → ℕ) (old new : D) : Type 0 where
  pub files : tells → (seen new).file ≡ (seen old).file
  pub images : tells → Leads time old new OnlyGrows
  pub same_count : count new ≡ count old
  pub same_present : present new ≡ present old
  pub faults_stay : faults new ≡ faults old
  pub tell_faults_stay : tell_faults old ≤ tell_faults new
