-- The forms of names: 1 to so many bytes of an alphabet.
use Rattle.std.specs.Prelude.{◌≢◌, ℕ, ◌<◌, ◌≤◌, List, length, All, slice_index, ⊤}

-- a byte of a name: 33 to 126 without '/'
abbrev pub IsNameByte : ℕ → Type 0
IsNameByte b = (32 < b) × (b < 127) × (b ≢ 47)

-- a byte of a name that has no period
abbrev pub IsSetNameByte : ℕ → Type 0
IsSetNameByte b = IsNameByte b × (b ≢ 46)

-- the first byte isn't '-', which begins an option
abbrev pub IsNoDash : ℕ → Type 0
IsNoDash b = b ≢ 45

-- 1 to so many bytes, each of them allowed, and the first one as a first one
pub record IsWord (Allowed First : ℕ → Type 0) (most : ℕ) (text : List ℕ) : Type 0 where
  pub some : 0 < length text
  pub short : length text ≤ most
  pub first : First (slice_index text 0)
  pub each : All Allowed text

-- a volume's name, and a partition's
abbrev pub IsName : List ℕ → Type 0
IsName = IsWord IsNameByte IsNoDash 31

-- a server's name
abbrev pub IsHost : List ℕ → Type 0
IsHost = IsWord IsNameByte IsNoDash 63

-- a volume set's name
abbrev pub IsSetName : List ℕ → Type 0
IsSetName = IsWord IsSetNameByte IsNoDash 31

-- the name on a tape's label
abbrev pub IsTapeName : List ℕ → Type 0
IsTapeName = IsWord IsNameByte (λ b. ⊤) 80

-- an element of a dump level's path
abbrev pub IsElement : List ℕ → Type 0
IsElement = IsWord IsNameByte (λ b. ⊤) 28
