-- The disk model: what a crash may leave of a file since its last sync, and of the output.
use Rattle.std.specs.Prelude.{◌≡◌, ◌⊎◌, ℕ, ◌+◌, ◌<◌, ◌≤◌, nat_le, nat_lt, ◌&&◌, if◌then◌else◌, Bool, true, false, List, [], ◌∷◌, ◌++◌, length, take, slice_index, Contains}
use Rattle.media_core.specs.declared.replay.Pick.{Pick}
use Rattle.media_core.specs.declared.replay.Pick.TheVariants.{Old, New, Torn}

-- a range of a file that was written
pub record Range : Type 0 where
  pub at : ℕ
  pub size : ℕ

-- a byte, counted from 0 in its file, lies in one of these ranges
abbrev pub covers : List Range → ℕ → Bool
covers [] i = false
covers (r ∷ rs) i = if nat_le r.at i && nat_lt i (r.at + r.size) then true else covers rs i

-- Between two syncs each written range, and the part past the old end, may hold any bytes. Other bytes stay, and the length
-- lies between the old and the new one.
pub record FileMayLeave (synced bytes : List ℕ) (loose : List Range) (c : List ℕ) : Type 0 where
  pub no_shorter : length synced ≤ length c
  pub no_longer : length c ≤ length bytes
  pub rest : (i : ℕ) → i < length synced → covers loose i ≡ false → slice_index c i ≡ slice_index synced i

-- a piece that was in progress, and what was told before it
pub record Piece : Type 0 where
  pub before : List ℕ
  pub bytes : List ℕ

-- The output is what there was at the start, or what was told before some piece with a front of that piece.
pub record HasFront (pieces : List Piece) (c : List ℕ) : Type 0 where
  pub piece : Piece
  pub among : Contains pieces piece
  pub size : ℕ
  pub is : c ≡ piece.before ++ take size piece.bytes

-- what a crash may leave of the output: what was there at the start, or all before some piece with a front of it
abbrev pub OutputMayLeave : List ℕ → List Piece → List ℕ → Type 0
OutputMayLeave first pieces c = (c ≡ first) ⊎ HasFront pieces c

-- What a pick makes of a file: the bytes of its last sync, those that a read gives, or those with one byte in place of each
-- that was written since, at the length that a read gives.
pub record IsFilled (byte : ℕ) (bytes : List ℕ) (loose : List Range) (c : List ℕ) : Type 0 where
  pub size : length c ≡ length bytes
  pub each : (i : ℕ) → i < length c → slice_index c i ≡ (if covers loose i then byte else slice_index bytes i)

-- what a pick makes of a file, by its bytes of the last sync, those that a read gives, and the ranges written since
abbrev pub IsPicked : Pick → List ℕ → List ℕ → List Range → List ℕ → Type 0
IsPicked Old synced bytes loose c = c ≡ synced
IsPicked New synced bytes loose c = c ≡ bytes
IsPicked (Torn byte) synced bytes loose c = IsFilled byte bytes loose c
