-- What the reading of a block's first eight bytes answers, and where zeros end.
use Rattle.std.specs.Prelude.{◌≡◌, ◌≢◌, ℕ, ◌+◌, ◌<◌, List, ◌++◌, length, take, replicate, slice_index}
use Rattle.tape_frames.specs.declared.kind.Kind.{Kind}
use Rattle.tape_frames.specs.Kinds.{head}

-- two lists are the same up to here, where they differ
abbrev pub Differs : List ℕ → List ℕ → ℕ → Type 0
Differs a b at = (at < length a) × (take at a ≡ take at b) × (slice_index a at ≢ slice_index b at)

-- some kind's head begins with the bytes before this place, and none with its byte too
pub record HeadSticks (block : List ℕ) (at : ℕ) : Type 0 where
  pub within : at < 8
  pub before : (kind : Kind) × (rest : List ℕ) × (head kind ≡ take at block ++ rest)
  pub here : (kind : Kind) → take (at + 1) (head kind) ≡ take (at + 1) block → ⊥

-- the first byte that isn't 0
abbrev pub IsFirstSet : List ℕ → ℕ → Type 0
IsFirstSet bytes at = (at < length bytes) × (take at bytes ≡ replicate at 0) × (slice_index bytes at ≢ 0)
