-- Numbered files and one output, and what the calls of a media do to them.
use Rattle.std.specs.Prelude.{◌≡◌, ◌≢◌, ◌⊎◌, ℕ, ◌+◌, ◌≤◌, max, List, [], ◌++◌, length, take, drop}

-- the bytes of each file, and what was told
pub record Image : Type 0 where
  pub file : ℕ → List ℕ
  pub told : List ℕ

-- a file with these bytes at this offset
abbrev pub written : ℕ → List ℕ → List ℕ → List ℕ
written at bytes old = take at old ++ bytes ++ drop (at + length bytes) old

-- a file is as it was but for these bytes, which are written at this offset
abbrev pub Holds : ℕ → List ℕ → List ℕ → List ℕ → Type 0
Holds at bytes old new = new ≡ written at bytes old

-- after a write of n bytes that a crash cuts short: any bytes in the range and past the old end, the same elsewhere
pub record Torn (at n : ℕ) (old new : List ℕ) : Type 0 where
  pub before : take at new ≡ take at old
  pub after : drop (at + n) new ≡ drop (at + n) old
  pub no_shorter : length old ≤ length new
  pub no_longer : length new ≤ max (length old) (at + n)

-- one file changes so, and nothing else
pub record AtFile (f : ℕ) (Change : List ℕ → List ℕ → Type 0) (old new : Image) : Type 0 where
  pub here : Change (old.file f) (new.file f)
  pub others : (k : ℕ) → k ≢ f → new.file k ≡ old.file k
  pub told : new.told ≡ old.told

-- nothing changes
abbrev pub Same : Image → Image → Type 0
Same old new = new ≡ old

-- the files stay, and the output has a front of a piece more, once it has all that was taken
pub record Tells (taken piece : List ℕ) (old new : Image) : Type 0 where
  pub files : (k : ℕ) → new.file k ≡ old.file k
  pub told : (new.told ≡ old.told) ⊎ ((old.told ≡ taken) × ((n : ℕ) × (new.told ≡ taken ++ take n piece)))

-- empty files, and nothing told
abbrev pub nothing : Image
nothing = record { file = λ k. []; told = [] }
