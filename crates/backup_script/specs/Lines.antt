-- The lines of a script, and what was taken of one. A line ends at a line feed, which takes one carriage return in front of it away, or at
-- the end of the script where there is something of it: these are std's `lines`.
use Rattle.std.specs.Prelude.{◌≡◌, ℕ, List, [], ◌∷◌, ◌++◌, Bool, false, ◌==◌, if◌then◌else◌, Result, Ok, Err, codes, All}
use Rattle.std.specs.List.{list_any}
use Rattle.std.specs.Str.{bytes_eq}
use Rattle.backup_script.specs.declared.lines.Next.{Next}
use Rattle.backup_script.specs.declared.lines.Next.TheVariants.{Ended, Last, End}
use Rattle.backup_script.specs.declared.lines.LineStop.{LineStop}

-- the most bytes of a script
abbrev pub most_script : ℕ
most_script = 16777216

-- a byte that ends a line
abbrev pub is_feed : ℕ → Bool
is_feed b = b == 10

-- some line feed is among these bytes
abbrev pub has_feed : List ℕ → Bool
has_feed = list_any is_feed

-- the bytes up to the last line feed, itself included
abbrev pub ended : List ℕ → List ℕ
ended [] = []
ended (b ∷ rest) = if has_feed (b ∷ rest) then b ∷ ended rest else []

-- a line that ends the script
abbrev pub is_quit : List ℕ → Bool
is_quit line = bytes_eq line (codes "quit")

-- one of these lines is `quit`
abbrev pub has_quit : List (List ℕ) → Bool
has_quit = list_any is_quit

-- ---- inside the crate

-- bytes without a line feed were taken
pub record TookPiece (old new piece : List ℕ) : Type 0 where
  pub plain : All (λ b. is_feed b ≡ false) piece
  pub is : old ≡ piece ++ new

-- A line feed was taken with the bytes in front of it, or the script has ended behind these bytes, or some were taken.
abbrev pub TakesLine : List ℕ → List ℕ → Result Next LineStop → Type 0
TakesLine old new (Ok (Ended line)) = TookPiece old (10 ∷ new) line
TakesLine old new (Ok (Last line)) = TookPiece old [] line × (new ≡ [])
TakesLine old new (Ok End) = (old ≡ []) × (new ≡ [])
TakesLine old new (Err stop) = (piece : List ℕ) × TookPiece old new piece
