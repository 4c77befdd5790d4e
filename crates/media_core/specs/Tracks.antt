-- Files that are played again, and what a pick makes of them.
use Rattle.std.specs.Prelude.{◌≡◌, ℕ, List, length, Vec}
use Rattle.std.specs.declared.alloc.Global.{Global}
use Rattle.media_core.specs.declared.event.Event.{Event}
use Rattle.media_core.specs.declared.replay.Pick.{Pick}
use Rattle.media_core.specs.declared.replay.Pick.TheVariants.{Old, New, Torn}
use Rattle.media_core.specs.Events.{blank, after, file_bytes, LeftAfter, PickedAfter}

-- where unsynced writes aren't lost, the lengths are those that a read gives
abbrev pub SameLengths : Pick → List (Vec ℕ Global) → List (Vec ℕ Global) → Type 0
SameLengths Old files picked = Unit {0}
SameLengths New files picked = (k : ℕ) → length (file_bytes picked k) ≡ length (file_bytes files k)
SameLengths (Torn byte) files picked = (k : ℕ) → length (file_bytes picked k) ≡ length (file_bytes files k)

-- Files played again have what reads give after these events, and the picked ones what the pick makes of them.
pub record Tracks (pick : Pick) (es : List Event) (files picked : List (Vec ℕ Global)) : Type 0 where
  pub bytes : (k : ℕ) → file_bytes files k ≡ (after es blank).bytes k
  pub left : (k : ℕ) → LeftAfter es k (file_bytes picked k)
  pub lengths : SameLengths pick files picked
  pub is : (k : ℕ) → PickedAfter pick es k (file_bytes picked k)
