-- What was asked of files and an output, what reads give after it, and what a crash may leave of it.
use Rattle.std.specs.Prelude.{◌≡◌, ℕ, zero, suc, min, List, [], ◌∷◌, ◌++◌, length, if◌then◌else◌, ◌==◌, Vec}
use Rattle.std.specs.declared.alloc.Global.{Global}
use Rattle.media_core.specs.declared.event.Event.{Event}
use Rattle.media_core.specs.declared.event.Event.TheVariants.{Opened, Write, Sync, Tell}
use Rattle.media_core.specs.Media.{Image, written}
use Rattle.media_core.specs.Disk.{Range, Piece, FileMayLeave, OutputMayLeave, IsPicked}
use Rattle.media_core.specs.declared.replay.Pick.{Pick}

-- of each file the bytes that a read gives, those that are on the disk for good and the ranges that were written since; and
-- of the output what was told, what there was at the start and each piece that was in progress
pub record Contents : Type 0 where
  pub bytes : ℕ → List ℕ
  pub synced : ℕ → List ℕ
  pub loose : ℕ → List Range
  pub told : List ℕ
  pub told_first : List ℕ
  pub pieces : List Piece

-- empty files
abbrev pub blank : Contents
blank = record { bytes = λ k. []; synced = λ k. []; loose = λ k. []; told = []; told_first = []; pieces = [] }

-- the bytes of a file, none where it isn't
abbrev pub file_bytes : List (Vec ℕ Global) → ℕ → List ℕ
file_bytes [] k = []
file_bytes (v ∷ vs) zero = v.items
file_bytes (v ∷ vs) (suc k) = file_bytes vs k

-- what an event makes of it
abbrev pub happens : Event → Contents → Contents
happens (Opened files told) s = record {
  bytes = file_bytes files.items;
  synced = file_bytes files.items;
  loose = λ k. [];
  told = told.items;
  told_first = told.items;
  pieces = [];
}
happens (Write f at bytes) s = record s {
  bytes = λ k. if k == f then written (min at (length (s.bytes k))) bytes.items (s.bytes k) else s.bytes k;
  loose = λ k. if k == f then record { at = min at (length (s.bytes k)); size = length bytes.items } ∷ s.loose k else s.loose k;
}
happens (Sync f) s = record s {
  synced = λ k. if k == f then s.bytes k else s.synced k;
  loose = λ k. if k == f then [] else s.loose k;
}
happens (Tell piece) s = record s {
  told = s.told ++ piece.items;
  pieces = record { before = s.told; bytes = piece.items } ∷ s.pieces;
}

-- what these events make of it, one after the other
abbrev pub after : List Event → Contents → Contents
after [] s = s
after (e ∷ es) s = after es (happens e s)

-- what reads give after these events
abbrev pub seen_after : List Event → Image
seen_after es = record { file = (after es blank).bytes; told = (after es blank).told }

-- what a crash may leave of one file
abbrev pub FileLeft : Contents → ℕ → List ℕ → Type 0
FileLeft s k = FileMayLeave (s.synced k) (s.bytes k) (s.loose k)

-- what a crash may leave of the output
abbrev pub ToldLeft : Contents → List ℕ → Type 0
ToldLeft s = OutputMayLeave s.told_first s.pieces

-- What a crash may leave after these events, by the disk model: each file for itself, and the output.
pub record IsLeft (es : List Event) (c : Image) : Type 0 where
  pub files : (k : ℕ) → FileLeft (after es blank) k (c.file k)
  pub told : ToldLeft (after es blank) c.told

-- one write more was asked
pub record Gains (old new : List Event) (f at : ℕ) (bytes : List ℕ) : Type 0 where
  pub kept : Vec ℕ Global
  pub is : kept.items ≡ bytes
  pub more : new ≡ old ++ Write f at kept ∷ []

-- one piece more was told or in progress
pub record TellsMore (old new : List Event) (piece : List ℕ) : Type 0 where
  pub kept : Vec ℕ Global
  pub is : kept.items ≡ piece
  pub more : new ≡ old ++ Tell kept ∷ []

-- a crash after these events may leave these bytes of the file of a number
abbrev pub LeftAfter : List Event → ℕ → List ℕ → Type 0
LeftAfter es = FileLeft (after es blank)

-- the bytes that a pick makes of a file
abbrev pub PickedAfter : Pick → List Event → ℕ → List ℕ → Type 0
PickedAfter pick es k = let s = after es blank in IsPicked pick (s.synced k) (s.bytes k) (s.loose k)
