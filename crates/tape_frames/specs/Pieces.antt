-- What is told of a piece of data without its bytes.
use Rattle.std.specs.Prelude.{◌≡◌, ℕ, List}
use Rattle.tape_frames.specs.declared.decoding.Piece.{Piece}
use Rattle.tape_frames.specs.declared.data.DataFields.{DataFields}
use Rattle.tape_frames.specs.declared.frame.Frame.TheVariants.{Data}
use Rattle.tape_frames.specs.Layouts.{FitsData}
use Rattle.tape_frames.specs.Frames.{spelling}

-- the fields of a piece, but for its bytes
pub record Tells (p : Piece) (d : DataFields) : Type 0 where
  pub dump : p.dump ≡ d.dump
  pub index : p.index ≡ d.index
  pub used : p.used ≡ d.used

-- the block is that of a piece of data, of which this is told
pub record IsPieceOf (block : List ℕ) (p : Piece) : Type 0 where
  pub fields : DataFields
  pub fits : FitsData fields
  pub is : block ≡ spelling (Data fields)
  pub told : Tells p fields
