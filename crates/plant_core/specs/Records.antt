-- The records of a tape, and how a call shows them.
use Rattle.std.specs.Prelude.{◌≡◌, ◌≢◌, ℕ, List, [], ◌∷◌, Option, Some, None, slice_get}
use Rattle.plant_core.specs.declared.record.Kind.{Kind}
use Rattle.plant_core.specs.declared.record.Kind.TheVariants.{Block, Mark, Bad}

-- A record of a tape: a block with its bytes, a mark, or a bad one, which a torn put or foreign bytes left.
pub data Record : Type 0 where
  block_with : List ℕ → Record
  mark : Record
  bad : Record

-- A record is shown by its kind, and by its bytes where it is a block.
abbrev pub Shows : Record → Kind → List ℕ → Type 0
Shows (block_with bytes) kind into = (kind ≡ Block) × (into ≡ bytes)
Shows mark kind into = kind ≡ Mark
Shows bad kind into = kind ≡ Bad

-- The record at a place of a tape is shown so.
pub record ShowsAt (tape : List Record) (i : ℕ) (kind : Kind) (into : List ℕ) : Type 0 where
  pub found : Record
  pub is : slice_get tape i ≡ Some found
  pub shown : Shows found kind into

-- The first record of a tape is shown: none exactly where there are no records.
abbrev pub ShowsFirst : List Record → Option Kind → List ℕ → Type 0
ShowsFirst [] shown into = shown ≡ None
ShowsFirst (first ∷ rest) shown into = (kind : Kind) × ((shown ≡ Some kind) × Shows first kind into)

-- no record is a bad one
abbrev pub NoBad : List Record → Type 0
NoBad tape = (i : ℕ) → slice_get tape i ≢ Some bad
