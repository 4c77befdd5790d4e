-- What is put on the loaded tape of a plant.
use Rattle.std.specs.Prelude.{◌≡◌, ℕ, ◌+◌, ◌==◌, if◌then◌else◌, Option, Some, None, List, [], ◌∷◌, ◌++◌, length, map, IsSome}
use Rattle.plant_core.specs.declared.plant.Plant.{Ghosts as Plant}
use Rattle.plant_core.specs.Crashes.{State}
use Rattle.plant_core.specs.Effects.{Effect, puts, settles}
use Rattle.plant_core.specs.Records.{NoBad}
use Rattle.plant_effects.specs.Runs.{loaded_of, OnLoaded}
use Rattle.tape_frames.specs.declared.frame.Frame.TheVariants as frames
use Rattle.tape_frames.specs.declared.label.LabelFields.{LabelFields}
use Rattle.tape_frames.specs.declared.dump_head.DumpHeadFields.{DumpHeadFields}
use Rattle.tape_text.specs.Items.{Item, Says, Filemark, Nothing, record_for}
use Rattle.tape_writer.specs.Room.{Counts}

-- The loaded tape is the one that is counted: it has as many records, and none is bad where contents are told.
pub record IsCounted {D : Type 0} (P : Plant D) (count : ℕ) (plant : D) : Type 0 where
  pub sound : P.sound plant
  pub loaded : IsSome (loaded_of P plant)
  pub records : (P.view plant).records ≡ count
  pub whole : OnLoaded P NoBad plant

-- how many records stand on the counted tape: each block is one, and each filemark
abbrev pub records_of : Counts → ℕ
records_of c = c.blocks + c.marks

-- the effects of putting an item on the tape of a slot; a filemark settles the tape
abbrev pub put_on : ℕ → Item → List Effect
put_on k (Says f) = puts k (record_for (Says f)) ∷ []
put_on k Filemark = puts k (record_for Filemark) ∷ settles k ∷ []
put_on k Nothing = puts k (record_for Nothing) ∷ []

-- the same of items one after the other
unfoldable pub puts_on : ℕ → List Item → List Effect
puts_on k [] = []
puts_on k (i ∷ is) = put_on k i ++ puts_on k is

-- what a part begins with: on a tape that is taken with its label
abbrev pub begun : Option LabelFields → DumpHeadFields → List Item
begun None head = Says (frames.DumpHead head) ∷ []
begun (Some label) head = Says (frames.Label label) ∷ Filemark ∷ Says (frames.DumpHead head) ∷ []

-- how many records of a tape are settled when items are put behind so many of them: a filemark settles all up to itself
abbrev pub settled_by : ℕ → ℕ → List Item → ℕ
settled_by count settled [] = settled
settled_by count settled (Says f ∷ is) = settled_by (count + 1) settled is
settled_by count settled (Filemark ∷ is) = settled_by (count + 1) (count + 1) is
settled_by count settled (Nothing ∷ is) = settled_by (count + 1) settled is

-- a state with items put on the tape of a slot, and nothing else changed
abbrev pub with_items : ℕ → List Item → State → State
with_items k items s = record s {
  tape = λ j. if j == k then s.tape j ++ map record_for items else s.tape j;
  settled = λ j. if j == k then settled_by (length (s.tape j)) (s.settled j) items else s.settled j;
}
