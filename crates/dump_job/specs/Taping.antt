-- The tape step: the chosen tape is cut, and the part is begun.
use Rattle.std.specs.Prelude.{◌≡◌, ℕ, ◌+◌, ◌<◌, ◌≤◌, Option, Some, None, List, ◌∷◌, length, IsTrue}
use Rattle.plant_core.specs.declared.plant.Plant.{Ghosts as Plant}
use Rattle.plant_core.specs.Effects.{Effect, cuts}
use Rattle.plant_core.specs.Records.{Record, NoBad}
use Rattle.plant_effects.specs.Runs.{state_of}
use Rattle.tape_frames.specs.declared.label.LabelFields.{LabelFields}
use Rattle.tape_frames.specs.declared.dump_head.DumpHeadFields.{DumpHeadFields}
use Rattle.tape_text.specs.Items.{Item, Read}
use Rattle.tape_writer.specs.Puts.{begun, puts_on}
use Rattle.tape_writer.specs.Filling.{taken}
use Rattle.dump_job.specs.declared.fields.Hand.{Hand}
use Rattle.dump_job.specs.declared.fields.JobFields.{JobFields}
use Rattle.dump_job.specs.declared.fields.Phase.{Phase}
use Rattle.dump_job.specs.declared.fields.Phase.TheVariants as phase
use Rattle.dump_job.specs.declared.fields.Reel.{Reel}
use Rattle.dump_job.specs.Reels.{records_on, with_more}

-- The tape in a slot that is here has as many records as stay, and none is bad where any stay.
pub record IsFor {D : Type 0} (P : Plant D) (slot count : ℕ) (plant : D) : Type 0 where
  pub sound : P.sound plant
  pub here : IsTrue ((P.view plant).present slot)
  pub records : P.tells → count ≤ length ((state_of P plant).tape slot)
  pub whole : P.tells → 0 < count → NoBad ((state_of P plant).tape slot)

-- ---- uses

-- A tape that is taken has one use more than what stands on it tells; of one that is appended to they are known.
abbrev pub uses_by : Option LabelFields → ℕ → List Item → ℕ
uses_by None known old = known
uses_by (Some label) known old = (taken label old).uses

-- the uses that the part's head tells: one more than the tape's old head where the tape is taken, the known ones where it is appended to
abbrev pub uses_for : JobFields → List Item → ℕ
uses_for j old = uses_by j.label j.head.uses old

-- a part's head that tells so many uses
abbrev pub head_with : ℕ → DumpHeadFields → DumpHeadFields
head_with uses head = record head { uses = uses }

-- ---- what is put

-- what a part begins with: the new label and a filemark where the tape is taken, and the part's head
abbrev pub tape_items : ℕ → JobFields → List Item
tape_items uses j = begun j.label (head_with uses j.head)

-- the effects of a tape step: the tape is cut to the records that stay, and the part's beginning is put
abbrev pub tape_effects : ℕ → JobFields → List Effect
tape_effects uses j = cuts j.reel.slot (records_on j.reel) ∷ puts_on j.reel.slot (tape_items uses j)

-- a label is a block and a filemark in front of the head
abbrev pub reel_begun : Option LabelFields → Reel → Reel
reel_begun None reel = with_more 1 0 reel
reel_begun (Some label) reel = with_more 2 1 reel

-- the record at which the part's head stands: behind a new label and its filemark, or behind what stays
abbrev pub head_at : Option LabelFields → Reel → ℕ
head_at None reel = records_on reel
head_at (Some label) reel = records_on reel + 2

-- the volume in hand goes on, or the first one is cloned
abbrev pub phase_begun : Option Hand → Phase
phase_begun None = phase.Clone
phase_begun (Some h) = phase.Head

-- The dump after a tape step: the part is begun, its head tells the uses, and a clone or the volume in hand is next.
abbrev pub taped : ℕ → JobFields → JobFields
taped uses j = record j {
  head = head_with uses j.head;
  spare = None;
  reel = reel_begun j.label j.reel;
  first = head_at j.label j.reel;
  phase = phase_begun j.hand;
}

-- the tape was begun, with the uses that are due where contents are told
pub record IsTaped (told : Type 0) (tape : List Record) (old new : JobFields) : Type 0 where
  pub uses : ℕ
  pub right : told → (items : List Item) → Read tape items → uses ≡ uses_for old items
  pub is : new ≡ taped uses old
