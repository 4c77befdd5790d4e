-- The forms of an order, of what stands on the tapes, and of the tape on which a dump begins.
use Rattle.std.specs.Prelude.{◌≡◌, ℕ, ◌*◌, ◌≤◌, Some, IfSome, List, length, slice_get}
use Rattle.bk_text.specs.Alphabets.{IsSetName, IsHost, IsTapeName}
use Rattle.bk_text.specs.LevelPaths.{IsLevelPath}
use Rattle.byte_formats.specs.Forms.{IsFour, IsMaybe, base_most}
use Rattle.tape_config.specs.declared.port.PortFields.{PortFields}
use Rattle.tape_frames.specs.declared.frame.Frame.{Frame}
use Rattle.tape_frames.specs.declared.label.LabelFields.{LabelFields}
use Rattle.tape_frames.specs.Frames.{Fits}
use Rattle.tape_frames.specs.TapeNames.{numbered}
use Rattle.tape_text.specs.Items.{Says}
use Rattle.tape_scan.specs.Slots.{Slot}
use Rattle.tape_writer.specs.Room.{HasRoom, with_label}
use Rattle.tape_choice.specs.Choice.{takes}
use Rattle.budb_changes.specs.Forms.{AreChanges}
use Rattle.dump_job.specs.declared.order.DumpOrder.{DumpOrder}
use Rattle.dump_job.specs.declared.first_tapes.FirstTape.{FirstTape}
use Rattle.dump_job.specs.Reels.{counts_on}

-- An order whose fields have their forms.
pub record IsOrderForm (o : DumpOrder) : Type 0 where
  pub set : IsSetName o.set
  pub level : IsLevelPath o.level
  pub expires : IsFour o.expires
  pub parent : IsFour o.parent
  pub capacity : o.port.capacity ≤ 4000000000
  pub few : length o.volumes ≤ 4294967295
  pub time : IsFour o.time
  pub cell : IsMaybe IsHost o.cell

-- The fields of each frame that stands on a tape fit.
abbrev pub AllFit : List Slot → Type 0
AllFit slots = (k : ℕ) (s : Slot) (n : ℕ) (f : Frame) → slice_get slots k ≡ Some s → slice_get s.items n ≡ Some (Says f) → Fits f

-- the label that a tape gets where it is taken
abbrev pub label_of : FirstTape → LabelFields
label_of t = record { initial = t.initial; tape = t.tape; afs = numbered t.base t.tape; permanent = t.permanent }

-- the tape on which a dump of this id begins
pub record IsTapeForm (port : PortFields) (id : ℕ) (t : FirstTape) : Type 0 where
  pub initial : (1 ≤ t.initial) × (t.initial ≤ id)
  pub tape : (1 ≤ t.tape) × IsFour t.tape
  pub base : IsTapeName t.base × (length t.base ≤ base_most)
  pub permanent : IsMaybe IsTapeName t.permanent
  pub label : IfSome t.label (λ l. l ≡ label_of t)
  pub uses : (1 ≤ t.uses) × IsFour t.uses
  pub marks : t.reel.marks ≤ t.reel.blocks
  pub few : t.reel.blocks * 16384 ≤ port.capacity
  pub room : HasRoom 5 2 (with_label t.label (counts_on port t.reel))
  pub take : AreChanges (takes t.take)
