-- Whatever stands on the tapes of a plant, the frames that are read there fit.
use Rattle.std.proofs.Common.{◌≡◌, ℕ, zero, suc, Bool, Option, Some, None, List, [], ◌∷◌, refl, sym, subst}
use Rattle.std.specs.Prelude.{slice_get}
use Rattle.bk_text.specs.declared.words.Alphabet.TheVariants.{Plain, NoPeriod, AnyFirst}
use Rattle.bk_text.proofs.TestLaws.{word_tells, path_tells}
use Rattle.plant_core.specs.Records.{Record, block_with, mark, bad}
use Rattle.tape_frames.specs.declared.frame.Frame.{Frame}
use Rattle.tape_frames.specs.Frames.{Fits}
use Rattle.tape_text.specs.Items.{Says}
use Rattle.tape_scan.specs.Slots.{Slot}
use Rattle.tape_answers.specs.Reading.{frame_in, item_for, item_of, items_of}
use Rattle.tape_answers.specs.Slots.{slot_of, slots_from, slots_of}
use Rattle.tape_answers.proofs.FieldLaws.{Forms}
use Rattle.tape_answers.proofs.ReadingLaws.{frame_there}
use Rattle.dump_forms.specs.Begins.{AllFit}

forms : Forms
forms = record { name = word_tells Plain 31; host = word_tells Plain 63; set_name = word_tells NoPeriod 31; tape_name = word_tells AnyFirst 80; level_path = path_tells }

frame_fits : (bytes : List ℕ) (f : Frame) (o : Option Frame) → frame_in bytes ≡ o → item_for o ≡ Says f → Fits f
frame_fits bytes f None read is = absurd (cc)
frame_fits bytes f (Some g) read is = (let same : g ≡ f = cc in subst Fits same (frame_there forms bytes g read).0)

record_fits : (r : Record) (f : Frame) → item_of r ≡ Says f → Fits f
record_fits (block_with bytes) f is = frame_fits bytes f (frame_in bytes) refl is
record_fits mark f is = absurd (cc)
record_fits bad f is = absurd (cc)

items_fit : (tape : List Record) (n : ℕ) (f : Frame) → slice_get (items_of tape) n ≡ Some (Says f) → Fits f
items_fit [] n f at = absurd (cc)
items_fit (r ∷ tape) zero f at = (let is : item_of r ≡ Says f = cc in record_fits r f is)
items_fit (r ∷ tape) (suc n) f at = items_fit tape n f at

slots_fit : (first count : ℕ) (present : ℕ → Bool) (tape : ℕ → List Record) → AllFit (slots_from first count present tape)
slots_fit first zero present tape k s n f at is = absurd (cc)
slots_fit first (suc count) present tape zero s n f at is =
    let same : slot_of present tape first ≡ s = cc in
    items_fit (tape first) n f (subst (λ (x : Slot). slice_get x.items n ≡ Some (Says f)) (sym same) is)
slots_fit first (suc count) present tape (suc k) s n f at is = slots_fit (suc first) count present tape k s n f at is

pub tapes_fit : (count : ℕ) (present : ℕ → Bool) (tape : ℕ → List Record) → AllFit (slots_of count present tape)
unfolding slots_of
tapes_fit count present tape = slots_fit 0 count present tape
