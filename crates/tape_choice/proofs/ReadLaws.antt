-- What a block says that is a frame's.
use Rattle.std.proofs.Common.{◌≡◌, List, ℕ, sym, ◌∙◌, ap}
use Rattle.std.specs.Prelude.{Some}
use Rattle.plant_core.specs.Records.{block_with}
use Rattle.tape_frames.specs.declared.frame.Frame.{Frame}
use Rattle.tape_frames.specs.Frames.{Fits, spelling}
use Rattle.tape_text.specs.Items.{Item, Says, Filemark, Nothing, ReadsAs}
use Rattle.tape_choice.specs.Reads.{frame_of}

pub frame_said : ((f g : Frame) → Fits f → Fits g → spelling f ≡ spelling g → f ≡ g) → (bytes : List ℕ) (f : Frame) → Fits f → bytes ≡ spelling f → (i : Item) → ReadsAs (block_with bytes) i → Some f ≡ frame_of i
frame_said one bytes f fits is (Says g) said = ap (λ (h : Frame). Some h) (one f g fits said.0 (sym is ∙ said.1))
frame_said one bytes f fits is Filemark said = absurd said
frame_said one bytes f fits is Nothing said = absurd (said (f, fits, is))
