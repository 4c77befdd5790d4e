-- Items put one behind another.
use Rattle.std.proofs.Common.{◌≡◌, ℕ, List, [], ◌∷◌, ◌++◌, refl, sym, ap, ◌∙◌, append_assoc}
use Rattle.plant_core.specs.Effects.{Effect, puts, settles}
use Rattle.plant_core.specs.Records.{block_with, mark}
use Rattle.tape_frames.specs.declared.frame.Frame.{Frame}
use Rattle.tape_frames.specs.Frames.{spelling}
use Rattle.tape_text.specs.Items.{Item, Says, Filemark}
use Rattle.tape_writer.specs.Puts.{put_on, puts_on}

pub puts_on-append : (k : ℕ) (is js : List Item) → puts_on k (is ++ js) ≡ puts_on k is ++ puts_on k js
unfolding puts_on
puts_on-append k [] js = refl
puts_on-append k (i ∷ is) js = ap (λ (l : List Effect). put_on k i ++ l) (puts_on-append k is js) ∙ sym (append_assoc (put_on k i) (puts_on k is) (puts_on k js))

pub closed_is : (k : ℕ) (f : Frame) → puts_on k (Says f ∷ Filemark ∷ []) ≡ puts_on k (Says f ∷ []) ++ puts_on k (Filemark ∷ [])
closed_is k f = puts_on-append k (Says f ∷ []) (Filemark ∷ [])

pub labeled_is : (k : ℕ) (f g : Frame) → puts_on k (Says f ∷ Filemark ∷ Says g ∷ []) ≡ puts_on k (Says f ∷ Filemark ∷ []) ++ puts_on k (Says g ∷ [])
labeled_is k f g = puts_on-append k (Says f ∷ Filemark ∷ []) (Says g ∷ [])

pub frame_is : (k : ℕ) (f : Frame) (bytes : List ℕ) → bytes ≡ spelling f → puts k (block_with bytes) ∷ [] ≡ puts_on k (Says f ∷ [])
unfolding puts_on
frame_is k f bytes same = ap (λ (b : List ℕ). puts k (block_with b) ∷ []) same

pub filemark_is : (k : ℕ) → puts k mark ∷ settles k ∷ [] ≡ puts_on k (Filemark ∷ [])
unfolding puts_on
filemark_is k = refl
