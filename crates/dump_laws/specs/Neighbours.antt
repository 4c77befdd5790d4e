-- The first and the last of a list, and what may stand behind a fragment.
use Rattle.std.specs.Prelude.{◌≡◌, ◌⊎◌, List, [], ◌∷◌}
use Rattle.tape_frames.specs.declared.vol_head.VolHeadFields.{VolHeadFields}
use Rattle.tape_text.specs.Texts.{Fragment, NextVolume}
use Rattle.tape_text.specs.Wholes.{next_head}

-- the last of these is so, where there is one
abbrev pub LastIs : {X : Type 0} → (X → Type 0) → List X → Type 0
LastIs Is [] = Unit {0}
LastIs Is (x ∷ []) = Is x
LastIs Is (x ∷ y ∷ ys) = LastIs Is (y ∷ ys)

-- the first of these fragments is so, where there is one
abbrev pub FirstIs : (Fragment → Type 0) → List Fragment → Type 0
FirstIs Is [] = Unit {0}
FirstIs Is (f ∷ fs) = Is f

-- behind a fragment a head goes on: with the same volume where the fragment doesn't end it, else with the next one
abbrev pub GoesTo : Fragment → VolHeadFields → Type 0
GoesTo f h = ((f.end.last ≡ 0) × (h ≡ next_head f.head)) ⊎ ((f.end.last ≡ 1) × NextVolume f.head h)
