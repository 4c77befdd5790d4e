-- What is read of single records of a tape.
use Rattle.std.specs.Prelude.{Option, Some, None, List, [], ◌∷◌}
use Rattle.tape_frames.specs.declared.frame.Frame.{Frame}
use Rattle.tape_frames.specs.declared.frame.Frame.TheVariants as frames
use Rattle.tape_frames.specs.declared.label.LabelFields.{LabelFields}
use Rattle.tape_text.specs.Items.{Item, Says, Filemark, Nothing}
use Rattle.tape_choice.specs.declared.reading.First.{First}
use Rattle.tape_choice.specs.declared.reading.First.TheVariants as firsts

-- the frame that an item says
abbrev pub frame_of : Item → Option Frame
frame_of (Says f) = Some f
frame_of Filemark = None
frame_of Nothing = None

-- the label that a frame is
abbrev pub label_from : Option Frame → Option LabelFields
label_from None = None
label_from (Some (frames.Label a)) = Some a
label_from (Some (frames.DumpHead a)) = None
label_from (Some (frames.VolHead a)) = None
label_from (Some (frames.Data a)) = None
label_from (Some (frames.VolEnd a)) = None
label_from (Some (frames.DumpEnd a)) = None

-- the label of a tape: its first record, where that says one
abbrev pub label_in : List Item → Option LabelFields
label_in [] = None
label_in (i ∷ is) = label_from (frame_of i)

-- a label stands first, or something else that is no label
abbrev pub first_from : Option LabelFields → First
first_from None = firsts.Other
first_from (Some a) = firsts.Label a

-- what stands first on a tape
abbrev pub first_of : List Item → First
first_of [] = firsts.Blank
first_of (i ∷ is) = first_from (label_from (frame_of i))
