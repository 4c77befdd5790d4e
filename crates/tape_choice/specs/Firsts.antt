-- A tape by what stands first on it.
use Rattle.std.specs.Prelude.{Bool, true, false, Option, Some, None, List}
use Rattle.tape_frames.specs.declared.label.LabelFields.{LabelFields}
use Rattle.budb_changes.specs.declared.records.DumpRecordFields.{DumpRecordFields}
use Rattle.tape_choice.specs.declared.wanting.Wanting.{Wanting}
use Rattle.tape_choice.specs.declared.reading.First.{First}
use Rattle.tape_choice.specs.declared.reading.First.TheVariants.{Blank, Label, Other}
use Rattle.tape_choice.specs.Choice.{label_passes}

-- a blank tape passes, one with a label where the label does, and one that begins otherwise doesn't
abbrev pub first_passes : List DumpRecordFields → Wanting → First → Bool
first_passes listed w Blank = true
first_passes listed w (Label a) = label_passes listed w a
first_passes listed w Other = false

-- the label that stands first, where one does
abbrev pub label_first : First → Option LabelFields
label_first Blank = None
label_first (Label a) = Some a
label_first Other = None
