-- What a scan of the tape in a slot tells, as a function of the tape's records.
use Rattle.std.specs.Prelude.{ℕ, List}
use Rattle.plant_core.specs.Records.{Record}
use Rattle.tape_scan.specs.declared.sections.Sections.{Sections}
use Rattle.tape_scan.specs.Telling.{sections_in}
use Rattle.tape_answers.specs.Reading.{items_of}

-- what a scan tells of the tape of these records in this slot
unfoldable pub sections_of : ℕ → List Record → Sections
sections_of slot tape = sections_in slot (items_of tape)
