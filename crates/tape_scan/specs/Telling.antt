-- What a scan of a tape tells, as a function of what the tape's records say.
use Rattle.std.specs.Prelude.{ℕ, ◌+◌, nat_lt, if◌then◌else◌, Some, None, List, [], ◌∷◌, length}
use Rattle.tape_text.specs.Items.{Item}
use Rattle.tape_scan.specs.declared.sections.Sections.{Sections}
use Rattle.tape_scan.specs.declared.scanning_walk.Walk.{Walk}
use Rattle.tape_scan.specs.declared.scanning_walk.Walk.TheVariants.{Nothing}
use Rattle.tape_scan.specs.Steps.{after, sections_of}
use Rattle.tape_scan.specs.Continuing.{continues}

-- From where it stands at a record of this number a scan takes the items that continue the text: how many records it has taken then
-- in all, and where it stands.
abbrev pub walk_from : Walk → ℕ → List Item → ℕ × Walk
walk_from walk at [] = (at, walk)
walk_from walk at (i ∷ is) = if continues walk i then walk_from (after at walk i) (at + 1) is else (at, walk)

-- what a scan tells that took so many of the slot's items and stands there; it stops at the next one, if there is one
abbrev pub sections_at : ℕ → List Item → ℕ × Walk → Sections
sections_at slot items end = sections_of slot (if nat_lt end.0 (length items) then Some end.0 else None) end.1

-- what a scan tells of the tape in this slot
unfoldable pub sections_in : ℕ → List Item → Sections
sections_in slot items = sections_at slot items (walk_from Nothing 0 items)
