-- The slots of a plant, as what their tapes' records say.
use Rattle.std.specs.Prelude.{ℕ, zero, suc, Bool, List, [], ◌∷◌}
use Rattle.plant_core.specs.Records.{Record}
use Rattle.tape_scan.specs.Slots.{Slot}
use Rattle.tape_answers.specs.Reading.{items_of}

-- the slot of this number: whether it is here, and what the records of its tape say
abbrev pub slot_of : (ℕ → Bool) → (ℕ → List Record) → ℕ → Slot
slot_of present tape k = record { here = present k; items = items_of (tape k) }

-- so many slots from one of this number on
abbrev pub slots_from : ℕ → ℕ → (ℕ → Bool) → (ℕ → List Record) → List Slot
slots_from first zero present tape = []
slots_from first (suc n) present tape = slot_of present tape first ∷ slots_from (suc first) n present tape

-- so many slots from the first one on, by which of them are here and the records of their tapes
unfoldable pub slots_of : ℕ → (ℕ → Bool) → (ℕ → List Record) → List Slot
slots_of count present tape = slots_from 0 count present tape
