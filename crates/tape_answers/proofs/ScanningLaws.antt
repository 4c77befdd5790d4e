-- What the function of a tape's records tells is what a scan tells.
use Rattle.std.proofs.Common.{◌≡◌, ℕ, Bool, List, [], ◌∷◌, map, sym, ap, subst}
use Rattle.plant_core.specs.Records.{Record}
use Rattle.tape_text.specs.Items.{Item, Read}
use Rattle.tape_scan.specs.declared.sections.Sections.{Sections}
use Rattle.tape_scan.specs.Sections.{IsScanOf}
use Rattle.tape_scan.specs.Assembled.{AreScans}
use Rattle.tape_scan.proofs.ReachedScan.{told_once}
use Rattle.tape_scan.proofs.TellingLaws.{told_of_items}
use Rattle.tape_answers.specs.Reading.{items_of}
use Rattle.tape_answers.specs.Scanning.{sections_of}
use Rattle.tape_answers.specs.Slots.{slot_of}
use Rattle.tape_answers.proofs.FieldLaws.{Forms}
use Rattle.tape_answers.proofs.ReadingLaws.{tape_read}

pub told_of_tape : Forms → (slot : ℕ) (tape : List Record) → IsScanOf slot (items_of tape) (sections_of slot tape)
unfolding sections_of
told_of_tape forms slot tape = told_of_items slot tape (items_of tape) (tape_read forms tape)

pub one_told : Forms → (slot : ℕ) (tape : List Record) (told : Sections) → IsScanOf slot (items_of tape) told → told ≡ sections_of slot tape
one_told forms slot tape told is = told_once slot (items_of tape) told (sections_of slot tape) is (told_of_tape forms slot tape)

-- as the contract of a scan gives it
pub read_told : Forms → (slot : ℕ) (tape : List Record) (told : Sections) → ((items : List Item) → Read tape items → IsScanOf slot items told) → told ≡ sections_of slot tape
read_told forms slot tape told each = one_told forms slot tape told (each (items_of tape) (tape_read forms tape))

-- ---- several slots

pub own_slot : Forms → (slot : ℕ) (tape : List Record) → (sections_of slot tape).slot ≡ slot
own_slot forms slot tape = ap (λ (s : Sections). s.slot) (told_of_tape forms slot tape).1

pub slots_scanned : Forms → (present : ℕ → Bool) (tape : ℕ → List Record) (slots : List ℕ) → AreScans (map (slot_of present tape) slots) (map (λ k. sections_of k (tape k)) slots)
slots_scanned forms present tape [] = tt
slots_scanned forms present tape (k ∷ slots) = (
  subst (λ (n : ℕ). IsScanOf n (items_of (tape k)) (sections_of k (tape k))) (sym (own_slot forms k (tape k))) (told_of_tape forms k (tape k)),
  slots_scanned forms present tape slots,
)
