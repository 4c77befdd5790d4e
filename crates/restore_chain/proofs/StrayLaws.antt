-- How many tapes are loaded before one is found.
use Rattle.std.proofs.Common.{zero, suc, ◌≡◌, ℕ, ◌+◌, ◌≤◌, Bool, true, false, not, Some, List, [], ◌∷◌, take, sym, ap, ◌∙◌, arith}
use Rattle.std.specs.Prelude.{◌&&◌, is_some, slice_get, Option}
use Rattle.budb_changes.specs.declared.records.DumpRecordFields.{DumpRecordFields}
use Rattle.tape_scan.specs.Slots.{Slot}
use Rattle.archive_model.specs.Holding.{is_label_frame, is_so, holds, holder_here}
use Rattle.restore_chain.specs.Strays.{is_labelled, is_stray, load_if, strays, loads_for}

pub load_most : (b : Bool) → load_if b ≤ 1
load_most true = omega arith
load_most false = omega arith

labelled_stray : (here label held : Bool) → (here && held) ≡ false → load_if (here && label) ≤ load_if ((here && label) && not held)
labelled_stray true label true is = absurd (cc)
labelled_stray true true false is = omega arith
labelled_stray true false false is = omega arith
labelled_stray false label held is = omega arith

-- one that is here and doesn't hold the tape counts where it is loaded
pub load_of_stray : (d : DumpRecordFields) (tape : ℕ) (s : Slot) → (s.here && holds d tape s.items) ≡ false → load_if (is_labelled d tape s) ≤ load_if (is_stray d tape s)
load_of_stray d tape s miss = labelled_stray s.here (is_so (is_label_frame d.initial tape) (slice_get s.items 0)) (holds d tape s.items) miss

-- strays among the first slots
pub strays_more : (d : DumpRecordFields) (tape : ℕ) (slots : List Slot) (k : ℕ) (s : Slot) → slice_get slots k ≡ Some s → strays d tape (take (k + 1) slots) ≡ strays d tape (take k slots) + load_if (is_stray d tape s)
strays_more d tape [] k s at = absurd (cc)
strays_more d tape (t ∷ slots) zero s at =
    let same : t ≡ s = cc in
    ap (λ (n : ℕ). strays d tape (take n (t ∷ slots))) (let one : 0 + 1 ≡ 1 = omega arith in one) ∙ ap (λ (x : Slot). load_if (is_stray d tape x) + 0) same ∙ (let both : load_if (is_stray d tape s) + 0 ≡ 0 + load_if (is_stray d tape s) = omega arith in both)
strays_more d tape (t ∷ slots) (suc k) s at =
    let rest = strays_more d tape slots k s at in
    ap (λ (n : ℕ). strays d tape (take n (t ∷ slots))) (let next : suc k + 1 ≡ suc (k + 1) = omega arith in next)
    ∙ (let sum : load_if (is_stray d tape t) + strays d tape (take (k + 1) slots) ≡ (load_if (is_stray d tape t) + strays d tape (take k slots)) + load_if (is_stray d tape s) = omega (arith, rest) in sum)

pub strays_within : (d : DumpRecordFields) (tape : ℕ) (slots : List Slot) (k : ℕ) → strays d tape (take k slots) ≤ strays d tape slots
strays_within d tape slots zero = omega arith
strays_within d tape [] (suc k) = omega arith
strays_within d tape (s ∷ slots) (suc k) = omega (arith, strays_within d tape slots k)

-- a tape that is found takes one load more than its strays
pub found_loads : (d : DumpRecordFields) (tape : ℕ) (slots : List Slot) (x : ℕ × Slot) → holder_here d tape slots ≡ Some x → strays d tape slots + 1 ≡ loads_for slots (record { dump = d; tape = tape })
found_loads d tape slots x found = ap (λ (o : Option (ℕ × Slot)). strays d tape slots + load_if (is_some o)) (sym found)

pub at_least_strays : (d : DumpRecordFields) (tape : ℕ) (slots : List Slot) → strays d tape slots ≤ loads_for slots (record { dump = d; tape = tape })
at_least_strays d tape slots = omega arith
