-- The least slot that passes a test.
use Rattle.std.proofs.Common.{◌≡◌, zero, suc, ℕ, ◌+◌, ◌<◌, ◌≤◌, Bool, true, false, Some, None, List, [], ◌∷◌, length, drop, refl, ap, ◌∙◌, arith}
use Rattle.std.specs.Prelude.{find, slice_get}
use Rattle.tape_scan.specs.Slots.{Slot}
use Rattle.archive_model.specs.Holding.{numbered_from}

pub step_here : (test : Slot → Bool) (n : ℕ) (slots : List Slot) (k : ℕ) (s : Slot) → slice_get slots k ≡ Some s → test s ≡ true
    → find (λ y. test y.1) (numbered_from n (drop k slots)) ≡ Some (n, s)
step_here test n [] k s at hit = absurd (cc)
step_here test n (t ∷ slots) zero s at hit =
    let same : t ≡ s = cc in
    let here : test t ≡ true = ap test same ∙ hit in
    rw here (ap (λ (x : Slot). Some (n, x)) same)
step_here test n (t ∷ slots) (suc k) s at hit = step_here test n slots k s at hit

pub step_later : (test : Slot → Bool) (n : ℕ) (slots : List Slot) (k : ℕ) (s : Slot) → slice_get slots k ≡ Some s → test s ≡ false
    → find (λ y. test y.1) (numbered_from n (drop k slots)) ≡ find (λ y. test y.1) (numbered_from (n + 1) (drop (k + 1) slots))
step_later test n [] k s at miss = absurd (cc)
step_later test n (t ∷ slots) zero s at miss =
    let same : t ≡ s = cc in
    let here : test t ≡ false = ap test same ∙ miss in
    rw here refl
step_later test n (t ∷ slots) (suc k) s at miss = step_later test n slots k s at miss ∙ ap (λ (m : ℕ). find (λ y. test y.1) (numbered_from (n + 1) (drop m (t ∷ slots)))) (let e : suc (k + 1) ≡ suc k + 1 = omega arith in e)

pub none_left : (test : Slot → Bool) (n : ℕ) (slots : List Slot) (k : ℕ) → length slots ≤ k → find (λ y. test y.1) (numbered_from n (drop k slots)) ≡ None
none_left test n [] zero past = refl
none_left test n [] (suc k) past = refl
none_left test n (t ∷ slots) zero past = absurd (omega arith)
none_left test n (t ∷ slots) (suc k) past = none_left test n slots k (omega arith)

-- a slot below the number of slots is there
pub slot_there : (slots : List Slot) (k : ℕ) → k < length slots → (s : Slot) × (slice_get slots k ≡ Some s)
slot_there [] k within = absurd (omega arith)
slot_there (s ∷ slots) zero within = (s, refl)
slot_there (s ∷ slots) (suc k) within = slot_there slots k (omega arith)
