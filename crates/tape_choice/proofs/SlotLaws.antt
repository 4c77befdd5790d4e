-- The least slot that passes.
use Rattle.std.proofs.Common.{zero, suc, ◌≡◌, ℕ, ◌+◌, ◌<◌, Bool, true, false, List, [], ◌∷◌, refl, sym, ◌∙◌, ap, subst, arith}
use Rattle.std.specs.Prelude.{Some, None, find, slice_get}
use Rattle.tape_scan.specs.Slots.{Slot}
use Rattle.archive_model.specs.Holding.{numbered_from}

-- where no slot passes none is found
pub none_passes : (test : ℕ → Slot → Bool) (n : ℕ) (slots : List Slot) → ((k : ℕ) (s : Slot) → slice_get slots k ≡ Some s → test (n + k) s ≡ false) → find (λ x. test x.0 x.1) (numbered_from n slots) ≡ None
none_passes test n [] none = refl
none_passes test n (s ∷ ss) none =
    let here : test n s ≡ false = subst (λ (m : ℕ). test m s ≡ false) (zero_more n) (none 0 s refl) in
    let rest = none_passes test (n + 1) ss (λ k t at. subst (λ (m : ℕ). test m t ≡ false) (one_more n k) (none (suc k) t at)) in
    rw here rest
  where
    zero_more : (n : ℕ) → n + 0 ≡ n
    zero_more n = omega arith

    one_more : (n k : ℕ) → n + suc k ≡ (n + 1) + k
    one_more n k = omega arith

-- where a slot passes and none before it does, that slot is found
pub first_passes : (test : ℕ → Slot → Bool) (n : ℕ) (slots : List Slot) (k : ℕ) (s : Slot) → slice_get slots k ≡ Some s → test (n + k) s ≡ true
    → ((j : ℕ) (t : Slot) → j < k → slice_get slots j ≡ Some t → test (n + j) t ≡ false) → find (λ x. test x.0 x.1) (numbered_from n slots) ≡ Some (n + k, s)
first_passes test n [] k s at passes none = absurd (cc)
first_passes test n (t ∷ ss) zero s at passes none =
    let same : t ≡ s = cc in
    let here : test n t ≡ true = subst (λ (m : ℕ). test m t ≡ true) (zero_more n) (subst (λ (u : Slot). test (n + 0) u ≡ true) (sym same) passes) in
    rw here (ap (λ (u : Slot). Some (n, u)) same ∙ ap (λ (m : ℕ). Some (m, s)) (sym (zero_more n)))
  where
    zero_more : (n : ℕ) → n + 0 ≡ n
    zero_more n = omega arith
first_passes test n (t ∷ ss) (suc k) s at passes none =
    let here : test n t ≡ false = subst (λ (m : ℕ). test m t ≡ false) (zero_more n) (none 0 t (omega arith) refl) in
    let rest = first_passes test (n + 1) ss k s at (subst (λ (m : ℕ). test m s ≡ true) (one_more n k) passes) (λ j u below at. subst (λ (m : ℕ). test m u ≡ false) (one_more n j) (none (suc j) u (omega arith) at)) in
    rw here (rest ∙ ap (λ (m : ℕ). Some (m, s)) (sym (one_more n k)))
  where
    zero_more : (n : ℕ) → n + 0 ≡ n
    zero_more n = omega arith

    one_more : (n k : ℕ) → n + suc k ≡ (n + 1) + k
    one_more n k = omega arith

-- the same of all slots
pub none_of_all : (test : ℕ → Slot → Bool) (slots : List Slot) → ((k : ℕ) (s : Slot) → slice_get slots k ≡ Some s → test k s ≡ false) → find (λ x. test x.0 x.1) (numbered_from 0 slots) ≡ None
none_of_all test slots none = none_passes test 0 slots (λ k s at. subst (λ (m : ℕ). test m s ≡ false) (sym (from_zero k)) (none k s at))
  where
    from_zero : (k : ℕ) → 0 + k ≡ k
    from_zero k = omega arith

pub first_of_all : (test : ℕ → Slot → Bool) (slots : List Slot) (k : ℕ) (s : Slot) → slice_get slots k ≡ Some s → test k s ≡ true
    → ((j : ℕ) (t : Slot) → j < k → slice_get slots j ≡ Some t → test j t ≡ false) → find (λ x. test x.0 x.1) (numbered_from 0 slots) ≡ Some (k, s)
first_of_all test slots k s at passes none =
    first_passes test 0 slots k s at (subst (λ (m : ℕ). test m s ≡ true) (sym (from_zero k)) passes) (λ j t below here. subst (λ (m : ℕ). test m t ≡ false) (sym (from_zero j)) (none j t below here))
    ∙ ap (λ (m : ℕ). Some (m, s)) (from_zero k)
  where
    from_zero : (k : ℕ) → 0 + k ≡ k
    from_zero k = omega arith
