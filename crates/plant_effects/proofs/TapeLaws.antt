-- Laws on tapes, for whoever writes on them or reads what a crash left of them.
use Rattle.std.proofs.Common.{◌≡◌, ◌≢◌, ⊎_elim, ℕ, zero, suc, ◌+◌, ◌<◌, ◌≤◌, List, [], ◌∷◌, ◌++◌, length, take, sym, ◌∙◌, ap, arith, append_assoc, length-append}
use Rattle.std.specs.Prelude.{if◌then◌else◌, ◌==◌}
use Rattle.std.proofs.lemmas.Bool.Decides.{nat_tests}
use Rattle.std.proofs.lemmas.List.{append-nil, take_all, take-take, take-append-le, length-take-le}
use Rattle.crash_moments.specs.Telling.{Extends}
use Rattle.plant_core.specs.Crashes.{State, IsTorn, Alike}
use Rattle.plant_core.specs.Effects.{puts, settles, cuts, comes, come}
use Rattle.plant_core.specs.Records.{Record, block_with, mark, bad, NoBad}
use Rattle.plant_effects.specs.Runs.{TakesMore}

-- after a put, a mark and a cut no record is bad where none was
pub no_bad_nil : NoBad []
no_bad_nil i is = absurd (cc)

no_bad_rest : (x : Record) (xs : List Record) → NoBad (x ∷ xs) → NoBad xs
no_bad_rest x xs none i is = none (suc i) is

pub no_bad_put : (tape : List Record) (r : Record) → r ≢ bad → NoBad tape → NoBad (tape ++ r ∷ [])
no_bad_put [] r fine none zero is = fine (cc)
no_bad_put [] r fine none (suc i) is = no_bad_nil i is
no_bad_put (x ∷ xs) r fine none zero is = none zero is
no_bad_put (x ∷ xs) r fine none (suc i) is = no_bad_put xs r fine (no_bad_rest x xs none) i is

pub no_bad_cut : (n : ℕ) (tape : List Record) → NoBad tape → NoBad (take n tape)
no_bad_cut zero tape none i is = no_bad_nil i is
no_bad_cut (suc n) [] none i is = no_bad_nil i is
no_bad_cut (suc n) (x ∷ xs) none zero is = none zero is
no_bad_cut (suc n) (x ∷ xs) none (suc i) is = no_bad_cut n xs (no_bad_rest x xs none) i is

pub block_is_fine : (bytes : List ℕ) → block_with bytes ≢ bad
block_is_fine bytes is = absurd (cc)

pub mark_is_fine : mark ≢ bad
mark_is_fine is = absurd (cc)

-- a tape takes a record more after one was put
pub takes_after : (tape : List Record) (r : Record) → r ≢ bad → length tape + 1 < 524288 → NoBad tape → TakesMore (tape ++ r ∷ [])
takes_after tape r fine room none = (omega (arith, room, length-append tape (r ∷ [])), no_bad_put tape r fine none)

-- what is settled of a tape stands in each torn one
pub settled_stands : (n : ℕ) (whole tape : List Record) → IsTorn n whole tape → take n tape ≡ take n whole
settled_stands n whole tape torn = ⊎_elim
    (λ is. ap (take n) is ∙ take-take n torn.count whole torn.low)
    (λ cut. ap (take n) cut.1 ∙ take-append-le n (take torn.count whole) (bad ∷ []) (omega (arith, torn.low, torn.high, length-take-le torn.count whole torn.high)) ∙ take-take n torn.count whole torn.low)
    torn.is

-- a tape that is settled whole isn't torn
pub whole_stands : (whole tape : List Record) → IsTorn (length whole) whole tape → tape ≡ whole
whole_stands whole tape torn = ⊎_elim
    (λ is. is ∙ all torn.count torn.low)
    (λ cut. let no = cut.0 in absurd (omega (arith, no, torn.low)))
    torn.is
  where
    all : (n : ℕ) → length whole ≤ n → take n whole ≡ whole
    all n past = take_all n whole past

-- more was told
pub extends_none : (told : List ℕ) → Extends told told
extends_none told = ([], sym (append-nil told))

pub extends_twice : (a b c : List ℕ) → Extends a b → Extends b c → Extends a c
extends_twice a b c (one, is_one) (two, is_two) = (one ++ two, is_two ∙ ap (λ (l : List ℕ). l ++ two) is_one ∙ append_assoc a one two)

-- what a put, a mark and a cut make of the tape
if_here : (k : ℕ) (x y : List Record) → (if k == k then x else y) ≡ x
if_here k x y = grind (arith, nat_tests)

pub put_tape : (k : ℕ) (r : Record) (s t : State) → Alike (comes (puts k r) s) t → t.tape k ≡ s.tape k ++ r ∷ []
put_tape k r s t alike = alike.tape k ∙ if_here k (s.tape k ++ r ∷ []) (s.tape k)

pub mark_tape : (k : ℕ) (r : Record) (s t : State) → Alike (come (puts k r ∷ settles k ∷ []) s) t → t.tape k ≡ s.tape k ++ r ∷ []
mark_tape k r s t alike = alike.tape k ∙ if_here k (s.tape k ++ r ∷ []) (s.tape k)

pub cut_tape : (k n : ℕ) (s t : State) → Alike (comes (cuts k n) s) t → t.tape k ≡ take n (s.tape k)
cut_tape k n s t alike = alike.tape k ∙ if_here k (take n (s.tape k)) (s.tape k)
