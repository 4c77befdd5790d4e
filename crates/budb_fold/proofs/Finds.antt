-- The first one of a list that passes a test, where those before it failed.
use Rattle.std.proofs.Common.{◌≡◌, ℕ, ◌+◌, ◌<◌, List, ◌∷◌, length, drop, get_or, Bool, true, false, cond, Some, refl, sym, ◌∙◌, ap, add-one, drop-cons}
use Rattle.std.specs.List.{find}

drop_here : {X : Type 0} (xs : List X) (i : ℕ) (x : X) → i < length xs → drop i xs ≡ get_or xs i x ∷ drop (i + 1) xs
drop_here xs i x within = rw (add-one, drop-cons xs i x) refl

pub found_here : {X : Type 0} (p : X → Bool) (xs : List X) (i : ℕ) (x : X) → i < length xs → x ≡ get_or xs i x → p x ≡ true → find p xs ≡ find p (drop i xs) → find p xs ≡ Some x
found_here p xs i x within is passes so_far =
    so_far ∙ ap (find p) (drop_here xs i x within) ∙ ap (λ (y : _). cond (p y) (Some y) (find p (drop (i + 1) xs))) (sym is) ∙ ap (λ (t : Bool). cond t (Some x) (find p (drop (i + 1) xs))) passes

pub found_later : {X : Type 0} (p : X → Bool) (xs : List X) (i : ℕ) (x : X) → i < length xs → x ≡ get_or xs i x → p x ≡ false → find p xs ≡ find p (drop i xs) → find p xs ≡ find p (drop (i + 1) xs)
found_later p xs i x within is fails so_far =
    so_far ∙ ap (find p) (drop_here xs i x within) ∙ ap (λ (y : _). cond (p y) (Some y) (find p (drop (i + 1) xs))) (sym is) ∙ ap (λ (t : Bool). cond t (Some x) (find p (drop (i + 1) xs))) fails
