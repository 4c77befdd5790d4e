-- What the calls leave of the levels.
use Rattle.std.proofs.Common.{zero, suc, ◌≡◌, ℕ, ◌+◌, ◌<◌, List, [], ◌∷◌, ◌++◌, length, take, drop, get_or, set, refl, sym, ◌∙◌, ap, arith}
use Rattle.std.specs.Prelude.{map, Bool, true, cond, not, filter, Ok, Err}
use Rattle.dump_levels.specs.declared.levels.Level.{Level}
use Rattle.dump_levels.specs.declared.levels.LevelFault.TheVariants.{NoSuchLevel}
use Rattle.dump_levels.specs.Elements.{is_within}
use Rattle.dump_levels.specs.Trees.{has_level, after_remove}

-- the first so many are changed
abbrev pub map_front : {X : Type 0} → (X → X) → ℕ → List X → List X
map_front f n xs = map f (take n xs) ++ drop n xs

pub map_next : {X : Type 0} (f : X → X) (xs : List X) (n : ℕ) (d : X) → n < length xs → set (map_front f n xs) n (f (get_or (map_front f n xs) n d)) ≡ map_front f (suc n) xs
map_next f [] n d within = absurd (omega arith)
map_next f (x ∷ xs) zero d within = refl
map_next f (x ∷ xs) (suc n) d within = ap (λ (l : List _). f x ∷ l) (map_next f xs n d (omega arith))

next_number : (n : ℕ) → suc n ≡ n + 1
next_number n = omega arith

pub map_set : {X : Type 0} (f : X → X) (xs now : List X) (n : ℕ) (new d : X) → n < length xs → now ≡ map_front f n xs → new ≡ f (get_or now n d) → set now n new ≡ map_front f (n + 1) xs
map_set f xs now n new d within so_far is =
    ap (λ (x : _). set now n x) is ∙ ap (λ (l : List _). set l n (f (get_or l n d))) so_far ∙ map_next f xs n d within ∙ ap (λ (k : ℕ). map_front f k xs) (next_number n)

pub removed : (old new : List Level) (path : List ℕ) → has_level old path ≡ true → new ≡ filter (λ level. not (is_within path level.path)) old → after_remove old path ≡ Ok new
removed old new path there is = ap (λ (t : Bool). cond t (Ok (filter (λ level. not (is_within path level.path)) old)) (Err NoSuchLevel)) there ∙ ap Ok (sym is)
