-- Levels of a line one after the other, and entries of a cell.
use Rattle.std.proofs.Common.{zero, suc, ◌≡◌, ℕ, ◌+◌, ◌<◌, Bool, true, false, List, [], ◌∷◌, ◌++◌, length, take, drop, get_or, sym, ◌∙◌, ap, arith}
use Rattle.std.specs.Prelude.{if◌then◌else◌, ◌||◌, Some}
use Rattle.std.proofs.lemmas.List.{take_more}
use Rattle.dump_levels.specs.declared.levels.Level.{Level}
use Rattle.dump_levels.specs.Elements.{path_above}
use Rattle.dump_levels.specs.Trees.{has_level}
use Rattle.backup_session.specs.Levels.{has_path, first_known, is_founded, first_unfounded}

-- the elements from a place on
pub from_place : {X : Type 0} → (xs : List X) (i : ℕ) (x : X) → i < length xs → x ≡ get_or xs i x → drop i xs ≡ x ∷ drop (i + 1) xs
from_place [] i x within is = absurd (omega arith)
from_place (y ∷ ys) zero x within is = ap (λ z. z ∷ ys) (sym is)
from_place (y ∷ ys) (suc i) x within is = from_place ys i x (omega arith) is ∙ ap (λ n. x ∷ drop n (y ∷ ys)) (next i)
  where
    next : (n : ℕ) → suc (n + 1) ≡ suc n + 1
    next n = omega arith

pub front_more : {X : Type 0} → (xs : List X) (i : ℕ) (x : X) → i < length xs → x ≡ get_or xs i x → take (i + 1) xs ≡ take i xs ++ x ∷ []
front_more xs i x within is = take_more xs i x within ∙ ap (λ y. take i xs ++ y ∷ []) (sym is)

module _ (levels : List Level) (paths : List (List ℕ)) (i : ℕ) (path : List ℕ) (within : i < length paths) (is : path ≡ get_or paths i path) where
  pub known_here : (has_level levels path || has_path (take i paths) path) ≡ true → first_known levels (take i paths) (drop i paths) ≡ Some path
  known_here here = ap (first_known levels (take i paths)) (from_place paths i path within is)
      ∙ ap (λ (b : Bool). if b then Some path else first_known levels (take i paths ++ path ∷ []) (drop (i + 1) paths)) here

  pub known_on : (has_level levels path || has_path (take i paths) path) ≡ false → first_known levels (take i paths) (drop i paths) ≡ first_known levels (take (i + 1) paths) (drop (i + 1) paths)
  known_on here = ap (first_known levels (take i paths)) (from_place paths i path within is)
      ∙ ap (λ (b : Bool). if b then Some path else first_known levels (take i paths ++ path ∷ []) (drop (i + 1) paths)) here
      ∙ ap (λ (before : List (List ℕ)). first_known levels before (drop (i + 1) paths)) (sym (front_more paths i path within is))

  pub unfounded_here : is_founded levels (take i paths) (path_above path) ≡ false → first_unfounded levels (take i paths) (drop i paths) ≡ Some path
  unfounded_here here = ap (first_unfounded levels (take i paths)) (from_place paths i path within is)
      ∙ ap (λ (b : Bool). if b then first_unfounded levels (take i paths ++ path ∷ []) (drop (i + 1) paths) else Some path) here

  pub unfounded_on : is_founded levels (take i paths) (path_above path) ≡ true → first_unfounded levels (take i paths) (drop i paths) ≡ first_unfounded levels (take (i + 1) paths) (drop (i + 1) paths)
  unfounded_on here = ap (first_unfounded levels (take i paths)) (from_place paths i path within is)
      ∙ ap (λ (b : Bool). if b then first_unfounded levels (take i paths ++ path ∷ []) (drop (i + 1) paths) else Some path) here
      ∙ ap (λ (before : List (List ℕ)). first_unfounded levels before (drop (i + 1) paths)) (sym (front_more paths i path within is))
