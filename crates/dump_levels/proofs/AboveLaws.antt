-- All paths above a path: the one above it, and then all above that one.
use Rattle.std.proofs.Common.{zero, suc, ◌≡◌, ℕ, ◌-◌, ◌<◌, ◌≤◌, List, [], ◌∷◌, ◌++◌, length, take, refl, sym, ◌∙◌, ap, subst, arith, append_assoc}
use Rattle.std.specs.Prelude.{All, Option, Some, None}
use Rattle.std.proofs.lemmas.List.{length-take, take-take}
use Rattle.std.proofs.lemmas.List.Elements.{All-take}
use Rattle.bk_text.specs.Alphabets.{IsElement}
use Rattle.bk_text.specs.LevelPaths.{path_of, IsLevelPath}
use Rattle.bk_text.specs.LevelPaths.{elements_of}
use Rattle.dump_levels.specs.Elements.{front_path, path_above, front_paths, paths_above}
use Rattle.bk_text.proofs.LevelParts.{elements_are, of_path}

-- the paths of a front's fronts are those of the whole
fronts_of_front : (n m : ℕ) (es : List (List ℕ)) → n ≤ m → front_paths n (take m es) ≡ front_paths n es
fronts_of_front zero m es within = refl
fronts_of_front (suc n) m es within =
    ap (λ (l : List (List ℕ)). path_of l ∷ front_paths n (take m es)) (take-take (suc n) m es within) ∙ ap (λ (l : List (List ℕ)). path_of (take (suc n) es) ∷ l) (fronts_of_front n m es (omega arith))

-- the paths still to come, from the next one on
abbrev pub paths_from : Option (List ℕ) → List (List ℕ)
paths_from None = []
paths_from (Some upper) = upper ∷ paths_above upper

-- how many elements the next one has
abbrev pub elements_left : Option (List ℕ) → ℕ
elements_left None = 0
elements_left (Some upper) = length (elements_of upper)

-- a front of so many elements
pub record Fronts (n : ℕ) (es : List (List ℕ)) : Type 0 where
  pub paths : front_paths n es ≡ paths_from (front_path n es)
  pub count : elements_left (front_path n es) ≡ n

fronts : (n : ℕ) (es : List (List ℕ)) → n ≤ length es → All IsElement es → Fronts n es
fronts zero es within each = record { paths = refl; count = refl }
fronts (suc n) es within each =
    let front : elements_of (path_of (take (suc n) es)) ≡ take (suc n) es = elements_are (take (suc n) es) (path_of (take (suc n) es)) (record { each = All-take IsElement (suc n) es each; joined = refl }) in
    let count : length (take (suc n) es) ≡ suc n = omega (arith, length-take (suc n) es) in
    let less : length (take (suc n) es) - 1 ≡ n = omega (arith, count) in
    record {
      paths = ap (λ (l : List (List ℕ)). path_of (take (suc n) es) ∷ l) (sym (ap (λ (l : List (List ℕ)). front_paths (length l - 1) l) front ∙ ap (λ (k : ℕ). front_paths k (take (suc n) es)) less ∙ fronts_of_front n (suc n) es (omega arith)));
      count = ap length front ∙ count;
    }

fronts_at : (path : List ℕ) → IsLevelPath path → Fronts (length (elements_of path) - 1) (elements_of path)
fronts_at path is = fronts (length (elements_of path) - 1) (elements_of path) (omega arith) (of_path path is).each

pub all_from : (path : List ℕ) → IsLevelPath path → paths_above path ≡ paths_from (path_above path)
all_from path is = (fronts_at path is).paths

pub fewer : (path : List ℕ) → IsLevelPath path → elements_left (path_above path) < length (elements_of path)
fewer path is =
    let elements : elements_of path ≡ is.elements = elements_are is.elements path is.is in
    let some : 0 < length (elements_of path) = subst (λ (l : List (List ℕ)). 0 < length l) (sym elements) is.some in
    omega (arith, (fronts_at path is).count, some)

-- one path is put behind those before it
pub one_more : (before all : List (List ℕ)) (upper : List ℕ) (next : Option (List ℕ)) → IsLevelPath upper → next ≡ path_above upper → before ++ paths_from (Some upper) ≡ all → (before ++ upper ∷ []) ++ paths_from next ≡ all
one_more before all upper next is here so_far =
    append_assoc before (upper ∷ []) (paths_from next) ∙ ap (λ (l : List (List ℕ)). before ++ upper ∷ l) (ap paths_from here ∙ sym (all_from upper is)) ∙ so_far
