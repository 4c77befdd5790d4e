-- Laws of the columns of an arena: what a write into a row leaves.
use Rattle.std.proofs.Common.{◌≡◌, ◌≢◌, ℕ, ◌<◌, List, length, set, get_or, map, sym, ◌∙◌, ap, subst}
use Rattle.std.proofs.lemmas.List.{map-set, get_or-map, get_or-set_same, get_or-set_other, set-get_or}
use Rattle.std.proofs.lemmas.List.Elements.{All-from_recursion, All-get_or}
use Rattle.std.specs.List.{AllByRecursion}

-- rows of values, each as wide as there are columns
module _ {X : Type 0} (none : X) where
  abbrev pub column : ℕ → List (List X) → List X
  column at = map (λ row. get_or row at none)

  module _ (rows : List (List X)) (place : ℕ) (within : place < length rows) (row : List X) (read : row ≡ get_or rows place row) where
    -- a column has the row's value
    pub column_at : (at : ℕ) → get_or (column at rows) place none ≡ get_or row at none
    column_at at =
        get_or-map (λ (r : List X). get_or r at none) rows place row none within ∙ ap (λ (r : List X). get_or r at none) (sym read)

    -- one value of the row is another
    pub column_same : (families : ℕ) → AllByRecursion (λ r. length r ≡ families) rows → (at : ℕ) (value : X) → at < families → column at (set rows place (set row at value)) ≡ set (column at rows) place value
    column_same families wide at value h =
        let long = All-get_or (λ (r : List X). length r ≡ families) rows place row within (All-from_recursion (λ (r : List X). length r ≡ families) rows wide) in
        let fits = subst (λ (r : List X). length r ≡ families) (sym read) long in
        map-set (λ (r : List X). get_or r at none) rows place (set row at value)
        ∙ ap (λ (t : X). set (column at rows) place t) (get_or-set_same row at value none (subst (λ (n : ℕ). at < n) (sym fits) h))

    -- the other columns stay
    pub column_other : (at : ℕ) (value : X) (other : ℕ) → other ≢ at → column other (set rows place (set row at value)) ≡ column other rows
    column_other at value other ne =
        map-set (λ (r : List X). get_or r other none) rows place (set row at value)
        ∙ ap (λ (t : X). set (column other rows) place t) (get_or-set_other row at other value none ne ∙ sym (column_at other))
        ∙ set-get_or (column other rows) place none
