-- The id of a new volume is the least of its row above all others.
use Rattle.std.proofs.Common.{◌≡◌, ◌⊎◌, ℕ, ◌+◌, ◌-◌, ◌*◌, ◌/◌, ◌^◌, ◌<◌, ◌≤◌, max, Bool, true, false, cond, List, [], ◌∷◌, map, refl, sym, ◌∙◌, ap, inl, inr, arith}
use Rattle.std.specs.Prelude.{Option, Some, None, Ok, All, Contains, fold, nat_lt}
use Rattle.std.proofs.lemmas.Bool.{ltb-true, ltb-false}
use Rattle.std.proofs.lemmas.List.Elements.{All-nil, All-cons, All-head, All-tail, All-contains, All-weaker, All-contains_itself}
use Rattle.vnode_model.specs.declared.volumes.VolumeFields.{VolumeFields}
use Rattle.cell_core.specs.declared.stored.Stored.{Stored}
use Rattle.cell_core.specs.declared.stored.Image.{Image}
use Rattle.cell_core.specs.declared.stored.Image.TheVariants.{Good, Bad}
use Rattle.cell_core.specs.Listings.{id_of, is_full, greatest_id, id_after, free_id}
use Rattle.cell_core.specs.Cells.{standing_of_image, standing_of, stored_as, free_id_in, id_for_new}
use Rattle.cell_core.specs.Calls.{Creation, creation_with, creation_where, after_create}

-- ---- the greatest of some

module _ {A : Type 0} (f : A → ℕ) where
  greatest_bounds : (a : ℕ) (xs : List A) → (a ≤ fold max a (map f xs)) × All (λ x. f x ≤ fold max a (map f xs)) xs
  greatest_bounds a [] = (omega arith, All-nil (λ (x : A). f x ≤ a))
  greatest_bounds a (x ∷ xs) =
      let h = greatest_bounds (max a (f x)) xs in
      (omega (arith, h.0), All-cons (λ (y : A). f y ≤ fold max (max a (f x)) (map f xs)) x xs (omega (arith, h.0)) h.1)

  greatest_below : (a m : ℕ) (xs : List A) → a < m → All (λ x. f x < m) xs → fold max a (map f xs) < m
  greatest_below a m [] lt all = lt
  greatest_below a m (x ∷ xs) lt all =
      let first : f x < m = All-head (λ (y : A). f y < m) x xs all in
      greatest_below (max a (f x)) m xs (omega arith) (All-tail (λ (y : A). f y < m) x xs all)

-- ---- the row of ids

after_cases : (g : ℕ) → ((g < 536870912) × (id_after g ≡ 536870912)) ⊎ ((536870912 ≤ g) × (id_after g ≡ 536870912 + 3 * ((g - 536870912) / 3 + 1)))
after_cases g =
    elim (nat_lt g 536870912) as (λ b. nat_lt g 536870912 ≡ b → ((g < 536870912) × (cond b 536870912 (536870912 + 3 * ((g - 536870912) / 3 + 1)) ≡ 536870912)) ⊎ ((536870912 ≤ g) × (cond b 536870912 (536870912 + 3 * ((g - 536870912) / 3 + 1)) ≡ 536870912 + 3 * ((g - 536870912) / 3 + 1)))) [
      | true ↦ λ e. inl (ltb-true g 536870912 e, refl)
      | false ↦ λ e. inr (ltb-false g 536870912 e, refl)
    ] refl

after_above : (g : ℕ) → g < id_after g
after_above g = elim (after_cases g) [ inl h ↦ omega (arith, h.0, h.1) | inr h ↦ omega (arith, h.0, h.1) ]

after_least : (g j : ℕ) → g < 536870912 + 3 * j → id_after g ≤ 536870912 + 3 * j
after_least g j lt = elim (after_cases g) [ inl h ↦ omega (arith, h.1) | inr h ↦ omega (arith, h.0, h.1, lt) ]

after_row : (g : ℕ) → (j : ℕ) × (id_after g ≡ 536870912 + 3 * j)
after_row g = elim (after_cases g) [ inl h ↦ (0, omega (arith, h.1)) | inr h ↦ ((g - 536870912) / 3 + 1, h.1) ]

-- ---- the id of a new volume

some_parts : (a b : ℕ) → Some a ≡ Some b → a ≡ b
some_parts a b h = cc

free_is : (cell : List Stored) (id : ℕ) → free_id_in cell ≡ Some id → (id_after (greatest_id standing_of cell) ≡ id) × (id < 2 ^ 32)
free_is cell id h = at (id_after (greatest_id standing_of cell)) h
  where
    at : (n : ℕ) → cond (nat_lt n (2 ^ 32)) (Some n) None ≡ Some id → (n ≡ id) × (id < 2 ^ 32)
    at n g =
        elim (nat_lt n (2 ^ 32)) as (λ b. nat_lt n (2 ^ 32) ≡ b → cond b (Some n) None ≡ Some id → (n ≡ id) × (id < 2 ^ 32)) [
          | true ↦ λ e s. let same : n ≡ id = some_parts n id s in (same, omega (arith, ltb-true n (2 ^ 32) e, same))
          | false ↦ λ e s. absurd cc
        ] refl g

id_is : (s : Stored) (v : VolumeFields) → s.image ≡ Good v → id_of (standing_of s) ≡ v.header.id
id_is s v is = ap (λ (i : Image). id_of (standing_of_image i)) is

pub id_above : (cell : List Stored) (id : ℕ) (s : Stored) (v : VolumeFields) → free_id_in cell ≡ Some id → Contains cell s → s.image ≡ Good v → v.header.id < id
id_above cell id s v h there is =
    let f = free_is cell id h in
    let low = All-contains (λ (t : Stored). id_of (standing_of t) ≤ greatest_id standing_of cell) cell s (greatest_bounds (λ (t : Stored). id_of (standing_of t)) 0 cell).1 there in
    omega (arith, low, id_is s v is, after_above (greatest_id standing_of cell), f.0)

pub id_in_row : (cell : List Stored) (id : ℕ) → free_id_in cell ≡ Some id → (j : ℕ) × (id ≡ 536870912 + 3 * j)
id_in_row cell id h = let r = after_row (greatest_id standing_of cell) in (r.0, sym (free_is cell id h).0 ∙ r.1)

pub id_fits : (cell : List Stored) (id : ℕ) → free_id_in cell ≡ Some id → id < 2 ^ 32
id_fits cell id h = (free_is cell id h).1

pub id_least : (cell : List Stored) (id j : ℕ) → free_id_in cell ≡ Some id → ((s : Stored) (v : VolumeFields) → Contains cell s → s.image ≡ Good v → v.header.id < 536870912 + 3 * j) → id ≤ 536870912 + 3 * j
id_least cell id j h below =
    let small : greatest_id standing_of cell < 536870912 + 3 * j =
    greatest_below (λ (t : Stored). id_of (standing_of t)) 0 (536870912 + 3 * j) cell (omega arith)
    (All-weaker (Contains cell) (λ (t : Stored). id_of (standing_of t) < 536870912 + 3 * j) (λ t there. by t t.image refl there) cell (All-contains_itself cell)) in
    omega (arith, (free_is cell id h).0, after_least (greatest_id standing_of cell) j small)
  where
    by : (t : Stored) (i : Image) → t.image ≡ i → Contains cell t → id_of (standing_of_image t.image) < 536870912 + 3 * j
    by t (Good v) is there = omega (arith, below t v there is, id_is t v is)
    by t (Bad at) is there = omega (arith, ap (λ (i : Image). id_of (standing_of_image i)) is)

pub created_id : (cell : List Stored) (server partition name : List ℕ) (now : ℕ) (made : Creation) → after_create cell server partition name now ≡ Ok made → free_id_in cell ≡ Some made.id
created_id cell server partition name now made h = at (stored_as name cell) h
  where
    from_id : (o : Option ℕ) → creation_with o cell server partition name now ≡ Ok made → o ≡ Some made.id
    from_id None g = absurd cc
    from_id (Some id) g = cc

    tested : (b : Bool) → cond b None (free_id standing_of cell) ≡ Some made.id → free_id standing_of cell ≡ Some made.id
    tested true g = absurd cc
    tested false g = g

    at : (o : Option Stored) → creation_where o cell server partition name now ≡ Ok made → free_id_in cell ≡ Some made.id
    at (Some s) g = absurd cc
    at None g = tested (is_full cell) (from_id (id_for_new cell) g)
