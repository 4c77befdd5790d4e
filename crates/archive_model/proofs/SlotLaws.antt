-- Which slot holds a tape, and lists of dumps and of what they need.
use Rattle.std.proofs.Common.{◌≡◌, ◌⊎◌, ℕ, zero, suc, ◌+◌, Bool, true, false, Option, Some, None, List, [], ◌∷◌, map, refl, sym, ap, subst, ◌∙◌, arith, inl, inr}
use Rattle.std.specs.Prelude.{Contains, IsSomeAnd, find, slice_get, is_none, ◌&&◌}
use Rattle.std.specs.List.{flat_map}
use Rattle.std.proofs.lemmas.Bool.{cases_Bool, and_parts}
use Rattle.std.proofs.lemmas.List.Elements.{Contains-append_left, Contains-append_right}
use Rattle.budb_changes.specs.declared.records.DumpRecordFields.{DumpRecordFields}
use Rattle.tape_text.specs.Wholes.{Lying}
use Rattle.tape_text.specs.Texts.{Fragment}
use Rattle.tape_scan.specs.Slots.{Slot}
use Rattle.archive_model.specs.Holding.{holds, numbered_from, holder}
use Rattle.archive_model.specs.Plays.{StandsAt, StandsOn}
use Rattle.archive_model.specs.Archives.{Need, is_unheld, told_here, all_here}

-- ---- members

pub in_map : {X Y : Type 0} (h : X → Y) (xs : List X) (x : X) → Contains xs x → Contains (map h xs) (h x)
in_map h [] x there = absurd (omega (arith, there.1))
in_map h (y ∷ xs) x (zero, within, is) = (0, omega arith, ap h is)
in_map h (y ∷ xs) x (suc k, within, is) =
    let rest = in_map h xs x (k, omega (arith, within), is) in
    (suc rest.0, omega (arith, rest.1), rest.2)

pub in_flat : {X Y : Type 0} (h : X → List Y) (xs : List X) (x : X) (y : Y) → Contains xs x → Contains (h x) y → Contains (flat_map h xs) y
in_flat h [] x y there here = absurd (omega (arith, there.1))
in_flat {X} {Y} h (z ∷ xs) x y (zero, within, is) here = Contains-append_left (h z) (flat_map h xs) y (subst (λ (w : X). Contains (h w) y) (sym is) here)
in_flat h (z ∷ xs) x y (suc k, within, is) here = Contains-append_right (h z) (flat_map h xs) y (in_flat h xs x y (k, omega (arith, within), is) here)

pub first_or_later : {X : Type 0} (x : X) (xs : List X) (y : X) → Contains (x ∷ xs) y → (x ≡ y) ⊎ Contains xs y
first_or_later x xs y (zero, within, is) = inl is
first_or_later x xs y (suc k, within, is) = inr (k, omega (arith, within), is)

pub none_passes : {X : Type 0} (test : X → Bool) (xs : List X) (x : X) → find test xs ≡ None → Contains xs x → test x ≡ false
none_passes test [] x none there = absurd (omega (arith, there.1))
none_passes test (y ∷ xs) x none (zero, within, is) = elim (cases_Bool (test y)) [
  | inl hit ↦ (let same : Some y ≡ None = rw hit at none in absurd (cc))
  | inr miss ↦ ap test (sym is) ∙ miss
]
none_passes test (y ∷ xs) x none (suc k, within, is) = elim (cases_Bool (test y)) [
  | inl hit ↦ (let same : Some y ≡ None = rw hit at none in absurd (cc))
  | inr miss ↦ none_passes test xs x (rw miss at none) (k, omega (arith, within), is)
]

pub passes_none : {X : Type 0} (test : X → Bool) (xs : List X) → ((x : X) → Contains xs x → test x ≡ false) → find test xs ≡ None
passes_none test [] miss = refl
passes_none test (y ∷ xs) miss =
    let here : test y ≡ false = miss y (0, omega arith, refl) in
    rw here (passes_none test xs (λ x there. miss x (suc there.0, omega (arith, there.1), there.2)))

pub find_is : {X : Type 0} (test : X → Bool) (xs : List X) (x : X) → find test xs ≡ Some x → Contains xs x × (test x ≡ true)
find_is test [] x is = absurd (cc)
find_is test (y ∷ xs) x is = elim (cases_Bool (test y)) [
  | inl hit ↦
      (let found : Some y ≡ Some x = rw hit at is in
      let same : y ≡ x = cc in
      ((0, omega arith, same), ap test (sym same) ∙ hit))
  | inr miss ↦
      (let rest = find_is test xs x (rw miss at is) in
      ((suc rest.0.0, omega (arith, rest.0.1), rest.0.2), rest.1))
]

pub find_some : {X : Type 0} (test : X → Bool) (xs : List X) (x : X) → Contains xs x → test x ≡ true → (y : X) × (find test xs ≡ Some y)
find_some test [] x there hit = absurd (omega (arith, there.1))
find_some test (y ∷ xs) x (zero, within, is) hit =
    let here : test y ≡ true = ap test is ∙ hit in
    (y, rw here refl)
find_some test (y ∷ xs) x (suc k, within, is) hit = elim (cases_Bool (test y)) [
  | inl here ↦ (y, rw here refl)
  | inr miss ↦
      (let rest = find_some test xs x (k, omega (arith, within), is) hit in
      (rest.0, rw miss rest.1))
]

-- ---- slots by number

pub find_slot : (test : Slot → Bool) (n : ℕ) (slots : List Slot) (x : ℕ × Slot) → find (λ s. test s.1) (numbered_from n slots) ≡ Some x → (k : ℕ) × (slice_get slots k ≡ Some x.1) × (test x.1 ≡ true)
find_slot test n [] x is = absurd (cc)
find_slot test n (s ∷ slots) x is = elim (cases_Bool (test s)) [
  | inl hit ↦
      (let found : Some (n, s) ≡ Some x = rw hit at is in
      let same : (n, s) ≡ x = cc in
      (0, ap (λ (y : ℕ × Slot). Some y.1) same, ap (λ (y : ℕ × Slot). test y.1) (sym same) ∙ hit))
  | inr miss ↦
      (let rest = find_slot test (n + 1) slots x (rw miss at is) in
      (suc rest.0, rest.1, rest.2))
]

pub slot_found : (test : Slot → Bool) (n : ℕ) (slots : List Slot) (k : ℕ) (s : Slot) → slice_get slots k ≡ Some s → test s ≡ true → (x : ℕ × Slot) × (find (λ y. test y.1) (numbered_from n slots) ≡ Some x)
slot_found test n [] k s at hit = absurd (cc)
slot_found test n (t ∷ slots) zero s at hit =
    let same : t ≡ s = cc in
    let here : test t ≡ true = ap test same ∙ hit in
    ((n, t), rw here refl)
slot_found test n (t ∷ slots) (suc k) s at hit = elim (cases_Bool (test t)) [
  | inl here ↦ ((n, t), rw here refl)
  | inr miss ↦
      (let rest = slot_found test (n + 1) slots k s at hit in
      (rest.0, rw miss rest.1))
]

-- the only slot that passes is the one that is found
pub only_slot : (test : Slot → Bool) (n : ℕ) (slots : List Slot) (k : ℕ) (s : Slot) → slice_get slots k ≡ Some s → test s ≡ true → ((j : ℕ) (t : Slot) → slice_get slots j ≡ Some t → test t ≡ true → j ≡ k) → (x : ℕ × Slot) × (find (λ y. test y.1) (numbered_from n slots) ≡ Some x) × (x.1 ≡ s)
only_slot test n slots k s at hit only =
    let x = slot_found test n slots k s at hit in
    let j = find_slot test n slots x.0 x.1 in
    let same : j.0 ≡ k = only j.0 x.0.1 j.1 j.2 in
    let slot : Some x.0.1 ≡ Some s = sym j.1 ∙ ap (λ (m : ℕ). slice_get slots m) same ∙ at in
    (x.0, x.1, cc)

pub told_get : (slots : List Slot) (k : ℕ) (s : Slot) → slice_get slots k ≡ Some s → slice_get (all_here slots) k ≡ Some (told_here s)
told_get [] k s at = absurd (cc)
told_get (t ∷ slots) zero s at = (let same : t ≡ s = cc in ap (λ (x : Slot). Some (told_here x)) same)
told_get (t ∷ slots) (suc k) s at = told_get slots k s at

pub told_back : (slots : List Slot) (k : ℕ) (s : Slot) → slice_get (all_here slots) k ≡ Some s → (t : Slot) × (slice_get slots k ≡ Some t) × (told_here t ≡ s)
told_back [] k s at = absurd (cc)
told_back (t ∷ slots) zero s at = (t, refl, cc)
told_back (t ∷ slots) (suc k) s at = told_back slots k s at

-- a fragment that stands on the only slot that holds its tape stands there for a play
pub stands_here : (slots : List Slot) (d : DumpRecordFields) (c : Lying) (f : Fragment) (k : ℕ) (s : Slot) → slice_get slots k ≡ Some s → holds d c.tape s.items ≡ true → ((j : ℕ) (t : Slot) → slice_get slots j ≡ Some t → holds d c.tape t.items ≡ true → j ≡ k) → StandsAt c s.items f → StandsOn (all_here slots) d c f
stands_here slots d c f k s at held only stands =
    let test : Slot → Bool = λ t. t.here && holds d c.tape t.items in
    let x = only_slot test 0 (all_here slots) k (told_here s) (told_get slots k s at) held (λ j t there hit.
    (let u = told_back slots j t there in
    only j u.0 u.1 (ap (λ (v : Slot). holds d c.tape v.items) u.2 ∙ (and_parts t.here (holds d c.tape t.items) hit).1))) in
    subst (λ (o : Option (ℕ × Slot)). IsSomeAnd o (λ y. StandsAt c y.1.items f)) (sym x.1) (subst (λ (u : Slot). StandsAt c u.items f) (sym x.2) stands)

-- ---- what is held of what is needed

pub some_if : {X : Type 0} (o : Option X) → is_none o ≡ false → (x : X) × (o ≡ Some x)
some_if None is = absurd (cc)
some_if (Some x) is = (x, refl)

none_not : {X : Type 0} (o : Option X) (x : X) → o ≡ Some x → is_none o ≡ false
none_not o x is = ap is_none is

-- each tape that is needed is held, where none is the first that isn't
pub need_held : (slots : List Slot) (needs : List Need) (n : Need) → find (is_unheld slots) needs ≡ None → Contains needs n → (k : ℕ) × (s : Slot) × (slice_get slots k ≡ Some s) × (holds n.dump n.tape s.items ≡ true)
need_held slots needs n none there =
    let x = some_if (holder n.dump n.tape slots) (none_passes (is_unheld slots) needs n none there) in
    let k = find_slot (λ t. holds n.dump n.tape t.items) 0 slots x.0 x.1 in
    (k.0, x.0.1, k.1, k.2)

pub held_need : (slots : List Slot) (n : Need) (k : ℕ) (s : Slot) → slice_get slots k ≡ Some s → holds n.dump n.tape s.items ≡ true → is_unheld slots n ≡ false
held_need slots n k s at held =
    let x = slot_found (λ t. holds n.dump n.tape t.items) 0 slots k s at held in
    none_not (holder n.dump n.tape slots) x.0 x.1
