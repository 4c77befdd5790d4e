-- Fronts of lists, members, and what a filter keeps.
use Rattle.std.proofs.Common.{◌≡◌, ◌⊎◌, ℕ, zero, suc, ◌<◌, ◌≤◌, Bool, true, List, [], ◌∷◌, ◌++◌, length, map, take, refl, sym, ap, ◌∙◌, arith, inl, inr}
use Rattle.std.specs.Prelude.{All, Contains, filter}
use Rattle.std.proofs.lemmas.Bool.{cases_Bool}
use Rattle.std.proofs.lemmas.List.Elements.{All-nil, All-cons, All-head, All-tail}
use Rattle.tape_text.specs.Items.{Item}
use Rattle.tape_text.specs.Texts.{Linked}

pub take_of_append : {X : Type 0} (n : ℕ) (xs ys : List X) → n ≤ length xs → take n (xs ++ ys) ≡ take n xs
take_of_append zero xs ys le = refl
take_of_append (suc n) [] ys le = absurd (omega arith)
take_of_append (suc n) (x ∷ xs) ys le = ap (λ t. x ∷ t) (take_of_append n xs ys (omega arith))

pub take_of_take : {X : Type 0} (m n : ℕ) (l : List X) → m ≤ n → take m (take n l) ≡ take m l
take_of_take zero n l le = refl
take_of_take (suc m) zero l le = absurd (omega arith)
take_of_take (suc m) (suc n) [] le = refl
take_of_take (suc m) (suc n) (x ∷ l) le = ap (λ t. x ∷ t) (take_of_take m n l (omega arith))

pub contains_map : {X Y : Type 0} (h : X → Y) (xs : List X) (y : Y) → Contains (map h xs) y → (x : X) × Contains xs x × (h x ≡ y)
contains_map h [] y there = absurd (omega (arith, there.1))
contains_map h (x ∷ xs) y (zero, within, is) = (x, (0, omega arith, refl), is)
contains_map h (x ∷ xs) y (suc k, within, is) =
    let rest = contains_map h xs y (k, omega (arith, within), is) in
    (rest.0, (suc rest.1.0, omega (arith, rest.1.1), rest.1.2), rest.2)

pub All_join : {X : Type 0} (P : X → Type 0) (xs ys : List X) → All P xs → All P ys → All P (xs ++ ys)
All_join P [] ys all more = more
All_join P (x ∷ xs) ys all more = All-cons P x (xs ++ ys) (All-head P x xs all) (All_join P xs ys (All-tail P x xs all) more)

pub contains_filter : {X : Type 0} (test : X → Bool) (xs : List X) (x : X) → Contains xs x → test x ≡ true → Contains (filter test xs) x
contains_filter test [] x there passes = absurd (omega (arith, there.1))
contains_filter test (y ∷ xs) x (zero, within, is) passes =
    let here : test y ≡ true = ap test is ∙ passes in rw here (0, omega arith, is)
contains_filter test (y ∷ xs) x (suc k, within, is) passes =
    let rest : Contains (filter test xs) x = contains_filter test xs x (k, omega (arith, within), is) passes in
    elim (cases_Bool (test y)) [
      | inl keeps ↦ rw keeps (suc rest.0, omega (arith, rest.1), rest.2)
      | inr drops ↦ rw drops rest
    ]

of_kept : {X : Type 0} (test : X → Bool) (y : X) (xs : List X) (x : X) → test y ≡ true → Contains (y ∷ filter test xs) x → (Contains (filter test xs) x → Contains xs x × (test x ≡ true)) → Contains (y ∷ xs) x × (test x ≡ true)
of_kept test y xs x keeps (zero, within, is) rest = ((zero, omega arith, is), ap test (sym is) ∙ keeps)
of_kept test y xs x keeps (suc k, within, is) rest =
    let found = rest (k, omega (arith, within), is) in
    ((suc found.0.0, omega (arith, found.0.1), found.0.2), found.1)

pub of_filter : {X : Type 0} (test : X → Bool) (xs : List X) (x : X) → Contains (filter test xs) x → Contains xs x × (test x ≡ true)
of_filter test [] x there = absurd (omega (arith, there.1))
of_filter test (y ∷ xs) x there = elim (cases_Bool (test y)) [
  | inl keeps ↦ of_kept test y xs x keeps (rw keeps at there) (of_filter test xs x)
  | inr drops ↦
      (let rest = of_filter test xs x (rw drops at there) in
      ((suc rest.0.0, omega (arith, rest.0.1), rest.0.2), rest.1))
]

pub either : (a b : ℕ) → (a < b) ⊎ (b ≤ a)
either zero zero = inr (omega arith)
either zero (suc b) = inl (omega arith)
either (suc a) zero = inr (omega arith)
either (suc a) (suc b) = elim (either a b) [
  | inl lt ↦ inl (omega arith)
  | inr le ↦ inr (omega arith)
]

pub no_more : (xs : List Item) (next : Item) (more : List Item) → [] ≡ xs ++ next ∷ more → ⊥
no_more [] next more same = absurd (cc)
no_more (x ∷ xs) next more same = absurd (cc)

pub push_same : (xs ys : List Item) (x y : Item) → xs ++ x ∷ [] ≡ ys ++ y ∷ [] → (xs ≡ ys) × (x ≡ y)
push_same [] [] x y same = (refl, cc)
push_same [] (b ∷ []) x y same = absurd (cc)
push_same [] (b ∷ c ∷ ys) x y same = absurd (cc)
push_same (a ∷ []) [] x y same = absurd (cc)
push_same (a ∷ c ∷ xs) [] x y same = absurd (cc)
push_same (a ∷ xs) (b ∷ ys) x y same =
    let rest : xs ++ x ∷ [] ≡ ys ++ y ∷ [] = cc in
    let parts = push_same xs ys x y rest in
    let all : xs ≡ ys = parts.0 in
    (cc, parts.1)

pub same_or_not : (a b : ℕ) → (a ≡ b) ⊎ (a ≡ b → ⊥)
same_or_not a b = elim (either a b) [
  | inl lt ↦ inr (λ same. absurd (omega (arith, lt, same)))
  | inr le ↦ elim (either b a) [
    | inl lt ↦ inr (λ same. absurd (omega (arith, lt, same)))
    | inr ge ↦ inl (omega arith)
  ]
]

pub All_front : {X : Type 0} (P : X → Type 0) (xs ys : List X) → All P (xs ++ ys) → All P xs
All_front P [] ys all = All-nil P
All_front P (x ∷ xs) ys all = All-cons P x xs (All-head P x (xs ++ ys) all) (All_front P xs ys (All-tail P x (xs ++ ys) all))

pub Linked_front : {X : Type 0} (Next : X → X → Type 0) (xs ys : List X) → Linked Next (xs ++ ys) → Linked Next xs
Linked_front Next [] ys linked = tt
Linked_front Next (x ∷ []) ys linked = tt
Linked_front Next (x ∷ z ∷ xs) ys linked = (linked.0, Linked_front Next (z ∷ xs) ys linked.1)
