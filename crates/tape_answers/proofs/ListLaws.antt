-- Members of lists, and lists in ascending order.
use Rattle.std.proofs.Common.{◌≡◌, ◌⊎◌, inl, inr, ℕ, zero, suc, ◌<◌, Bool, true, false, List, [], ◌∷◌, map, get_or, refl, sym, ◌∙◌, ap, subst, arith}
use Rattle.std.specs.Prelude.{All, AllPairs, Contains, Some, None, filter, if◌then◌else◌}
use Rattle.std.specs.List.{find, list_any}
use Rattle.std.proofs.lemmas.Bool.{or_cases, or_left, or_right}
use Rattle.std.proofs.lemmas.List.Elements.{Contains-get_or, All-contains}
use Rattle.std.proofs.lemmas.List.Kept.{AllPairs-cons}
use Rattle.tape_scan.proofs.ListLaws.{contains_map, of_filter}

-- ---- members

pub here : {X : Type 0} (x : X) (xs : List X) → Contains (x ∷ xs) x
here x xs = (0, omega arith, refl)

pub there : {X : Type 0} (x : X) (xs : List X) (y : X) → Contains xs y → Contains (x ∷ xs) y
there x xs y (k, within, is) = (suc k, omega (arith, within), is)

pub nowhere : {X : Type 0} (y : X) → Contains [] y → ⊥
nowhere y (k, within, is) = absurd (omega (arith, within))

pub here_or_there : {X : Type 0} (x : X) (xs : List X) (y : X) → Contains (x ∷ xs) y → (x ≡ y) ⊎ Contains xs y
here_or_there x xs y (zero, within, is) = inl is
here_or_there x xs y (suc k, within, is) = inr (k, omega (arith, within), is)

pub all_members : {X : Type 0} (P : X → Type 0) (xs : List X) → ((x : X) → Contains xs x → P x) → All P xs
all_members P xs each = λ k d within. each (get_or xs k d) (Contains-get_or xs k d within)

pub contains_to : {X Y : Type 0} (f : X → Y) (xs : List X) (x : X) → Contains xs x → Contains (map f xs) (f x)
contains_to f [] x member = absurd (nowhere x member)
contains_to f (y ∷ xs) x (zero, within, is) = (0, omega arith, ap f is)
contains_to f (y ∷ xs) x (suc k, within, is) = there (f y) (map f xs) (f x) (contains_to f xs x (k, omega (arith, within), is))

pub any_from : {X : Type 0} (test : X → Bool) (xs : List X) (x : X) → Contains xs x → test x ≡ true → list_any test xs ≡ true
any_from test [] x member on = absurd (nowhere x member)
any_from test (y ∷ xs) x member on = elim (here_or_there y xs x member) [
  | inl is ↦ or_left (test y) (list_any test xs) (ap test is ∙ on)
  | inr rest ↦ or_right (test y) (list_any test xs) (any_from test xs x rest on)
]

pub any_to : {X : Type 0} (test : X → Bool) (xs : List X) → list_any test xs ≡ true → (x : X) × Contains xs x × (test x ≡ true)
any_to test [] e = absurd (let no : false ≡ true = e in cc)
any_to test (y ∷ xs) e = elim (or_cases (test y) (list_any test xs) e) [
  | inl on ↦ (y, here y xs, on)
  | inr rest ↦ let found = any_to test xs rest in (found.0, there y xs found.0 found.1, found.2)
]

-- ---- ascending order

-- each one's number is below those of all behind it
abbrev pub Ascends : {X : Type 0} → (X → ℕ) → List X → Type 0
Ascends key [] = Unit {0}
Ascends key (x ∷ xs) = All (λ y. key x < key y) xs × Ascends key xs

pub above : {X : Type 0} (key : X → ℕ) (x : X) (xs : List X) (y : X) → All (λ y. key x < key y) xs → Contains xs y → key x < key y
above key x xs y all member = All-contains (λ y. key x < key y) xs y all member

pub pairs_of : {X : Type 0} (key : X → ℕ) (xs : List X) → Ascends key xs → AllPairs (λ x y. key x < key y) xs
pairs_of key [] up = λ i j d lt within. absurd (omega (arith, within))
pairs_of key (x ∷ xs) up = AllPairs-cons (λ x y. key x < key y) x xs up.0 (pairs_of key xs up.1)

all_map : {X Y : Type 0} (f : X → Y) (P : Y → Type 0) (xs : List X) → All (λ x. P (f x)) xs → All P (map f xs)
all_map f P xs all = all_members P (map f xs) (λ y member. let found = contains_map f xs y member in subst P found.2 (All-contains (λ x. P (f x)) xs found.0 all found.1))

pub ascends_map : {X Y : Type 0} (f : X → Y) (key : Y → ℕ) (xs : List X) → Ascends (λ x. key (f x)) xs → Ascends key (map f xs)
ascends_map f key [] up = tt
ascends_map f key (x ∷ xs) up = (all_map f (λ y. key (f x) < key y) xs up.0, ascends_map f key xs up.1)

pub ascends_filter : {X : Type 0} (key : X → ℕ) (test : X → Bool) (xs : List X) → Ascends key xs → Ascends key (filter test xs)
ascends_filter key test [] up = tt
ascends_filter key test (x ∷ xs) up = go (ascends_filter key test xs up.1) (test x)
  where
    go : Ascends key (filter test xs) → (b : Bool) → Ascends key (if b then x ∷ filter test xs else filter test xs)
    go rest true = (all_members (λ y. key x < key y) (filter test xs) (λ y member. above key x xs y up.0 (of_filter test xs y member).0), rest)
    go rest false = rest

-- ---- the first that passes

pub find_there : {X : Type 0} (test : X → Bool) (xs : List X) (x : X) → find test xs ≡ Some x → Contains xs x × (test x ≡ true)
find_there test [] x e = absurd (cc)
find_there test (y ∷ xs) x e = go (find_there test xs x) (test y) refl e
  where
    go : (find test xs ≡ Some x → Contains xs x × (test x ≡ true)) → (b : Bool) → test y ≡ b → (if b then Some y else find test xs) ≡ Some x → Contains (y ∷ xs) x × (test x ≡ true)
    go again true on same = let is : y ≡ x = cc in (subst (Contains (y ∷ xs)) is (here y xs), ap test (sym is) ∙ on)
    go again false off same = let rest = again same in (there y xs x rest.0, rest.1)

pub find_nowhere : {X : Type 0} (test : X → Bool) (xs : List X) (x : X) → find test xs ≡ None → Contains xs x → test x ≡ true → ⊥
find_nowhere test [] x e member on = nowhere x member
find_nowhere test (y ∷ xs) x e member on = go (find_nowhere test xs x) (test y) refl e
  where
    go : (find test xs ≡ None → Contains xs x → test x ≡ true → ⊥) → (b : Bool) → test y ≡ b → (if b then Some y else find test xs) ≡ None → ⊥
    go again true passed same = absurd (cc)
    go again false off same = elim (here_or_there y xs x member) [
      | inl is ↦ absurd (let no : false ≡ true = sym off ∙ ap test is ∙ on in cc)
      | inr rest ↦ again same rest on
    ]

pub find_first : {X : Type 0} (key : X → ℕ) (test : X → Bool) (xs : List X) (x y : X) → Ascends key xs → find test xs ≡ Some x → Contains xs y → key y < key x → test y ≡ true → ⊥
find_first key test [] x y up e member lt on = nowhere y member
find_first key test (z ∷ xs) x y up e member lt on = go (find_first key test xs x y up.1) (test z) refl e
  where
    go : (find test xs ≡ Some x → Contains xs y → key y < key x → test y ≡ true → ⊥) → (b : Bool) → test z ≡ b → (if b then Some z else find test xs) ≡ Some x → ⊥
    go again true passed same =
        let is : z ≡ x = cc in
        elim (here_or_there z xs y member) [
          | inl same_y ↦ absurd (let keys : key y ≡ key x = ap key (sym same_y ∙ is) in omega (arith, lt, keys))
          | inr rest ↦ absurd (let keys : key z ≡ key x = ap key is in let later = above key z xs y up.0 rest in omega (arith, lt, keys, later))
        ]
    go again false off same = elim (here_or_there z xs y member) [
      | inl is ↦ absurd (let no : false ≡ true = sym off ∙ ap test is ∙ on in cc)
      | inr rest ↦ again same rest lt on
    ]
