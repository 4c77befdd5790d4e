-- Lists that are filtered and mapped.
use Rattle.std.proofs.Common.{◌≡◌, ◌≢◌, ℕ, ◌+◌, List, [], ◌∷◌, ◌++◌, length, map, Bool, true, false, not, refl, sym, ◌∙◌, ap, arith, ⊎_elim}
use Rattle.std.proofs.lemmas.Bool.{cases_Bool, cond_both}
use Rattle.std.specs.List.{filter, AllByRecursion}
use Rattle.budb_links.specs.Keyed.{Differ}
use Rattle.budb_links.proofs.Places.{filter_keeps, filter_drops}

pub filter_mapped : {X Y : Type 0} (f : X → Y) (t : Y → Bool) (xs : List X) → filter t (map f xs) ≡ map f (filter (λ x. t (f x)) xs)
filter_mapped f t [] = refl
filter_mapped f t (x ∷ xs) =
    let rest = filter_mapped f t xs in
    ⊎_elim
    (λ (h : t (f x) ≡ true). filter_keeps t (f x) (map f xs) h ∙ ap (λ (l : List _). f x ∷ l) rest ∙ sym (ap (map f) (filter_keeps (λ y. t (f y)) x xs h)))
    (λ (h : t (f x) ≡ false). filter_drops t (f x) (map f xs) h ∙ rest ∙ sym (ap (map f) (filter_drops (λ y. t (f y)) x xs h)))
    (cases_Bool (t (f x)))

pub filter_none : {X : Type 0} (t : X → Bool) (xs : List X) → AllByRecursion (λ x. t x ≡ false) xs → filter t xs ≡ []
filter_none t [] a = refl
filter_none t (x ∷ xs) a = filter_drops t x xs a.0 ∙ filter_none t xs a.1

pub filter_all : {X : Type 0} (t : X → Bool) (xs : List X) → AllByRecursion (λ x. t x ≡ true) xs → filter t xs ≡ xs
filter_all t [] a = refl
filter_all t (x ∷ xs) a = filter_keeps t x xs a.0 ∙ ap (λ (l : List _). x ∷ l) (filter_all t xs a.1)

-- what one test drops a weaker one may drop before
pub filter_twice : {X : Type 0} (t u : X → Bool) (xs : List X) → AllByRecursion (λ x. u x ≡ false → t x ≡ false) xs → filter t (filter u xs) ≡ filter t xs
filter_twice t u [] a = refl
filter_twice t u (x ∷ xs) a =
    let rest = filter_twice t u xs a.1 in
    ⊎_elim
    (λ (h : u x ≡ true).
    ap (filter t) (filter_keeps u x xs h)
    ∙ ⊎_elim
    (λ (k : t x ≡ true). filter_keeps t x (filter u xs) k ∙ ap (λ (l : List _). x ∷ l) rest ∙ sym (filter_keeps t x xs k))
    (λ (k : t x ≡ false). filter_drops t x (filter u xs) k ∙ rest ∙ sym (filter_drops t x xs k))
    (cases_Bool (t x)))
    (λ (h : u x ≡ false). ap (filter t) (filter_drops u x xs h) ∙ rest ∙ sym (filter_drops t x xs (a.0 h)))
    (cases_Bool (u x))

-- what a test keeps and what it drops are as many as all
pub filter_parts : {X : Type 0} (t : X → Bool) (xs : List X) → length (filter t xs) + length (filter (λ x. not (t x)) xs) ≡ length xs
filter_parts t [] = refl
filter_parts t (x ∷ xs) =
    let rest = filter_parts t xs in
    ⊎_elim
    (λ (h : t x ≡ true).
    let kept = ap length (filter_keeps t x xs h) in
    let dropped = ap length (filter_drops (λ y. not (t y)) x xs (ap not h)) in
    omega (arith, rest, kept, dropped))
    (λ (h : t x ≡ false).
    let dropped = ap length (filter_drops t x xs h) in
    let kept = ap length (filter_keeps (λ y. not (t y)) x xs (ap not h)) in
    omega (arith, rest, kept, dropped))
    (cases_Bool (t x))

-- ---- all of a list

pub all_filter : {X : Type 0} (P : X → Type 0) (t : X → Bool) (xs : List X) → AllByRecursion P xs → AllByRecursion P (filter t xs)
all_filter P t [] a = tt
all_filter P t (x ∷ xs) a =
    let rest = all_filter P t xs a.1 in
    cond_both (t x) (x ∷ filter t xs) (filter t xs) (λ (l : List _). AllByRecursion P l) (λ b. (a.0, rest)) (λ b. rest)

pub all_append : {X : Type 0} (P : X → Type 0) (xs ys : List X) → AllByRecursion P xs → AllByRecursion P ys → AllByRecursion P (xs ++ ys)
all_append P [] ys a b = b
all_append P (x ∷ xs) ys a b = (a.0, all_append P xs ys a.1 b)

pub all_so : {X : Type 0} (P Q : X → Type 0) → ((x : X) → P x → Q x) → (xs : List X) → AllByRecursion P xs → AllByRecursion Q xs
all_so P Q f [] a = tt
all_so P Q f (x ∷ xs) a = (f x a.0, all_so P Q f xs a.1)

pub all_of_mapped : {X Y : Type 0} (f : X → Y) (P : Y → Type 0) (xs : List X) → AllByRecursion P (map f xs) → AllByRecursion (λ x. P (f x)) xs
all_of_mapped f P [] a = tt
all_of_mapped f P (x ∷ xs) a = (a.0, all_of_mapped f P xs a.1)

pub all_mapped : {X Y : Type 0} (f : X → Y) (P : Y → Type 0) (xs : List X) → AllByRecursion (λ x. P (f x)) xs → AllByRecursion P (map f xs)
all_mapped f P [] a = tt
all_mapped f P (x ∷ xs) a = (a.0, all_mapped f P xs a.1)

-- ---- numbers of which none stands twice

pub differ_filter : {X : Type 0} (f : X → ℕ) (t : X → Bool) (xs : List X) → Differ (map f xs) → Differ (map f (filter t xs))
differ_filter f t [] d = tt
differ_filter f t (x ∷ xs) d =
    let rest = differ_filter f t xs d.1 in
    let apart = all_mapped f (λ n. n ≢ f x) (filter t xs) (all_filter (λ y. f y ≢ f x) t xs (all_of_mapped f (λ n. n ≢ f x) xs d.0)) in
    cond_both (t x) (x ∷ filter t xs) (filter t xs) (λ (l : List _). Differ (map f l)) (λ b. (apart, rest)) (λ b. rest)

-- ---- a list that is mapped to two parts

pub record Parts {X Y : Type 0} (f : X → Y) (xs : List X) (ys zs : List Y) : Type 0 where
  pub front : List X
  pub back : List X
  pub whole : xs ≡ front ++ back
  pub first : map f front ≡ ys
  pub second : map f back ≡ zs

pub parts : {X Y : Type 0} (f : X → Y) (xs : List X) (ys zs : List Y) → map f xs ≡ ys ++ zs → Parts f xs ys zs
parts f xs [] zs is = record { front = []; back = xs; whole = refl; first = refl; second = is }
parts f [] (y ∷ ys) zs is = absurd (let no : ⊥ = cc in no)
parts f (x ∷ xs) (y ∷ ys) zs is =
    let head : f x ≡ y = cc in
    let tail : map f xs ≡ ys ++ zs = cc in
    let p = parts f xs ys zs tail in
    record {
      front = x ∷ p.front;
      back = p.back;
      whole = ap (λ (l : List _). x ∷ l) p.whole;
      first = ap (λ n. n ∷ map f p.front) head ∙ ap (λ (l : List _). y ∷ l) p.first;
      second = p.second;
    }
