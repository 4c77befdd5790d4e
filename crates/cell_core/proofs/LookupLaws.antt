-- What is found by a key, and what a list contains, after one is placed or taken away.
use Rattle.std.proofs.Common.{zero, suc, ◌≡◌, ◌≢◌, ◌⊎◌, ℕ, Bool, true, false, cond, not, List, [], ◌∷◌, ◌++◌, get_or, refl, sym, ◌∙◌, ap, subst, inl, inr, arith}
use Rattle.std.specs.Prelude.{filter, find, Option, Some, None, Contains}
use Rattle.std.specs.declared.cmp.Ordering.{Ordering}
use Rattle.std.specs.declared.cmp.Ordering.TheVariants.{Less, Equal, Greater}
use Rattle.std.specs.Ordering.{is_lt, is_eq, is_gt}
use Rattle.std.specs.Cmp.{IsTotalOrder}
use Rattle.std.proofs.lemmas.List.{get_or_default}
use Rattle.std.proofs.lemmas.Bool.{cases_order, cond-true, cond-false, false_from_ne_true, true_from_ne_false, not-false, true≢false}
use Rattle.std.proofs.lemmas.Option.{same_Some}
use Rattle.std.proofs.lemmas.Cmp.{tied_itself, tied_back}
use Rattle.std.proofs.lemmas.List.Elements.{Contains-append_cases}
use Rattle.cell_core.specs.Orders.{AreAscending, of_key, before_key, behind_key, placed, without_key}
use Rattle.cell_core.proofs.OrderLaws.{from_eq}

-- ---- membership

contains_cons : {A : Type 0} (x : A) (xs : List A) (a : A) → Contains (x ∷ xs) a → (x ≡ a) ⊎ Contains xs a
contains_cons x xs a (zero, within, is) = inl is
contains_cons x xs a (suc n, within, is) = inr (n, omega arith, is)

one_further : {A : Type 0} (p : A → Bool) (x : A) (xs : List A) (a : A) → Contains xs a × (p a ≡ true) → Contains (x ∷ xs) a × (p a ≡ true)
one_further p x xs a h = ((suc h.0.0, omega (arith, h.0.1), h.0.2), h.1)

contains_filter : {A : Type 0} (p : A → Bool) (xs : List A) (a : A) → Contains (filter p xs) a → Contains xs a × (p a ≡ true)
contains_filter p [] a h = absurd (omega (arith, h.1))
contains_filter {A = A} p (x ∷ xs) a h =
    elim (p x) as (λ b. p x ≡ b → Contains (cond b (x ∷ filter p xs) (filter p xs)) a → Contains (x ∷ xs) a × (p a ≡ true)) [
      | true ↦ λ e g. elim (contains_cons x (filter p xs) a g) [
        | inl same ↦ ((0, omega arith, same), subst (λ (y : A). p y ≡ true) same e)
        | inr there ↦ one_further p x xs a (contains_filter p xs a there)
      ]
      | false ↦ λ e g. one_further p x xs a (contains_filter p xs a g)
    ] refl h

-- ---- finding

find_append : {A : Type 0} (p : A → Bool) (xs ys : List A) → find p xs ≡ None → find p (xs ++ ys) ≡ find p ys
find_append p [] ys h = refl
find_append p (x ∷ xs) ys h =
    elim (p x) as (λ b. cond b (Some x) (find p xs) ≡ None → cond b (Some x) (find p (xs ++ ys)) ≡ find p ys) [
      | true ↦ λ g. absurd cc
      | false ↦ λ g. find_append p xs ys g
    ] h

find_front : {A : Type 0} (p : A → Bool) (xs ys : List A) → find p ys ≡ None → find p (xs ++ ys) ≡ find p xs
find_front p [] ys h = h
find_front {A = A} p (x ∷ xs) ys h = ap (λ (r : Option A). cond (p x) (Some x) r) (find_front p xs ys h)

find_in_filter : {A : Type 0} (p q : A → Bool) → ((a : A) → p a ≡ true → q a ≡ true) → (xs : List A) → find p (filter q xs) ≡ find p xs
find_in_filter p q same [] = refl
find_in_filter {A = A} p q same (x ∷ xs) =
    elim (q x) as (λ c. q x ≡ c → find p (cond c (x ∷ filter q xs) (filter q xs)) ≡ find p (x ∷ xs)) [
      | true ↦ λ e. ap (λ (r : Option A). cond (p x) (Some x) r) (find_in_filter p q same xs)
      | false ↦ λ e. find_in_filter p q same xs ∙ sym (cond-false (p x) (Some x) (find p xs) (false_from_ne_true (p x) (λ t. true≢false (sym (same x t) ∙ e))))
    ] refl

find_outside : {A : Type 0} (p q : A → Bool) → ((a : A) → p a ≡ true → q a ≡ false) → (xs : List A) → find p (filter q xs) ≡ None
find_outside p q apart [] = refl
find_outside {A = A} p q apart (x ∷ xs) =
    elim (q x) as (λ c. q x ≡ c → find p (cond c (x ∷ filter q xs) (filter q xs)) ≡ None) [
      | true ↦ λ e. cond-false (p x) (Some x) (find p (filter q xs)) (false_from_ne_true (p x) (λ t. true≢false (sym e ∙ apart x t))) ∙ find_outside p q apart xs
      | false ↦ λ e. find_outside p q apart xs
    ] refl

pub found_contains : {A : Type 0} (p : A → Bool) (xs : List A) (a : A) → find p xs ≡ Some a → Contains xs a × (p a ≡ true)
found_contains p [] a h = absurd cc
found_contains {A = A} p (x ∷ xs) a h =
    elim (p x) as (λ b. p x ≡ b → cond b (Some x) (find p xs) ≡ Some a → Contains (x ∷ xs) a × (p a ≡ true)) [
      | true ↦ λ e g. let same : x ≡ a = same_Some x a g in ((0, omega arith, same), subst (λ (y : A). p y ≡ true) same e)
      | false ↦ λ e g. let r = found_contains p xs a g in ((suc r.0.0, omega (arith, r.0.1), r.0.2), r.1)
    ] refl h

-- ---- by key

not_eq : (o : Ordering) → not (is_eq o) ≡ true → o ≢ Equal
not_eq Less h = λ e. cc
not_eq Equal h = λ e. cc
not_eq Greater h = λ e. cc

lt_not_eq : (o : Ordering) → is_lt o ≡ true → o ≢ Equal
lt_not_eq Less h = λ e. cc
lt_not_eq Equal h = λ e. cc
lt_not_eq Greater h = λ e. cc

gt_not_eq : (o : Ordering) → is_gt o ≡ true → o ≢ Equal
gt_not_eq Less h = λ e. cc
gt_not_eq Equal h = λ e. cc
gt_not_eq Greater h = λ e. cc

less_equal_apart : (o : Ordering) → o ≡ Less → o ≡ Equal → ⊥
less_equal_apart o less same = let e : Less ≡ Equal = sym less ∙ same in cc

module _ {A K : Type 0} (order : K → K → Ordering) (key : A → K) (total : IsTotalOrder order) where
  -- one of a list with one more placed is that one, or it was there and has another key
  pub contains_placed : (a : A) (xs : List A) (b : A) → Contains (placed order key a xs) b → (a ≡ b) ⊎ (Contains xs b × (order (key b) (key a) ≢ Equal))
  contains_placed a xs b h =
      elim (Contains-append_cases (before_key order key (key a) xs) (a ∷ behind_key order key (key a) xs) b h) [
        | inl low ↦ let r = contains_filter (λ (c : A). is_lt (order (key c) (key a))) xs b low in inr (r.0, lt_not_eq (order (key b) (key a)) r.1)
        | inr high ↦ elim (contains_cons a (behind_key order key (key a) xs) b high) [
          | inl same ↦ inl same
          | inr there ↦ let r = contains_filter (λ (c : A). is_gt (order (key c) (key a))) xs b there in inr (r.0, gt_not_eq (order (key b) (key a)) r.1)
        ]
      ]

  pub contains_without : (k : K) (xs : List A) (b : A) → Contains (without_key order key k xs) b → Contains xs b × (order (key b) k ≢ Equal)
  contains_without k xs b h = let r = contains_filter (λ (c : A). not (is_eq (order (key c) k))) xs b h in (r.0, not_eq (order (key b) k) r.1)

  pub key_found : (k : K) (xs : List A) (a : A) → of_key order key k xs ≡ Some a → Contains xs a × (order (key a) k ≡ Equal)
  key_found k xs a h = let r = found_contains (λ (c : A). is_eq (order (key c) k)) xs a h in (r.0, from_eq (order (key a) k) r.1)

  -- another key finds what it found
  module _ (k : K) (a : A) (apart : order k (key a) ≢ Equal) where
    same_side : (b : A) → is_eq (order (key b) k) ≡ true → order (key b) (key a) ≡ order k (key a)
    same_side b h = total.congr (key b) k (key a) (from_eq (order (key b) k) h)

    no_eq : is_eq (order k (key a)) ≡ false
    no_eq = by (order k (key a)) apart
      where
        by : (o : Ordering) → o ≢ Equal → is_eq o ≡ false
        by Less n = refl
        by Equal n = absurd (n refl)
        by Greater n = refl

    not_itself : is_eq (order (key a) k) ≡ false
    not_itself = false_from_ne_true (is_eq (order (key a) k)) (λ t. apart (tied_back total (key a) k (from_eq (order (key a) k) t)))

    pub found_beside : (xs : List A) → of_key order key k (placed order key a xs) ≡ of_key order key k xs
    found_beside xs = by (order k (key a)) refl
      where
        by : (o : Ordering) → order k (key a) ≡ o → of_key order key k (placed order key a xs) ≡ of_key order key k xs
        by Less e =
            let p : A → Bool = λ (b : A). is_eq (order (key b) k) in
            let low : A → Bool = λ (b : A). is_lt (order (key b) (key a)) in
            let high : A → Bool = λ (b : A). is_gt (order (key b) (key a)) in
            let none : find p (a ∷ filter high xs) ≡ None = cond-false (p a) (Some a) (find p (filter high xs)) not_itself ∙ find_outside p high (λ b t. ap is_gt (same_side b t ∙ e)) xs in
            find_front p (filter low xs) (a ∷ filter high xs) none ∙ find_in_filter p low (λ b t. ap is_lt (same_side b t ∙ e)) xs
        by Equal e = absurd (apart e)
        by Greater e =
            let p : A → Bool = λ (b : A). is_eq (order (key b) k) in
            let low : A → Bool = λ (b : A). is_lt (order (key b) (key a)) in
            let high : A → Bool = λ (b : A). is_gt (order (key b) (key a)) in
            find_append p (filter low xs) (a ∷ filter high xs) (find_outside p low (λ b t. ap is_lt (same_side b t ∙ e)) xs)
            ∙ (cond-false (p a) (Some a) (find p (filter high xs)) not_itself ∙ find_in_filter p high (λ b t. ap is_gt (same_side b t ∙ e)) xs)

  -- the key of the placed one finds it
  pub found_placed : (a : A) (xs : List A) → of_key order key (key a) (placed order key a xs) ≡ Some a
  found_placed a xs =
      let p : A → Bool = λ (b : A). is_eq (order (key b) (key a)) in
      let low : A → Bool = λ (b : A). is_lt (order (key b) (key a)) in
      find_append p (filter low xs) (a ∷ behind_key order key (key a) xs) (find_outside p low (λ b t. ap is_lt (from_eq (order (key b) (key a)) t)) xs)
      ∙ cond-true (p a) (Some a) (find p (behind_key order key (key a) xs)) (ap is_eq (tied_itself total (key a)))

  -- where one is taken away, its key finds none, and another key finds what it found
  pub found_without : (k : K) (xs : List A) → of_key order key k (without_key order key k xs) ≡ None
  found_without k xs = find_outside (λ (b : A). is_eq (order (key b) k)) (λ (b : A). not (is_eq (order (key b) k))) (λ b t. ap not t) xs

  pub found_apart : (k other : K) → order k other ≢ Equal → (xs : List A) → of_key order key k (without_key order key other xs) ≡ of_key order key k xs
  found_apart k other apart xs =
      find_in_filter (λ (b : A). is_eq (order (key b) k)) (λ (b : A). not (is_eq (order (key b) other)))
      (λ b t. true_from_ne_false (not (is_eq (order (key b) other))) (λ f. apart (sym (total.congr (key b) k other (from_eq (order (key b) k) t)) ∙ from_eq (order (key b) other) (not-false (is_eq (order (key b) other)) f)))) xs

  -- one key, one of them
  pub alone : (xs : List A) (a b : A) → AreAscending order key xs → Contains xs a → Contains xs b → order (key a) (key b) ≡ Equal → a ≡ b
  alone xs a b asc (i, li, ia) (j, lj, jb) same =
      let at_b : get_or xs j a ≡ b = get_or_default xs j a b lj ∙ jb in
      let at_a : get_or xs i b ≡ a = get_or_default xs i b a li ∙ ia in
      elim (cases_order i j) [
        | inl e ↦ sym ia ∙ (ap (λ (n : ℕ). get_or xs n a) e ∙ at_b)
        | inr (inl lt) ↦ absurd (let less : order (key a) (key b) ≡ Less = subst (λ (x : A). order (key x) (key b) ≡ Less) ia (subst (λ (y : A). order (key (get_or xs i a)) (key y) ≡ Less) at_b (asc i j a lt lj)) in less_equal_apart (order (key a) (key b)) less same)
        | inr (inr gt) ↦ absurd (let less : order (key b) (key a) ≡ Less = subst (λ (x : A). order (key x) (key a) ≡ Less) jb (subst (λ (y : A). order (key (get_or xs j b)) (key y) ≡ Less) at_a (asc j i b gt li)) in less_equal_apart (order (key b) (key a)) less (tied_back total (key a) (key b) same))
      ]
