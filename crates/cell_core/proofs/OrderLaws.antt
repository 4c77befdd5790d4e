-- Lists in the order of their keys.
use Rattle.std.proofs.Common.{zero, suc, ◌≡◌, ◌⊎◌, ℕ, ◌<◌, ◌≤◌, Bool, true, false, cond, not, List, [], ◌∷◌, ◌++◌, length, take, get_or, set, refl, sym, ◌∙◌, ap, subst, inl, inr, arith}
use Rattle.std.specs.Prelude.{filter, find, Some, None, All, AllPairs}
use Rattle.std.specs.declared.cmp.Ordering.{Ordering}
use Rattle.std.specs.declared.cmp.Ordering.TheVariants.{Less, Equal, Greater}
use Rattle.std.specs.Ordering.{is_lt, is_eq, is_gt, ordering_reverse, ordering_index}
use Rattle.std.specs.Cmp.{IsTotalOrder}
use Rattle.std.proofs.lemmas.Bool.{cond-true, cond-false}
use Rattle.std.specs.List.{insert}
use Rattle.std.proofs.lemmas.List.{set_split}
use Rattle.std.proofs.lemmas.Cmp.{alike_right}
use Rattle.std.proofs.lemmas.List.Elements.{All-cons, All-head, All-tail, All-append, All-weaker, All-filter, filter_passes}
use Rattle.cell_core.specs.Orders.{AreAscending, of_key, before_key, behind_key, placed, without_key}
use Rattle.cell_core.specs.Places.{FoundAt, FreeAt}

-- ---- filters

pub filter_all : {A : Type 0} (p : A → Bool) (xs : List A) → All (λ a. p a ≡ true) xs → filter p xs ≡ xs
filter_all p [] h = refl
filter_all {A = A} p (x ∷ xs) h =
    cond-true (p x) (x ∷ filter p xs) (filter p xs) (All-head (λ a. p a ≡ true) x xs h) ∙ ap (λ (l : List A). x ∷ l) (filter_all p xs (All-tail (λ a. p a ≡ true) x xs h))

pub filter_none : {A : Type 0} (p : A → Bool) (xs : List A) → All (λ a. p a ≡ false) xs → filter p xs ≡ []
filter_none p [] h = refl
filter_none p (x ∷ xs) h =
    cond-false (p x) (x ∷ filter p xs) (filter p xs) (All-head (λ a. p a ≡ false) x xs h) ∙ filter_none p xs (All-tail (λ a. p a ≡ false) x xs h)

pub find_none : {A : Type 0} (p : A → Bool) (xs : List A) → All (λ a. p a ≡ false) xs → find p xs ≡ None
find_none p [] h = refl
find_none p (x ∷ xs) h = cond-false (p x) (Some x) (find p xs) (All-head (λ a. p a ≡ false) x xs h) ∙ find_none p xs (All-tail (λ a. p a ≡ false) x xs h)

-- ---- pairs

pub pairs_head : {A : Type 0} (R : A → A → Type 0) (x : A) (xs : List A) → AllPairs R (x ∷ xs) → All (R x) xs
pairs_head R x xs h k d within = h 0 (suc k) d (omega arith) (omega arith)

pub pairs_tail : {A : Type 0} (R : A → A → Type 0) (x : A) (xs : List A) → AllPairs R (x ∷ xs) → AllPairs R xs
pairs_tail R x xs h i j d lt within = h (suc i) (suc j) d (omega arith) (omega arith)

pub pairs_cons : {A : Type 0} (R : A → A → Type 0) (x : A) (xs : List A) → All (R x) xs → AllPairs R xs → AllPairs R (x ∷ xs)
pairs_cons R x xs first rest zero zero d lt within = absurd (omega arith)
pairs_cons R x xs first rest zero (suc j) d lt within = first j d (omega arith)
pairs_cons R x xs first rest (suc i) zero d lt within = absurd (omega arith)
pairs_cons R x xs first rest (suc i) (suc j) d lt within = rest i j d (omega arith) (omega arith)

pub pairs_filter : {A : Type 0} (R : A → A → Type 0) (p : A → Bool) (xs : List A) → AllPairs R xs → AllPairs R (filter p xs)
pairs_filter R p [] h = λ i j d lt within. absurd (omega arith)
pairs_filter {A = A} R p (x ∷ xs) h =
    let rest : AllPairs R (filter p xs) = pairs_filter R p xs (pairs_tail R x xs h) in
    let first : All (R x) (filter p xs) = All-filter p (R x) xs (pairs_head R x xs h) in
    elim (p x) as (λ b. AllPairs R (cond b (x ∷ filter p xs) (filter p xs))) [ true ↦ pairs_cons R x (filter p xs) first rest | false ↦ rest ]

pub pairs_append : {A : Type 0} (R : A → A → Type 0) (xs ys : List A) → AllPairs R xs → AllPairs R ys → All (λ x. All (R x) ys) xs → AllPairs R (xs ++ ys)
pairs_append R [] ys h k across = k
pairs_append R (x ∷ xs) ys h k across =
    pairs_cons R x (xs ++ ys) (All-append (R x) xs ys (pairs_head R x xs h) (All-head (λ y. All (R y) ys) x xs across))
    (pairs_append R xs ys (pairs_tail R x xs h) k (All-tail (λ y. All (R y) ys) x xs across))

-- ---- tests of orderings

lt_true : (o : Ordering) → o ≡ Less → is_lt o ≡ true
lt_true o h = ap is_lt h

from_lt : (o : Ordering) → is_lt o ≡ true → o ≡ Less
from_lt Less h = refl
from_lt Equal h = absurd (cc)
from_lt Greater h = absurd (cc)

from_gt : (o : Ordering) → is_gt o ≡ true → o ≡ Greater
from_gt Less h = absurd (cc)
from_gt Equal h = absurd (cc)
from_gt Greater h = refl

pub from_eq : (o : Ordering) → is_eq o ≡ true → o ≡ Equal
from_eq Less h = absurd (cc)
from_eq Equal h = refl
from_eq Greater h = absurd (cc)

-- ---- ordered lists

module _ {A K : Type 0} (order : K → K → Ordering) (key : A → K) (total : IsTotalOrder order) where
  back_less : (x y : K) → order x y ≡ Less → order y x ≡ Greater
  back_less x y h = total.antisymm y x ∙ ap ordering_reverse h

  back_greater : (x y : K) → order x y ≡ Greater → order y x ≡ Less
  back_greater x y h = total.antisymm y x ∙ ap ordering_reverse h

  less_equal : (x y z : K) → order x y ≡ Less → order y z ≡ Equal → order x z ≡ Less
  less_equal x y z h e = sym (alike_right total y z x e) ∙ h

  equal_less : (x y z : K) → order x y ≡ Equal → order y z ≡ Less → order x z ≡ Less
  equal_less x y z e h = total.congr x y z e ∙ h

  -- what follows one of a key stands behind the key
  behind_it : (k : K) (x a : A) → order (key x) k ≡ Equal → order (key x) (key a) ≡ Less → order (key a) k ≡ Greater
  behind_it k x a e h = back_less k (key a) (sym (total.congr (key x) k (key a) e) ∙ h)

  pub found_at : (k : K) (xs : List A) (i : ℕ) → AreAscending order key xs → i < length xs → ((d : A) → order (key (get_or xs i d)) k ≡ Equal) → FoundAt order key k xs i
  found_at k [] i asc lt h = absurd (omega arith)
  found_at k (x ∷ xs) zero asc lt h =
      let e : order (key x) k ≡ Equal = h x in
      let later : All (λ (a : A). order (key a) k ≡ Greater) xs = All-weaker (λ (a : A). order (key x) (key a) ≡ Less) (λ (a : A). order (key a) k ≡ Greater) (λ a. behind_it k x a e) xs (pairs_head (λ (a b : A). order (key a) (key b) ≡ Less) x xs asc) in
      record {
        within = lt;
        before = cond-false (is_lt (order (key x) k)) (x ∷ before_key order key k xs) (before_key order key k xs) (ap is_lt e)
            ∙ filter_none (λ (a : A). is_lt (order (key a) k)) xs (All-weaker (λ (a : A). order (key a) k ≡ Greater) (λ (a : A). is_lt (order (key a) k) ≡ false) (λ a g. ap is_lt g) xs later);
        behind = cond-false (is_gt (order (key x) k)) (x ∷ behind_key order key k xs) (behind_key order key k xs) (ap is_gt e)
            ∙ filter_all (λ (a : A). is_gt (order (key a) k)) xs (All-weaker (λ (a : A). order (key a) k ≡ Greater) (λ (a : A). is_gt (order (key a) k) ≡ true) (λ a g. ap is_gt g) xs later);
        others = cond-false (not (is_eq (order (key x) k))) (x ∷ without_key order key k xs) (without_key order key k xs) (ap (λ (o : Ordering). not (is_eq o)) e)
            ∙ filter_all (λ (a : A). not (is_eq (order (key a) k))) xs (All-weaker (λ (a : A). order (key a) k ≡ Greater) (λ (a : A). not (is_eq (order (key a) k)) ≡ true) (λ a g. ap (λ (o : Ordering). not (is_eq o)) g) xs later);
        key_is = h;
        there = λ d. cond-true (is_eq (order (key x) k)) (Some x) (of_key order key k xs) (ap is_eq e);
      }
  found_at k (x ∷ xs) (suc i) asc lt h =
      let lt' : i < length xs = omega arith in
      let rest = found_at k xs i (pairs_tail (λ (a b : A). order (key a) (key b) ≡ Less) x xs asc) lt' (λ d. h d) in
      let e : order (key x) k ≡ Less = less_equal (key x) (key (get_or xs i x)) k (pairs_head (λ (a b : A). order (key a) (key b) ≡ Less) x xs asc i x lt') (h x) in
      record {
        within = lt;
        before = cond-true (is_lt (order (key x) k)) (x ∷ before_key order key k xs) (before_key order key k xs) (ap is_lt e) ∙ ap (λ (l : List A). x ∷ l) rest.before;
        behind = cond-false (is_gt (order (key x) k)) (x ∷ behind_key order key k xs) (behind_key order key k xs) (ap is_gt e) ∙ rest.behind;
        others = cond-true (not (is_eq (order (key x) k))) (x ∷ without_key order key k xs) (without_key order key k xs) (ap (λ (o : Ordering). not (is_eq o)) e) ∙ ap (λ (l : List A). x ∷ l) rest.others;
        key_is = h;
        there = λ d. cond-false (is_eq (order (key x) k)) (Some x) (of_key order key k xs) (ap is_eq e) ∙ rest.there d;
      }

  pub free_at : (k : K) (xs : List A) (i : ℕ) → i ≤ length xs → ((n : ℕ) (d : A) → n < i → order (key (get_or xs n d)) k ≡ Less) → ((n : ℕ) (d : A) → i ≤ n → n < length xs → order (key (get_or xs n d)) k ≡ Greater) → FreeAt order key k xs i
  free_at k [] zero le low high = record { within = le; before = refl; behind = refl; others = refl; none = refl }
  free_at k [] (suc i) le low high = absurd (omega arith)
  free_at k (x ∷ xs) zero le low high =
      let all : All (λ (a : A). order (key a) k ≡ Greater) (x ∷ xs) = λ n d lt. high n d (omega arith) lt in
      record {
        within = le;
        before = filter_none (λ (a : A). is_lt (order (key a) k)) (x ∷ xs) (All-weaker (λ (a : A). order (key a) k ≡ Greater) (λ (a : A). is_lt (order (key a) k) ≡ false) (λ a g. ap is_lt g) (x ∷ xs) all);
        behind = filter_all (λ (a : A). is_gt (order (key a) k)) (x ∷ xs) (All-weaker (λ (a : A). order (key a) k ≡ Greater) (λ (a : A). is_gt (order (key a) k) ≡ true) (λ a g. ap is_gt g) (x ∷ xs) all);
        others = filter_all (λ (a : A). not (is_eq (order (key a) k))) (x ∷ xs) (All-weaker (λ (a : A). order (key a) k ≡ Greater) (λ (a : A). not (is_eq (order (key a) k)) ≡ true) (λ a g. ap (λ (o : Ordering). not (is_eq o)) g) (x ∷ xs) all);
        none = find_none (λ (a : A). is_eq (order (key a) k)) (x ∷ xs) (All-weaker (λ (a : A). order (key a) k ≡ Greater) (λ (a : A). is_eq (order (key a) k) ≡ false) (λ a g. ap is_eq g) (x ∷ xs) all);
      }
  free_at k (x ∷ xs) (suc i) le low high =
      let e : order (key x) k ≡ Less = low 0 x (omega arith) in
      let rest = free_at k xs i (omega arith) (λ n d lt. low (suc n) d (omega arith)) (λ n d from lt. high (suc n) d (omega arith) (omega arith)) in
      record {
        within = le;
        before = cond-true (is_lt (order (key x) k)) (x ∷ before_key order key k xs) (before_key order key k xs) (ap is_lt e) ∙ ap (λ (l : List A). x ∷ l) rest.before;
        behind = cond-false (is_gt (order (key x) k)) (x ∷ behind_key order key k xs) (behind_key order key k xs) (ap is_gt e) ∙ rest.behind;
        others = cond-true (not (is_eq (order (key x) k))) (x ∷ without_key order key k xs) (without_key order key k xs) (ap (λ (o : Ordering). not (is_eq o)) e) ∙ ap (λ (l : List A). x ∷ l) rest.others;
        none = cond-false (is_eq (order (key x) k)) (Some x) (of_key order key k xs) (ap is_eq e) ∙ rest.none;
      }

  -- what a search in halves asks of the answers at each place
  pub answers_rise : (k : K) (xs : List A) → AreAscending order key xs → (i j : ℕ) (d : A) → i ≤ j → j < length xs → ordering_index (order (key (get_or xs i d)) k) ≤ ordering_index (order (key (get_or xs j d)) k)
  answers_rise k xs asc i j d le lt =
      elim (either i j le) [
        | inl same ↦ subst (λ (n : ℕ). ordering_index (order (key (get_or xs n d)) k) ≤ ordering_index (order (key (get_or xs j d)) k)) (sym same) (omega arith)
        | inr less ↦ by (order (key (get_or xs j d)) k) refl (asc i j d less lt)
      ]
    where
      either : (m n : ℕ) → m ≤ n → (m ≡ n) ⊎ (m < n)
      either m n h = grind arith

      at_most_two : (o : Ordering) → ordering_index o ≤ 2
      at_most_two Less = omega arith
      at_most_two Equal = omega arith
      at_most_two Greater = omega arith

      by : (o : Ordering) → order (key (get_or xs j d)) k ≡ o → order (key (get_or xs i d)) (key (get_or xs j d)) ≡ Less → ordering_index (order (key (get_or xs i d)) k) ≤ ordering_index o
      by Less e h = rw (total.trans (key (get_or xs i d)) (key (get_or xs j d)) k h e) (omega arith)
      by Equal e h = rw (less_equal (key (get_or xs i d)) (key (get_or xs j d)) k h e) (omega arith)
      by Greater e h = at_most_two (order (key (get_or xs i d)) k)

  -- ---- one more in its place

  before_passes : (k : K) (xs : List A) → All (λ (a : A). order (key a) k ≡ Less) (before_key order key k xs)
  before_passes k xs = All-weaker (λ (a : A). is_lt (order (key a) k) ≡ true) (λ (a : A). order (key a) k ≡ Less) (λ a h. from_lt (order (key a) k) h) (before_key order key k xs) (filter_passes (λ (a : A). is_lt (order (key a) k)) xs)

  behind_passes : (k : K) (xs : List A) → All (λ (a : A). order k (key a) ≡ Less) (behind_key order key k xs)
  behind_passes k xs = All-weaker (λ (a : A). is_gt (order (key a) k) ≡ true) (λ (a : A). order k (key a) ≡ Less) (λ a h. back_greater (key a) k (from_gt (order (key a) k) h)) (behind_key order key k xs) (filter_passes (λ (a : A). is_gt (order (key a) k)) xs)

  pub placed_ascending : (a : A) (xs : List A) → AreAscending order key xs → AreAscending order key (placed order key a xs)
  placed_ascending a xs asc =
      let R : A → A → Type 0 = λ (x y : A). order (key x) (key y) ≡ Less in
      pairs_append R (before_key order key (key a) xs) (a ∷ behind_key order key (key a) xs) (pairs_filter R (λ (b : A). is_lt (order (key b) (key a))) xs asc)
      (pairs_cons R a (behind_key order key (key a) xs) (behind_passes (key a) xs) (pairs_filter R (λ (b : A). is_gt (order (key b) (key a))) xs asc))
      (All-weaker (λ (x : A). order (key x) (key a) ≡ Less) (λ (x : A). All (R x) (a ∷ behind_key order key (key a) xs))
      (λ x h. All-cons (R x) a (behind_key order key (key a) xs) h (All-weaker (λ (y : A). order (key a) (key y) ≡ Less) (R x) (λ y g. total.trans (key x) (key a) (key y) h g) (behind_key order key (key a) xs) (behind_passes (key a) xs)))
      (before_key order key (key a) xs) (before_passes (key a) xs))

  pub without_ascending : (k : K) (xs : List A) → AreAscending order key xs → AreAscending order key (without_key order key k xs)
  without_ascending k xs asc = pairs_filter (λ (x y : A). order (key x) (key y) ≡ Less) (λ (b : A). not (is_eq (order (key b) k))) xs asc

  pub placed_all : (P : A → Type 0) (a : A) (xs : List A) → P a → All P xs → All P (placed order key a xs)
  placed_all P a xs here all =
      All-append P (before_key order key (key a) xs) (a ∷ behind_key order key (key a) xs) (All-filter (λ (b : A). is_lt (order (key b) (key a))) P xs all)
      (All-cons P a (behind_key order key (key a) xs) here (All-filter (λ (b : A). is_gt (order (key b) (key a))) P xs all))

  pub without_all : (P : A → Type 0) (k : K) (xs : List A) → All P xs → All P (without_key order key k xs)
  without_all P k xs all = All-filter (λ (b : A). not (is_eq (order (key b) k))) P xs all

-- ---- at a place that was found

module _ {A K : Type 0} (order : K → K → Ordering) (key : A → K) where
  pub placed_found : (k : K) (xs : List A) (i : ℕ) (a : A) → FoundAt order key k xs i → key a ≡ k → placed order key a xs ≡ set xs i a
  placed_found k xs i a found same =
      ap (λ (l : K). before_key order key l xs ++ a ∷ behind_key order key l xs) same
      ∙ (ap (λ (l : List A). l ++ a ∷ behind_key order key k xs) found.before ∙ (ap (λ (l : List A). take i xs ++ a ∷ l) found.behind ∙ sym (set_split xs i a found.within)))

  pub placed_free : (k : K) (xs : List A) (i : ℕ) (a : A) → FreeAt order key k xs i → key a ≡ k → placed order key a xs ≡ insert xs i a
  placed_free k xs i a free same =
      ap (λ (l : K). before_key order key l xs ++ a ∷ behind_key order key l xs) same
      ∙ (ap (λ (l : List A). l ++ a ∷ behind_key order key k xs) free.before ∙ ap (λ (l : List A). take i xs ++ a ∷ l) free.behind)
