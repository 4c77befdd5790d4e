-- Laws of chains of places.
use Rattle.std.proofs.Common.{◌≡◌, inl, inr, ℕ, List, [], ◌∷◌, ◌++◌, Bool, true, false, not, eqb, Option, Some, None, refl, sym, ◌∙◌, ap, subst}
use Rattle.std.proofs.lemmas.Bool.{eq-eqb, ne_eqb, not_from_true, not_from_false, cond-true, cond-false}
use Rattle.std.specs.List.{filter}
use Rattle.budb_links.specs.Stands.{Stand, first_place, last_place, Apart, Among, Distinct, without_place}

pub first_append : (xs ys : List Stand) (beyond : Option ℕ) → first_place (xs ++ ys) beyond ≡ first_place xs (first_place ys beyond)
first_append [] ys beyond = refl
first_append (x ∷ xs) ys beyond = refl

pub last_append : (before : Option ℕ) (xs ys : List Stand) → last_place before (xs ++ ys) ≡ last_place (last_place before xs) ys
last_append before [] ys = refl
last_append before (x ∷ xs) ys = last_append (Some x.place) xs ys

-- a chain with a member has a last place
pub last_is_some : (x : Stand) (xs : List Stand) → (place : ℕ) × (last_place (Some x.place) xs ≡ Some place)
last_is_some x [] = (x.place, refl)
last_is_some x (y ∷ ys) = last_is_some y ys

-- ---- members

pub apart_append : (place : ℕ) (xs ys : List Stand) → Apart place xs → Apart place ys → Apart place (xs ++ ys)
apart_append place [] ys a b = b
apart_append place (x ∷ xs) ys a b = (a.0, apart_append place xs ys a.1 b)

pub apart_front : (place : ℕ) (xs ys : List Stand) → Apart place (xs ++ ys) → Apart place xs
apart_front place [] ys a = tt
apart_front place (x ∷ xs) ys a = (a.0, apart_front place xs ys a.1)

pub apart_back : (place : ℕ) (xs ys : List Stand) → Apart place (xs ++ ys) → Apart place ys
apart_back place [] ys a = a
apart_back place (x ∷ xs) ys a = apart_back place xs ys a.1

-- a chain and two of its parts, around a member
pub record Around (place : ℕ) (ss : List Stand) : Type 0 where
  pub front : List Stand
  pub member : Stand
  pub back : List Stand
  pub whole : ss ≡ front ++ member ∷ back
  pub stands : member.place ≡ place

pub around : (place : ℕ) (ss : List Stand) → Among place ss → Around place ss
around place [] h = absurd h
around place (s ∷ ss) (inl e) = record { front = []; member = s; back = ss; whole = refl; stands = e }
around place (s ∷ ss) (inr h) =
    let r = around place ss h in
    record { front = s ∷ r.front; member = r.member; back = r.back; whole = ap (λ (t : List Stand). s ∷ t) r.whole; stands = r.stands }

-- what is distinct around a member
pub record Split (xs : List Stand) (s : Stand) (ys : List Stand) : Type 0 where
  pub front : Distinct xs
  pub back : Distinct ys
  pub member_front : Apart s.place xs
  pub member_back : Apart s.place ys
  pub joined : Distinct (xs ++ ys)
  pub first : (place : ℕ) → first_place ys None ≡ Some place → Apart place xs
  pub last : (place : ℕ) → last_place None xs ≡ Some place → Apart place ys

pub distinct_front : (xs ys : List Stand) → Distinct (xs ++ ys) → Distinct xs
distinct_front [] ys d = tt
distinct_front (x ∷ xs) ys d = (apart_front x.place xs ys d.0, distinct_front xs ys d.1)

pub distinct_back : (xs ys : List Stand) → Distinct (xs ++ ys) → Distinct ys
distinct_back [] ys d = d
distinct_back (x ∷ xs) ys d = distinct_back xs ys d.1

-- a member behind is apart from those in front
pub front_apart : (xs : List Stand) (s : Stand) (ys : List Stand) → Distinct (xs ++ s ∷ ys) → Apart s.place xs
front_apart [] s ys d = tt
front_apart (x ∷ xs) s ys d =
    let behind = apart_back x.place xs (s ∷ ys) d.0 in
    ((λ e. behind.0 (sym e)), front_apart xs s ys d.1)

pub distinct_without : (xs : List Stand) (s : Stand) (ys : List Stand) → Distinct (xs ++ s ∷ ys) → Distinct (xs ++ ys)
distinct_without [] s ys d = d.1
distinct_without (x ∷ xs) s ys d =
    let behind = apart_back x.place xs (s ∷ ys) d.0 in
    (apart_append x.place xs ys (apart_front x.place xs (s ∷ ys) d.0) behind.1, distinct_without xs s ys d.1)

pub distinct_push : (ss : List Stand) (s : Stand) → Distinct ss → Apart s.place ss → Distinct (ss ++ s ∷ [])
distinct_push [] s d a = (tt, tt)
distinct_push (x ∷ xs) s d a =
    (apart_append x.place xs (s ∷ []) d.0 ((λ e. a.0 (sym e)), tt), distinct_push xs s d.1 a.1)

first_apart : (xs : List Stand) (s : Stand) (ys : List Stand) → Distinct (xs ++ s ∷ ys) → (place : ℕ) → first_place ys None ≡ Some place → Apart place xs
first_apart xs s [] d place e = cc
first_apart xs s (y ∷ ys) d place e =
    let same : y.place ≡ place = cc in
    subst (λ (p : ℕ). Apart p xs) same (front_apart xs y ys (distinct_without xs s (y ∷ ys) d))

-- the last one of a front is apart from what is behind
last_apart : (before : Option ℕ) (xs ys : List Stand) → Distinct (xs ++ ys) → ((place : ℕ) → before ≡ Some place → Apart place ys) → (place : ℕ) → last_place before xs ≡ Some place → Apart place ys
last_apart before [] ys d h place e = h place e
last_apart before (x ∷ xs) ys d h place e =
    last_apart (Some x.place) xs ys d.1 (λ p q. let same : x.place ≡ p = cc in subst (λ (p : ℕ). Apart p ys) same (apart_back x.place xs ys d.0)) place e

pub split : (xs : List Stand) (s : Stand) (ys : List Stand) → Distinct (xs ++ s ∷ ys) → Split xs s ys
split xs s ys d =
    let back = distinct_back xs (s ∷ ys) d in
    let joined = distinct_without xs s ys d in
    record {
      front = distinct_front xs (s ∷ ys) d;
      back = back.1;
      member_front = front_apart xs s ys d;
      member_back = back.0;
      joined = joined;
      first = first_apart xs s ys d;
      last = last_apart None xs ys joined (λ p e. cc);
    }

-- ---- without a place

pub filter_keeps : {X : Type 0} (p : X → Bool) (x : X) (xs : List X) → p x ≡ true → filter p (x ∷ xs) ≡ x ∷ filter p xs
filter_keeps p x xs h = cond-true (p x) (x ∷ filter p xs) (filter p xs) h

pub filter_drops : {X : Type 0} (p : X → Bool) (x : X) (xs : List X) → p x ≡ false → filter p (x ∷ xs) ≡ filter p xs
filter_drops p x xs h = cond-false (p x) (x ∷ filter p xs) (filter p xs) h

module _ (place : ℕ) where
  pub without_apart : (ss : List Stand) → Apart place ss → without_place place ss ≡ ss
  without_apart [] a = refl
  without_apart (s ∷ ss) a =
      filter_keeps (λ (s : Stand). not (eqb s.place place)) s ss (not_from_false (eqb s.place place) (ne_eqb s.place place a.0)) ∙ ap (λ (t : List Stand). s ∷ t) (without_apart ss a.1)

  pub without_split : (xs : List Stand) (s : Stand) (ys : List Stand) → s.place ≡ place → Apart place xs → Apart place ys → without_place place (xs ++ s ∷ ys) ≡ xs ++ ys
  without_split [] s ys e a b =
      filter_drops (λ (s : Stand). not (eqb s.place place)) s ys (not_from_true (eqb s.place place) (eq-eqb s.place place e)) ∙ without_apart ys b
  without_split (x ∷ xs) s ys e a b =
      filter_keeps (λ (s : Stand). not (eqb s.place place)) x (xs ++ s ∷ ys) (not_from_false (eqb x.place place) (ne_eqb x.place place a.0)) ∙ ap (λ (t : List Stand). x ∷ t) (without_split xs s ys e a.1 b)
