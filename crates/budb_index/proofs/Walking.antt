-- A walk along a chain.
use Rattle.std.proofs.Common.{◌≡◌, ◌≢◌, ◌⊎◌, inl, inr, ℕ, zero, suc, ◌+◌, ◌*◌, ◌≤◌, List, [], ◌∷◌, length, map, Bool, Option, Some, None, refl, sym, ◌∙◌, ap, subst, arith, add-one, ⊎_elim}
use Rattle.std.specs.Prelude.{slice_get}
use Rattle.std.specs.List.{filter, AllByRecursion}
use Rattle.std.proofs.lemmas.Bool.{eq-eqb, ne_eqb, cond-true, cond-false}
use Rattle.budb_links.specs.Keyed.{Differ}
use Rattle.budb_links.proofs.Lists.{differ_filter}
use Rattle.budb_index.specs.Walks.{left_from, IsNext}
use Rattle.budb_index.proofs.Members.{Among, among_filter}

-- nothing stands at an index, or another number than one that all differ from
number_at : (ns : List ℕ) (k own : ℕ) → AllByRecursion (λ n. n ≢ own) ns → (slice_get ns k ≡ None) ⊎ ((p : ℕ) × (slice_get ns k ≡ Some p) × (p ≢ own))
number_at [] k own a = inl refl
number_at (n ∷ ns) zero own a = inr (n, refl, a.0)
number_at (n ∷ ns) (suc k) own a = number_at ns k own a.1

-- what was read is the first of what was left
pub record Turned {Y : Type 0} (got : Option Y) (before behind : List Y) : Type 0 where
  pub one : Y
  pub read : got ≡ Some one
  pub left : before ≡ one ∷ behind

pub is_next : {Y : Type 0} (got : Option Y) (before behind : List Y) → Turned got before behind → IsNext got before behind
is_next got before behind t = subst (λ (o : Option _). IsNext o before behind) (sym t.read) t.left

pub is_paid : {Y : Type 0} (got : Option Y) (before behind : List Y) (old new : ℕ) → Turned got before behind → new ≤ old + 2 → new + 2 * length behind ≤ old + 2 * length before
is_paid got before behind old new t cost = let long = ap length t.left in omega (arith, long, cost)

module _ {X : Type 0} (place : X → ℕ) where
  abbrev places : List X → List ℕ
  places = map place

  pub begins : (xs : List X) → left_from place (slice_get (places xs) 0) xs ≡ xs
  begins [] = refl
  begins (x ∷ xs) = cond-true _ (x ∷ xs) (left_from place (Some (place x)) xs) (eq-eqb (place x) (place x) refl)

  -- the first of a chain isn't left where a place behind it is given
  passed : (x : X) (xs : List X) (k : ℕ) → AllByRecursion (λ n. n ≢ place x) (places xs) → left_from place (slice_get (places xs) k) (x ∷ xs) ≡ left_from place (slice_get (places xs) k) xs
  passed x xs k a =
      ⊎_elim
      (λ (h : slice_get (places xs) k ≡ None). ap (λ (o : Option ℕ). left_from place o (x ∷ xs)) h ∙ sym (ap (λ (o : Option ℕ). left_from place o xs) h))
      (λ (h : (p : ℕ) × (slice_get (places xs) k ≡ Some p) × (p ≢ place x)).
      ap (λ (o : Option ℕ). left_from place o (x ∷ xs)) h.1
      ∙ cond-false _ (x ∷ xs) (left_from place (Some h.0) xs) (ne_eqb (place x) h.0 (λ same. h.2 (sym same)))
      ∙ sym (ap (λ (o : Option ℕ). left_from place o xs) h.1))
      (number_at (places xs) k (place x) a)

  -- one member further
  pub record Turn (chain : List X) (at next : Option ℕ) (p : ℕ) : Type 0 where
    pub one : X
    pub left : left_from place at chain ≡ one ∷ left_from place next chain
    pub among : Among one chain
    pub stands : place one ≡ p

  turn_suc : (chain : List X) (k p : ℕ) → Differ (places chain) → slice_get (places chain) k ≡ Some p → Turn chain (slice_get (places chain) k) (slice_get (places chain) (suc k)) p
  turn_suc [] k p d at = absurd (let no : ⊥ = cc in no)
  turn_suc (x ∷ xs) zero p d at =
      let same : place x ≡ p = cc in
      record {
        one = x;
        left = begins (x ∷ xs) ∙ ap (λ (l : List X). x ∷ l) (sym (passed x xs 0 d.0 ∙ begins xs));
        among = inl refl;
        stands = same;
      }
  turn_suc (x ∷ xs) (suc k) p d at =
      let t = turn_suc xs k p d.1 at in
      record {
        one = t.one;
        left = passed x xs k d.0 ∙ t.left ∙ ap (λ (l : List X). t.one ∷ l) (sym (passed x xs (suc k) d.0));
        among = inr t.among;
        stands = t.stands;
      }

  pub turn : (chain : List X) (at next : Option ℕ) (k p : ℕ) → Differ (places chain) → at ≡ slice_get (places chain) k → at ≡ Some p → next ≡ slice_get (places chain) (k + 1) → Turn chain at next p
  turn chain at next k p d stands is behind =
      let further = behind ∙ ap (slice_get (places chain)) (add-one k) in
      subst (λ (n : Option ℕ). Turn chain at n p) (sym further) (subst (λ (a : Option ℕ). Turn chain a (slice_get (places chain) (suc k)) p) (sym stands) (turn_suc chain k p d (sym stands ∙ is)))

  -- the same in what a test leaves of a list, with what is read of the member
  pub turned : {Y : Type 0} (read : X → Y) (look : ℕ → Option Y) (t : X → Bool) (all : List X) (at next : Option ℕ) (k p : ℕ)
      → Differ (places all) → ((x : X) → Among x all → look (place x) ≡ Some (read x))
      → at ≡ slice_get (places (filter t all)) k → at ≡ Some p → next ≡ slice_get (places (filter t all)) (k + 1)
      → Turned (look p) (map read (left_from place at (filter t all))) (map read (left_from place next (filter t all)))
  turned read look t all at next k p d looks stands is behind =
      let s = turn (filter t all) at next k p (differ_filter place t all d) stands is behind in
      record { one = read s.one; read = ap look (sym s.stands) ∙ looks s.one (among_filter t all s.one s.among).0; left = ap (map read) s.left }
