-- Keys in ascending order, searched in halves.
use Rattle.std.proofs.Common.{◌≡◌, ◌≢◌, ℕ, zero, suc, ◌<◌, ◌≤◌, true, false, cond, List, [], ◌∷◌, length, get_or, Option, Some, None, refl, sym, ◌∙◌, ap, subst, arith, ⊎_elim}
use Rattle.std.specs.Prelude.{Result, Ok, Err, MatchResult, Decides, ◌==◌}
use Rattle.std.specs.List.{AllByRecursion, insert, remove}
use Rattle.std.specs.List.Sorted.{IsBinarySearchResult, IsSearchInRange}
use Rattle.std.specs.Ordering.{ordering_index, ordering_reverse}
use Rattle.std.specs.declared.cmp.Ordering.{Ordering}
use Rattle.std.specs.declared.cmp.Ordering.TheVariants.{Less, Equal, Greater}
use Rattle.std.specs.Cmp.Lexicographic.{nat_list_cmp_total}
use Rattle.std.specs.FinMap.{slice_cmp-IsAntisymmetric, nat_cmp-IsAntisymmetric}
use Rattle.std.specs.Fn.{Called, ComputesKey}
use Rattle.std.proofs.lemmas.Fn.{always_returns_same}
use Rattle.std.proofs.lemmas.Bool.{cases_Bool, eqb-true, eq-eqb, cond-true, cond-false}
use Rattle.std.proofs.lemmas.Slice.Eq.{slice_eq-Decides}
use Rattle.std.proofs.lemmas.List.Elements.{All-from_recursion, All-get_or}
use denote.Ref.{Bor}
use denote.Param.Members.{Mut}
use Rattle.bk_text.specs.Blanks.{is_same_text}
use Rattle.budb_links.specs.Keys.{Numbered, numbered, number_of, key_order, Ascending, IsKeyAt, IsNewAt}

-- ---- the same key

same_numbers : (a b : ℕ) → Decides (a == b) (a ≡ b)
same_numbers a b = (eqb-true a b, eq-eqb a b)

pub same_text : (a b : List ℕ) → is_same_text a b ≡ true → a ≡ b
same_text a b is = (slice_eq-Decides same_numbers a b (is_same_text a b) refl).0 is

pub text_same : (a b : List ℕ) → a ≡ b → is_same_text a b ≡ true
text_same a b same = (slice_eq-Decides same_numbers a b (is_same_text a b) refl).1 same

pub text_differs : (a b : List ℕ) → a ≢ b → is_same_text a b ≡ false
text_differs a b ne =
    ⊎_elim
    (λ (t : is_same_text a b ≡ true). absurd (ne (same_text a b t)))
    (λ (f : is_same_text a b ≡ false). f)
    (cases_Bool (is_same_text a b))

-- ---- the order of keys

equal_is : (a b : List ℕ) → key_order a b ≡ Equal → a ≡ b
equal_is a b e = slice_cmp-IsAntisymmetric nat_cmp-IsAntisymmetric a b e

not_less : (a : List ℕ) → key_order a a ≡ Less → ⊥
not_less a h =
    let back = nat_list_cmp_total.antisymm a a in
    let turned : key_order a a ≡ Greater = back ∙ ap ordering_reverse h in
    let both : Less ≡ Greater = sym h ∙ turned in
    cc

pub less_differs : (a b : List ℕ) → key_order a b ≡ Less → a ≢ b
less_differs a b h same = not_less b (subst (λ (k : List ℕ). key_order k b ≡ Less) same h)

-- a key that is before all has no number
before_all : (key : List ℕ) (us : List Numbered) → AllByRecursion (λ v. key_order key v.key ≡ Less) us → number_of key us ≡ None
before_all key [] a = refl
before_all key (u ∷ us) a =
    cond-false (is_same_text u.key key) (Some u.number) (number_of key us) (text_differs u.key key (λ e. less_differs key u.key a.0 (sym e))) ∙ before_all key us a.1

abbrev Behind : List ℕ → List Numbered → Type 0
Behind key = AllByRecursion (λ v. key_order key v.key ≡ Less)

behind_at : (key : List ℕ) (us : List Numbered) (i : ℕ) (d : Numbered) → Behind key us → i < length us → key_order key (get_or us i d).key ≡ Less
behind_at key us i d a lt =
    let P : Numbered → Type 0 = λ v. key_order key v.key ≡ Less in
    All-get_or P us i d lt (All-from_recursion P us a)

all_removed : (P : Numbered → Type 0) (us : List Numbered) (i : ℕ) → i < length us → AllByRecursion P us → AllByRecursion P (remove us i)
all_removed P [] i lt a = absurd (omega arith)
all_removed P (u ∷ us) zero lt a = a.1
all_removed P (u ∷ us) (suc i) lt a = (a.0, all_removed P us i (omega arith) a.1)

all_inserted : (P : Numbered → Type 0) (us : List Numbered) (i : ℕ) (v : Numbered) → i ≤ length us → P v → AllByRecursion P us → AllByRecursion P (insert us i v)
all_inserted P us zero v le h a = (h, a)
all_inserted P [] (suc i) v le h a = absurd (omega arith)
all_inserted P (u ∷ us) (suc i) v le h a = (a.0, all_inserted P us i v (omega arith) h a.1)

-- taking back what a key without a number has changes nothing
pub none_left : (key : List ℕ) (us : List Numbered) (other : List ℕ) → number_of key us ≡ None → number_of other us ≡ cond (is_same_text key other) None (number_of other us)
none_left key us other none =
    ⊎_elim
    (λ (t : is_same_text key other ≡ true). subst (λ (k : List ℕ). number_of k us ≡ None) (same_text key other t) none ∙ sym (cond-true (is_same_text key other) None (number_of other us) t))
    (λ (n : is_same_text key other ≡ false). sym (cond-false (is_same_text key other) None (number_of other us) n))
    (cases_Bool (is_same_text key other))

-- ---- a key that was found

module _ (key : List ℕ) where
  abbrev Found : List Numbered → ℕ → Type 0
  Found us i = (d : Numbered) → (get_or us i d).key ≡ key

  first_differs : (u : Numbered) (us : List Numbered) (i : ℕ) → Ascending (u ∷ us) → i < length us → Found us i → key_order u.key key ≡ Less
  first_differs u us i asc lt f = subst (λ (k : List ℕ). key_order u.key k ≡ Less) (f u) (behind_at u.key us i u asc.0 lt)

  found_number : (us : List Numbered) (i : ℕ) (d : Numbered) → Ascending us → i < length us → Found us i → number_of key us ≡ Some (get_or us i d).number
  found_number [] i d asc lt f = absurd (omega arith)
  found_number (u ∷ us) zero d asc lt f =
      cond-true (is_same_text u.key key) (Some u.number) (number_of key us) (text_same u.key key (f u))
  found_number (u ∷ us) (suc i) d asc lt f =
      let less = first_differs u us i asc (omega arith) f in
      cond-false (is_same_text u.key key) (Some u.number) (number_of key us) (text_differs u.key key (less_differs u.key key less)) ∙ found_number us i d asc.1 (omega arith) f

  removed_number : (us : List Numbered) (i : ℕ) (other : List ℕ) → Ascending us → i < length us → Found us i → number_of other (remove us i) ≡ cond (is_same_text key other) None (number_of other us)
  removed_number [] i other asc lt f = absurd (omega arith)
  removed_number (u ∷ us) zero other asc lt f =
      let whole : Option ℕ = cond (is_same_text u.key other) (Some u.number) (number_of other us) in
      ⊎_elim
      (λ (t : is_same_text key other ≡ true).
      let same : u.key ≡ other = f u ∙ same_text key other t in
      before_all other us (subst (λ (k : List ℕ). Behind k us) same asc.0) ∙ sym (cond-true (is_same_text key other) None whole t))
      (λ (n : is_same_text key other ≡ false).
      let differs : is_same_text u.key other ≡ false = ap (λ (k : List ℕ). is_same_text k other) (f u) ∙ n in
      sym (cond-false (is_same_text u.key other) (Some u.number) (number_of other us) differs) ∙ sym (cond-false (is_same_text key other) None whole n))
      (cases_Bool (is_same_text key other))
  removed_number (u ∷ us) (suc i) other asc lt f =
      let whole : Option ℕ = cond (is_same_text u.key other) (Some u.number) (number_of other us) in
      let rest = removed_number us i other asc.1 (omega arith) f in
      let less = first_differs u us i asc (omega arith) f in
      ⊎_elim
      (λ (t : is_same_text key other ≡ true).
      let differs = text_differs u.key other (less_differs u.key other (subst (λ (k : List ℕ). key_order u.key k ≡ Less) (same_text key other t) less)) in
      cond-false (is_same_text u.key other) (Some u.number) (number_of other (remove us i)) differs
      ∙ rest
      ∙ cond-true (is_same_text key other) None (number_of other us) t
      ∙ sym (cond-true (is_same_text key other) None whole t))
      (λ (n : is_same_text key other ≡ false).
      ap (λ (o : Option ℕ). cond (is_same_text u.key other) (Some u.number) o) (rest ∙ cond-false (is_same_text key other) None (number_of other us) n)
      ∙ sym (cond-false (is_same_text key other) None whole n))
      (cases_Bool (is_same_text key other))

  removed_ascending : (us : List Numbered) (i : ℕ) → i < length us → Ascending us → Ascending (remove us i)
  removed_ascending [] i lt asc = absurd (omega arith)
  removed_ascending (u ∷ us) zero lt asc = asc.1
  removed_ascending (u ∷ us) (suc i) lt asc =
      (all_removed (λ v. key_order u.key v.key ≡ Less) us i (omega arith) asc.0, removed_ascending us i (omega arith) asc.1)

  found_at : (us : List Numbered) (i : ℕ) → Ascending us → i < length us → Found us i → IsKeyAt key us i
  found_at us i asc lt f = record {
    within = lt;
    there = λ d. found_number us i d asc lt f;
    without = λ other. removed_number us i other asc lt f;
    ascending = removed_ascending us i lt asc;
  }

  -- ---- a key that is new

  abbrev Low : List Numbered → ℕ → Type 0
  Low us i = (n : ℕ) (d : Numbered) → n < i → key_order (get_or us n d).key key ≡ Less

  abbrev High : List Numbered → ℕ → Type 0
  High us i = (n : ℕ) (d : Numbered) → i ≤ n → n < length us → key_order (get_or us n d).key key ≡ Greater

  greater_back : (k : List ℕ) → key_order k key ≡ Greater → key_order key k ≡ Less
  greater_back k h = nat_list_cmp_total.antisymm key k ∙ ap ordering_reverse h

  all_high : (us : List Numbered) → High us 0 → Behind key us
  all_high [] high = tt
  all_high (u ∷ us) high =
      (greater_back u.key (high 0 u (omega arith) (omega arith)), all_high us (λ n d from lt. high (suc n) d (omega arith) (omega arith)))

  new_absent : (us : List Numbered) (i : ℕ) → i ≤ length us → Low us i → High us i → number_of key us ≡ None
  new_absent us zero le low high = before_all key us (all_high us high)
  new_absent [] (suc i) le low high = refl
  new_absent (u ∷ us) (suc i) le low high =
      cond-false (is_same_text u.key key) (Some u.number) (number_of key us) (text_differs u.key key (less_differs u.key key (low 0 u (omega arith))))
      ∙ new_absent us i (omega arith) (λ n d lt. low (suc n) d (omega arith)) (λ n d from lt. high (suc n) d (omega arith) (omega arith))

  new_number : (us : List Numbered) (i number : ℕ) (other : List ℕ) → i ≤ length us → Low us i → number_of other (insert us i (numbered key number)) ≡ cond (is_same_text key other) (Some number) (number_of other us)
  new_number us zero number other le low = refl
  new_number [] (suc i) number other le low = absurd (omega arith)
  new_number (u ∷ us) (suc i) number other le low =
      let whole : Option ℕ = cond (is_same_text u.key other) (Some u.number) (number_of other us) in
      let rest = new_number us i number other (omega arith) (λ n d lt. low (suc n) d (omega arith)) in
      let less = low 0 u (omega arith) in
      ⊎_elim
      (λ (t : is_same_text key other ≡ true).
      let differs = text_differs u.key other (less_differs u.key other (subst (λ (k : List ℕ). key_order u.key k ≡ Less) (same_text key other t) less)) in
      cond-false (is_same_text u.key other) (Some u.number) (number_of other (insert us i (numbered key number))) differs
      ∙ rest
      ∙ cond-true (is_same_text key other) (Some number) (number_of other us) t
      ∙ sym (cond-true (is_same_text key other) (Some number) whole t))
      (λ (n : is_same_text key other ≡ false).
      ap (λ (o : Option ℕ). cond (is_same_text u.key other) (Some u.number) o) (rest ∙ cond-false (is_same_text key other) (Some number) (number_of other us) n)
      ∙ sym (cond-false (is_same_text key other) (Some number) whole n))
      (cases_Bool (is_same_text key other))

  new_ascending : (us : List Numbered) (i number : ℕ) → i ≤ length us → Ascending us → Low us i → High us i → Ascending (insert us i (numbered key number))
  new_ascending us zero number le asc low high = (all_high us high, asc)
  new_ascending [] (suc i) number le asc low high = absurd (omega arith)
  new_ascending (u ∷ us) (suc i) number le asc low high = (
    all_inserted (λ v. key_order u.key v.key ≡ Less) us i (numbered key number) (omega arith) (low 0 u (omega arith)) asc.0,
    new_ascending us i number (omega arith) asc.1 (λ n d lt. low (suc n) d (omega arith)) (λ n d from lt. high (suc n) d (omega arith) (omega arith)),
  )

  new_at : (us : List Numbered) (i : ℕ) → Ascending us → i ≤ length us → Low us i → High us i → IsNewAt key us i
  new_at us i asc le low high = record {
    within = le;
    absent = new_absent us i le low high;
    among = λ number other. new_number us i number other le low;
    ascending = λ number. new_ascending us i number le asc low high;
  }

  -- ---- the search

  at_most_two : (o : Ordering) → ordering_index o ≤ 2
  at_most_two Less = omega arith
  at_most_two Equal = omega arith
  at_most_two Greater = omega arith

  less_equal : (x y : List ℕ) → key_order x y ≡ Less → key_order y key ≡ Equal → key_order x key ≡ Less
  less_equal x y h e = subst (λ (k : List ℕ). key_order x k ≡ Less) (equal_is y key e) h

  rise : (x y : List ℕ) (o : Ordering) → key_order y key ≡ o → key_order x y ≡ Less → ordering_index (key_order x key) ≤ ordering_index o
  rise x y Less e h = rw (nat_list_cmp_total.trans x y key h e) (omega arith)
  rise x y Equal e h = rw (less_equal x y h e) (omega arith)
  rise x y Greater e h = at_most_two (key_order x key)

  rises : (us : List Numbered) (i j : ℕ) (d : Numbered) → Ascending us → i ≤ j → j < length us → ordering_index (key_order (get_or us i d).key key) ≤ ordering_index (key_order (get_or us j d).key key)
  rises [] i j d asc le lt = absurd (omega arith)
  rises (u ∷ us) zero zero d asc le lt = omega arith
  rises (u ∷ us) zero (suc j) d asc le lt =
      rise u.key (get_or us j d).key (key_order (get_or us j d).key key) refl (behind_at u.key us j d asc.0 (omega arith))
  rises (u ∷ us) (suc i) zero d asc le lt = absurd (omega arith)
  rises (u ∷ us) (suc i) (suc j) d asc le lt = rises us i j d asc.1 (omega arith) (omega arith)

  searched : (us : List Numbered) (r : Result ℕ ℕ) → Ascending us → IsSearchInRange r (length us) → IsBinarySearchResult (λ u. key_order u.key key) us r → MatchResult r (IsKeyAt key us) (IsNewAt key us)
  searched us (Ok i) asc within is = found_at us i asc within (λ d. equal_is (get_or us i d).key key (is d))
  searched us (Err i) asc within is =
      let parts = is (λ i j d le lt. rises us i j d asc le lt) in
      new_at us i asc within (λ n d lt. parts.0 n d (omega arith) lt) (λ n d from lt. parts.1 n d from lt)

  -- by the clause of the search, where each call compares the element's key
  pub place_from_clause : {F : Type 0} {g : Mut F (Bor Numbered × Unit {0}) Ordering} {f : F} (us : List Numbered) (r : Result ℕ ℕ) → Ascending us → IsSearchInRange r (length us)
      → ((ord : Numbered → Ordering) → ComputesKey g ord f → IsBinarySearchResult ord us r) → ((a : Bor Numbered × Unit {0}) (o : Ordering) (f' : F) → Called g f a o f' → (o ≡ key_order a.0.now.key key) × (f' ≡ f))
      → MatchResult r (IsKeyAt key us) (IsNewAt key us)
  place_from_clause {g = g} {f = f} us r asc within clause calls =
      searched us r asc within (clause (λ (u : Numbered). key_order u.key key) (always_returns_same g (λ u o. o ≡ key_order u.0.now.key key) f calls))
