-- What a push into the chain of a key and a cut out of one make of the chains and of the numbers.
use Rattle.std.proofs.Common.{◌≡◌, ◌≢◌, ◌⊎◌, inl, inr, ℕ, zero, suc, ◌+◌, ◌<◌, ◌≤◌, Bool, true, false, cond, not, eqb, List, [], ◌∷◌, ◌++◌, length, Option, Some, None, refl, sym, ◌∙◌, ap, subst, arith, ⊎_elim}
use Rattle.std.proofs.lemmas.Bool.{cases_eq, cases_Bool, ne_eqb, cond-true, cond-false, not_from_false}
use Rattle.std.proofs.lemmas.List.{length-append, append-nil, append_assoc}
use Rattle.std.specs.List.{AllByRecursion}
use Rattle.bk_text.specs.Blanks.{is_same_text}
use Rattle.budb_links.specs.Stands.{Stand, first_place, Among, without_place}
use Rattle.budb_links.specs.Chained.{Woven, stand_at, chain_of}
use Rattle.budb_links.specs.Keys.{Numbered, Numbering, numbers_in, number_of, given_back, Ascending}
use Rattle.budb_links.specs.Stored.{numbers_from}
use Rattle.budb_links.specs.Keyed.{chain_at, chain_by, Differ, KeepsKeys, Entered, Gives}
use Rattle.budb_links.proofs.Places.{filter_keeps}
use Rattle.budb_links.proofs.KeyLaws.{same_text, text_same}
use Rattle.budb_links.proofs.Keeping.{front, back, numbers_push}
use Rattle.budb_links.proofs.Room.{numbers_long}
use Rattle.budb_links.proofs.Inserting.{Pushed}
use Rattle.budb_links.proofs.Unlinking.{Cut}

-- ---- chains

append_filled : (ss : List Stand) (s : Stand) → ss ++ s ∷ [] ≢ []
append_filled [] s e = let no : ⊥ = cc in no
append_filled (x ∷ ss) s e = let no : ⊥ = cc in no

pub no_first : (ss : List Stand) → first_place ss None ≡ None → ss ≡ []
no_first [] e = refl
no_first (s ∷ ss) e = absurd (let no : ⊥ = cc in no)

pub without_apart : (place : ℕ) (ss : List Stand) → (Among place ss → ⊥) → without_place place ss ≡ ss
without_apart place [] apart = refl
without_apart place (s ∷ ss) apart =
    filter_keeps (λ (x : Stand). not (eqb x.place place)) s ss (not_from_false (eqb s.place place) (ne_eqb s.place place (λ e. apart (inl e))))
    ∙ ap (λ (l : List Stand). s ∷ l) (without_apart place ss (λ a. apart (inr a)))

not_both : (b : Bool) → b ≡ true → b ≡ false → ⊥
not_both b t f = let no : true ≡ false = sym t ∙ f in let never : ⊥ = cc in never

-- ---- numbers that differ

differ_front : (ns : List ℕ) (n : ℕ) → Differ (ns ++ n ∷ []) → Differ ns
differ_front [] n d = tt
differ_front (m ∷ ns) n d = (front (λ o. o ≢ m) ns n d.0, differ_front ns n d.1)

differ_push : (ns : List ℕ) (n : ℕ) → AllByRecursion (λ m. m ≢ n) ns → Differ ns → Differ (ns ++ n ∷ [])
differ_push [] n a d = (tt, tt)
differ_push (m ∷ ns) n a d = (numbers_push (λ o. o ≢ m) ns n d.0 (λ e. a.0 (sym e)), differ_push ns n a.1 d.1)

all_weaker : (P Q : ℕ → Type 0) → ((n : ℕ) → P n → Q n) → (ns : List ℕ) → AllByRecursion P ns → AllByRecursion Q ns
all_weaker P Q f [] a = tt
all_weaker P Q f (n ∷ ns) a = (f n a.0, all_weaker P Q f ns a.1)

-- ---- a push

module _ (family : ℕ) (arena arena' : Woven) (old : Numbering) (key : List ℕ) (number place id : ℕ) (keeps : KeepsKeys family arena old) (p : Pushed arena arena' family number place id) where
  abbrev IsEmpty : Woven → ℕ → Type 0
  IsEmpty a n = (n < numbers_in old) × (chain_of a family n ≡ [])

  abbrev longer : Option ℕ → List Stand
  longer o = chain_at arena family o ++ stand_at place id ∷ []

  here_filled : chain_of arena' family number ≢ []
  here_filled e = append_filled (chain_of arena family number) (stand_at place id) (sym p.chain ∙ e)

  filled_push : (n : ℕ) → chain_of arena family n ≢ [] → chain_of arena' family n ≢ []
  filled_push n h e =
      ⊎_elim
      (λ (same : n ≡ number). here_filled (ap (chain_of arena' family) (sym same) ∙ e))
      (λ (ne : n ≡ number → ⊥). h (sym (p.others n ne) ∙ e))
      (cases_eq n number)

  same_other : (o : Option ℕ) → ((n : ℕ) → o ≡ Some n → n ≢ number) → chain_at arena' family o ≡ chain_at arena family o
  same_other None h = refl
  same_other (Some n) h = p.others n (h n refl)

  module _ (known : number_of key old.used ≡ Some number) where
    known_chains : (other : List ℕ) → chain_by arena' old family other ≡ cond (is_same_text key other) (longer (number_of other old.used)) (chain_by arena old family other)
    known_chains other =
        ⊎_elim
        (λ (t : is_same_text key other ≡ true).
        let is : number_of other old.used ≡ Some number = subst (λ (k : List ℕ). number_of k old.used ≡ Some number) (same_text key other t) known in
        ap (chain_at arena' family) is ∙ p.chain ∙ ap longer (sym is) ∙ sym (cond-true (is_same_text key other) (longer (number_of other old.used)) (chain_by arena old family other) t))
        (λ (f : is_same_text key other ≡ false).
        same_other (number_of other old.used) (λ n is e. not_both (is_same_text key other) (text_same key other (keeps.one key other number known (is ∙ ap Some e))) f)
        ∙ sym (cond-false (is_same_text key other) (longer (number_of other old.used)) (chain_by arena old family other) f))
        (cases_Bool (is_same_text key other))

    known_keeps : KeepsKeys family arena' old
    known_keeps =
        let within = keeps.below key number known in
        let some = keeps.filled key number known in
        record {
          ascending = keeps.ascending;
          one = keeps.one;
          filled = λ k n e. filled_push n (keeps.filled k n e);
          below = keeps.below;
          empty = all_weaker (IsEmpty arena) (IsEmpty arena') (λ n h. (h.0, p.others n (λ e. some (ap (chain_of arena family) (sym e) ∙ h.1)) ∙ h.1)) old.spare keeps.empty;
          apart = keeps.apart;
          beyond = λ n le. p.others n (λ e. absurd (omega (arith, le, within, e))) ∙ keeps.beyond n le;
          each = λ n.
              ⊎_elim
              (λ (same : n ≡ number). inr (key, known ∙ ap Some (sym same)))
              (λ (ne : n ≡ number → ⊥). ⊎_elim (λ (h : chain_of arena family n ≡ []). inl (p.others n ne ∙ h)) (λ (h : (k : List ℕ) × (number_of k old.used ≡ Some n)). inr h) (keeps.each n))
              (cases_eq n number);
          heads = omega (arith, keeps.heads, p.heads);
        }

  module _ (new : Numbering) (e : Entered key number old new) where
    spare_last : IsEmpty arena number
    spare_last = back (IsEmpty arena) new.spare number (subst (AllByRecursion (IsEmpty arena)) e.spare keeps.empty)

    not_it : (n : ℕ) → chain_of arena family n ≢ [] → n ≢ number
    not_it n h same = h (ap (chain_of arena family) same ∙ spare_last.1)

    entered_chains : (other : List ℕ) → chain_by arena' new family other ≡ cond (is_same_text key other) (longer (number_of other old.used)) (chain_by arena old family other)
    entered_chains other =
        ⊎_elim
        (λ (t : is_same_text key other ≡ true).
        let is = e.used other ∙ cond-true (is_same_text key other) (Some number) (number_of other old.used) t in
        let none : number_of other old.used ≡ None = subst (λ (k : List ℕ). number_of k old.used ≡ None) (same_text key other t) e.absent in
        ap (chain_at arena' family) is
        ∙ p.chain
        ∙ ap (λ (l : List Stand). l ++ stand_at place id ∷ []) spare_last.1
        ∙ ap longer (sym none)
        ∙ sym (cond-true (is_same_text key other) (longer (number_of other old.used)) (chain_by arena old family other) t))
        (λ (f : is_same_text key other ≡ false).
        let is = e.used other ∙ cond-false (is_same_text key other) (Some number) (number_of other old.used) f in
        ap (chain_at arena' family) is
        ∙ same_other (number_of other old.used) (λ n at. not_it n (keeps.filled other n at))
        ∙ sym (cond-false (is_same_text key other) (longer (number_of other old.used)) (chain_by arena old family other) f))
        (cases_Bool (is_same_text key other))

    used_cases : (k : List ℕ) (n : ℕ) → number_of k new.used ≡ Some n → ((key ≡ k) × (n ≡ number)) ⊎ (number_of k old.used ≡ Some n)
    used_cases k n at =
        ⊎_elim
        (λ (t : is_same_text key k ≡ true).
        let both = sym (e.used k ∙ cond-true (is_same_text key k) (Some number) (number_of k old.used) t) ∙ at in
        let same : n ≡ number = cc in
        inl (same_text key k t, same))
        (λ (f : is_same_text key k ≡ false). inr (sym (e.used k ∙ cond-false (is_same_text key k) (Some number) (number_of k old.used) f) ∙ at))
        (cases_Bool (is_same_text key k))

    entered_one : (a b : List ℕ) (n : ℕ) → number_of a new.used ≡ Some n → number_of b new.used ≡ Some n → a ≡ b
    entered_one a b n at bt =
        ⊎_elim
        (λ (mine : (key ≡ a) × (n ≡ number)).
        ⊎_elim
        (λ (theirs : (key ≡ b) × (n ≡ number)). sym mine.0 ∙ theirs.0)
        (λ (theirs : number_of b old.used ≡ Some n). absurd (not_it n (keeps.filled b n theirs) mine.1))
        (used_cases b n bt))
        (λ (mine : number_of a old.used ≡ Some n).
        ⊎_elim
        (λ (theirs : (key ≡ b) × (n ≡ number)). absurd (not_it n (keeps.filled a n mine) theirs.1))
        (λ (theirs : number_of b old.used ≡ Some n). keeps.one a b n mine theirs)
        (used_cases b n bt))
        (used_cases a n at)

    entered_filled : (k : List ℕ) (n : ℕ) → number_of k new.used ≡ Some n → chain_of arena' family n ≢ []
    entered_filled k n at =
        ⊎_elim
        (λ (mine : (key ≡ k) × (n ≡ number)). λ none. here_filled (ap (chain_of arena' family) (sym mine.1) ∙ none))
        (λ (mine : number_of k old.used ≡ Some n). filled_push n (keeps.filled k n mine))
        (used_cases k n at)

    entered_below : (k : List ℕ) (n : ℕ) → number_of k new.used ≡ Some n → n < numbers_in new
    entered_below k n at =
        ⊎_elim
        (λ (mine : (key ≡ k) × (n ≡ number)). omega (arith, spare_last.0, mine.1, e.count))
        (λ (mine : number_of k old.used ≡ Some n). omega (arith, keeps.below k n mine, e.count))
        (used_cases k n at)

    still_used : (k : List ℕ) (n : ℕ) → number_of k old.used ≡ Some n → number_of k new.used ≡ Some n
    still_used k n at =
        ⊎_elim
        (λ (t : is_same_text key k ≡ true).
        let both : None ≡ Some n = sym (subst (λ (l : List ℕ). number_of l old.used ≡ None) (same_text key k t) e.absent) ∙ at in
        absurd (let no : ⊥ = cc in no))
        (λ (f : is_same_text key k ≡ false). e.used k ∙ cond-false (is_same_text key k) (Some number) (number_of k old.used) f ∙ at)
        (cases_Bool (is_same_text key k))

    abbrev IsKnown : ℕ → Type 0
    IsKnown n = (chain_of arena' family n ≡ []) ⊎ ((k : List ℕ) × (number_of k new.used ≡ Some n))

    entered_each : (n : ℕ) → IsKnown n
    entered_each n =
        ⊎_elim
        (λ (same : n ≡ number). inr (key, e.used key ∙ cond-true (is_same_text key key) (Some number) (number_of key old.used) (text_same key key refl) ∙ ap Some (sym same)))
        (λ (ne : n ≡ number → ⊥).
        ⊎_elim
        (λ (h : chain_of arena family n ≡ []). inl (p.others n ne ∙ h))
        (λ (h : (k : List ℕ) × (number_of k old.used ≡ Some n)). inr (h.0, still_used h.0 n h.1))
        (keeps.each n))
        (cases_eq n number)

    abbrev StaysEmpty : ℕ → Type 0
    StaysEmpty n = (n < numbers_in new) × (chain_of arena' family n ≡ [])

    spare_front : (ns : List ℕ) → AllByRecursion (IsEmpty arena) (ns ++ number ∷ []) → Differ (ns ++ number ∷ []) → AllByRecursion StaysEmpty ns
    spare_front [] a d = tt
    spare_front (n ∷ ns) a d =
        let ne : number ≢ n = back (λ o. o ≢ n) ns number d.0 in
        ((omega (arith, a.0.0, e.count), p.others n (λ same. ne (sym same)) ∙ a.0.1), spare_front ns a.1 d.1)

    entered_keeps : KeepsKeys family arena' new
    entered_keeps = record {
      ascending = e.ascending;
      one = entered_one;
      filled = entered_filled;
      below = entered_below;
      empty = spare_front new.spare (subst (AllByRecursion (IsEmpty arena)) e.spare keeps.empty) (subst Differ e.spare keeps.apart);
      apart = differ_front new.spare number (subst Differ e.spare keeps.apart);
      beyond = λ n le. p.others n (λ same. absurd (omega (arith, le, spare_last.0, same, e.count))) ∙ keeps.beyond n (omega (arith, le, e.count));
      each = entered_each;
      heads = omega (arith, keeps.heads, p.heads, e.count);
    }

  pub pushed_keeps : (new : Numbering) → Gives key number old new → KeepsKeys family arena' new
  pushed_keeps new (inl known) = subst (KeepsKeys family arena') (sym known.1) (known_keeps known.0)
  pushed_keeps new (inr e) = entered_keeps new e

  pub pushed_chains : (new : Numbering) → Gives key number old new → (other : List ℕ) → chain_by arena' new family other ≡ cond (is_same_text key other) (longer (number_of other old.used)) (chain_by arena old family other)
  pushed_chains new (inl known) other = ap (λ (t : Numbering). chain_by arena' t family other) known.1 ∙ known_chains known.0 other
  pushed_chains new (inr e) other = entered_chains new e other

-- ---- a cut

module _ (family : ℕ) (arena arena' : Woven) (old : Numbering) (key : List ℕ) (number place : ℕ) (keeps : KeepsKeys family arena old) (c : Cut arena arena' family place)
    (known : number_of key old.used ≡ Some number) (head : (other : ℕ) → Among place (chain_of arena family other) → number ≡ other) where
  without_other : (n : ℕ) → n ≢ number → chain_of arena' family n ≡ chain_of arena family n
  without_other n ne = c.chains n ∙ without_apart place (chain_of arena family n) (λ among. ne (sym (head n among)))

  stays_empty : (n : ℕ) → chain_of arena family n ≡ [] → chain_of arena' family n ≡ []
  stays_empty n h = c.chains n ∙ ap (without_place place) h

  cut_at : (o : Option ℕ) → chain_at arena' family o ≡ without_place place (chain_at arena family o)
  cut_at None = refl
  cut_at (Some n) = c.chains n

  pub stays_chains : (other : List ℕ) → chain_by arena' old family other ≡ without_place place (chain_by arena old family other)
  stays_chains other = cut_at (number_of other old.used)

  pub stays_keeps : chain_of arena' family number ≢ [] → KeepsKeys family arena' old
  stays_keeps some = record {
    ascending = keeps.ascending;
    one = keeps.one;
    filled = λ k n at.
        ⊎_elim
        (λ (same : n ≡ number). λ none. some (ap (chain_of arena' family) (sym same) ∙ none))
        (λ (ne : n ≡ number → ⊥). λ none. keeps.filled k n at (sym (without_other n ne) ∙ none))
        (cases_eq n number);
    below = keeps.below;
    empty = all_weaker (λ n. (n < numbers_in old) × (chain_of arena family n ≡ [])) (λ n. (n < numbers_in old) × (chain_of arena' family n ≡ [])) (λ n h. (h.0, stays_empty n h.1)) old.spare keeps.empty;
    apart = keeps.apart;
    beyond = λ n le. stays_empty n (keeps.beyond n le);
    each = λ n. ⊎_elim (λ (h : chain_of arena family n ≡ []). inl (stays_empty n h)) (λ (h : (k : List ℕ) × (number_of k old.used ≡ Some n)). inr h) (keeps.each n);
    heads = omega (arith, keeps.heads, c.heads);
  }

  module _ (none : chain_of arena' family number ≡ []) (new : Numbering)
      (used : (other : List ℕ) → number_of other new.used ≡ cond (is_same_text key other) None (number_of other old.used))
      (spare : new.spare ≡ given_back old.spare (number_of key old.used)) (count : numbers_in new ≡ numbers_in old) (ascending : Ascending new.used) where
    pub leaves_chains : (other : List ℕ) → chain_by arena' new family other ≡ without_place place (chain_by arena old family other)
    leaves_chains other =
        ⊎_elim
        (λ (t : is_same_text key other ≡ true).
        let gone = used other ∙ cond-true (is_same_text key other) None (number_of other old.used) t in
        let was : number_of other old.used ≡ Some number = subst (λ (k : List ℕ). number_of k old.used ≡ Some number) (same_text key other t) known in
        ap (chain_at arena' family) gone ∙ sym none ∙ c.chains number ∙ ap (λ (o : Option ℕ). without_place place (chain_at arena family o)) (sym was))
        (λ (f : is_same_text key other ≡ false).
        ap (chain_at arena' family) (used other ∙ cond-false (is_same_text key other) None (number_of other old.used) f) ∙ cut_at (number_of other old.used))
        (cases_Bool (is_same_text key other))

    was_used : (k : List ℕ) (n : ℕ) → number_of k new.used ≡ Some n → (number_of k old.used ≡ Some n) × (n ≢ number)
    was_used k n at =
        ⊎_elim
        (λ (t : is_same_text key k ≡ true).
        let both : None ≡ Some n = sym (used k ∙ cond-true (is_same_text key k) None (number_of k old.used) t) ∙ at in
        absurd (let no : ⊥ = cc in no))
        (λ (f : is_same_text key k ≡ false).
        let was = sym (used k ∙ cond-false (is_same_text key k) None (number_of k old.used) f) ∙ at in
        (was, (λ same. not_both (is_same_text key k) (text_same key k (keeps.one key k number known (was ∙ ap Some same))) f)))
        (cases_Bool (is_same_text key k))

    abbrev IsLeft : ℕ → Type 0
    IsLeft n = (chain_of arena' family n ≡ []) ⊎ ((k : List ℕ) × (number_of k new.used ≡ Some n))

    leaves_it : (n : ℕ) (k : List ℕ) → number_of k old.used ≡ Some n → IsLeft n
    leaves_it n k at =
        ⊎_elim
        (λ (t : is_same_text key k ≡ true).
        let both = sym (subst (λ (l : List ℕ). number_of l old.used ≡ Some number) (same_text key k t) known) ∙ at in
        let same : number ≡ n = cc in
        inl (ap (chain_of arena' family) (sym same) ∙ none))
        (λ (f : is_same_text key k ≡ false). inr (k, used k ∙ cond-false (is_same_text key k) None (number_of k old.used) f ∙ at))
        (cases_Bool (is_same_text key k))

    spare_is : new.spare ≡ old.spare ++ number ∷ []
    spare_is = spare ∙ ap (given_back old.spare) known

    abbrev NowEmpty : ℕ → Type 0
    NowEmpty n = (n < numbers_in new) × (chain_of arena' family n ≡ [])

    pub leaves_keeps : KeepsKeys family arena' new
    leaves_keeps =
        let was : ℕ → Type 0 = λ n. (n < numbers_in old) × (chain_of arena family n ≡ []) in
        let some = keeps.filled key number known in
        let within = keeps.below key number known in
        record {
          ascending = ascending;
          one = λ a b n at bt. let mine = was_used a n at in let theirs = was_used b n bt in keeps.one a b n mine.0 theirs.0;
          filled = λ k n at none. let mine = was_used k n at in keeps.filled k n mine.0 (sym (without_other n mine.1) ∙ none);
          below = λ k n at. let mine = was_used k n at in omega (arith, keeps.below k n mine.0, count);
          empty = subst (AllByRecursion NowEmpty) (sym spare_is) (numbers_push NowEmpty old.spare number (all_weaker was NowEmpty (λ n h. (omega (arith, h.0, count), stays_empty n h.1)) old.spare keeps.empty) (omega (arith, within, count), none));
          apart = subst Differ (sym spare_is) (differ_push old.spare number (all_weaker was (λ n. n ≢ number) (λ n h same. some (ap (chain_of arena family) (sym same) ∙ h.1)) old.spare keeps.empty) keeps.apart);
          beyond = λ n le. stays_empty n (keeps.beyond n (omega (arith, le, count)));
          each = λ n. ⊎_elim (λ (h : chain_of arena family n ≡ []). inl (stays_empty n h)) (λ (h : (k : List ℕ) × (number_of k old.used ≡ Some n)). leaves_it n h.0 h.1) (keeps.each n);
          heads = omega (arith, keeps.heads, c.heads, count);
        }

-- ---- what leaves a family's chains as they are

pub same_keeps : (family : ℕ) (arena arena' : Woven) (numbers : Numbering) → ((n : ℕ) → chain_of arena' family n ≡ chain_of arena family n) → length arena.ends ≤ length arena'.ends → KeepsKeys family arena numbers → KeepsKeys family arena' numbers
same_keeps family arena arena' numbers same long keeps = record {
  ascending = keeps.ascending;
  one = keeps.one;
  filled = λ k n at none. keeps.filled k n at (sym (same n) ∙ none);
  below = keeps.below;
  empty = all_weaker (λ n. (n < numbers_in numbers) × (chain_of arena family n ≡ [])) (λ n. (n < numbers_in numbers) × (chain_of arena' family n ≡ [])) (λ n h. (h.0, same n ∙ h.1)) numbers.spare keeps.empty;
  apart = keeps.apart;
  beyond = λ n le. same n ∙ keeps.beyond n le;
  each = λ n. ⊎_elim (λ (h : chain_of arena family n ≡ []). inl (same n ∙ h)) (λ (h : (k : List ℕ) × (number_of k numbers.used ≡ Some n)). inr h) (keeps.each n);
  heads = omega (arith, keeps.heads, long);
}

pub same_at : (family : ℕ) (arena arena' : Woven) → ((n : ℕ) → chain_of arena' family n ≡ chain_of arena family n) → (o : Option ℕ) → chain_at arena' family o ≡ chain_at arena family o
same_at family arena arena' same None = refl
same_at family arena arena' same (Some n) = same n

-- ---- more numbers

pub room_from : (made was total room : ℕ) → (made ≡ was) ⊎ (made ≤ total) → was ≤ room → total ≤ room → made ≤ room
room_from made was total room (inl same) h k = omega (arith, same, h)
room_from made was total room (inr most) h k = omega (arith, most, k)

module _ (family : ℕ) (arena : Woven) where
  abbrev with_more : Numbering → List ℕ → Numbering
  with_more numbers more = record { used = numbers.used; spare = numbers.spare ++ more }

  one_more : (numbers : Numbering) → KeepsKeys family arena numbers → numbers_in numbers + 1 ≤ length arena.ends → KeepsKeys family arena (with_more numbers (numbers_in numbers ∷ []))
  one_more numbers keeps room =
      let total = numbers_in numbers in
      let new = with_more numbers (total ∷ []) in
      let long = length-append numbers.spare (total ∷ []) in
      let was : ℕ → Type 0 = λ n. (n < total) × (chain_of arena family n ≡ []) in
      let now : ℕ → Type 0 = λ n. (n < numbers_in new) × (chain_of arena family n ≡ []) in
      record {
        ascending = keeps.ascending;
        one = keeps.one;
        filled = keeps.filled;
        below = λ k n at. omega (arith, keeps.below k n at, long);
        empty = numbers_push now numbers.spare total (all_weaker was now (λ n h. (omega (arith, h.0, long), h.1)) numbers.spare keeps.empty) (omega (arith, long), keeps.beyond total (omega arith));
        apart = differ_push numbers.spare total (all_weaker was (λ n. n ≢ total) (λ n h same. absurd (omega (arith, h.0, same))) numbers.spare keeps.empty) keeps.apart;
        beyond = λ n le. keeps.beyond n (omega (arith, le, long));
        each = keeps.each;
        heads = omega (arith, room, long);
      }

  more_numbers : (count : ℕ) (numbers : Numbering) → KeepsKeys family arena numbers → numbers_in numbers + count ≤ length arena.ends → KeepsKeys family arena (with_more numbers (numbers_from (numbers_in numbers) count))
  more_numbers zero numbers keeps room =
      subst (λ (l : List ℕ). let n : Numbering = record { used = numbers.used; spare = l } in KeepsKeys family arena n) (sym (append-nil numbers.spare)) keeps
  more_numbers (suc count) numbers keeps room =
      let total = numbers_in numbers in
      let one = with_more numbers (total ∷ []) in
      let long = length-append numbers.spare (total ∷ []) in
      let next : numbers_in one ≡ total + 1 = omega (arith, long) in
      let rest = more_numbers count one (one_more numbers keeps (omega (arith, room))) (omega (arith, room, next)) in
      let numbered = subst (λ (n : ℕ). KeepsKeys family arena (with_more one (numbers_from n count))) next rest in
      subst (λ (l : List ℕ). let n : Numbering = record { used = numbers.used; spare = l } in KeepsKeys family arena n) (append_assoc numbers.spare (total ∷ []) (numbers_from (total + 1) count)) numbered

  pub grown_numbers : (old new : Numbering) → KeepsKeys family arena old → new.used ≡ old.used → (more : ℕ) × (new.spare ≡ old.spare ++ numbers_from (numbers_in old) more) → numbers_in new ≤ length arena.ends → KeepsKeys family arena new
  grown_numbers old new keeps used spare room =
      let long = ap length spare.1 ∙ length-append old.spare (numbers_from (numbers_in old) spare.0) in
      let count = numbers_long (numbers_in old) spare.0 in
      let made = more_numbers spare.0 old keeps (omega (arith, room, long, count, ap length used)) in
      let at_spare = subst (λ (l : List ℕ). let n : Numbering = record { used = old.used; spare = l } in KeepsKeys family arena n) (sym spare.1) made in
      subst (λ (us : List Numbered). let n : Numbering = record { used = us; spare = new.spare } in KeepsKeys family arena n) (sym used) at_spare
