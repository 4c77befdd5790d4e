-- Entries with one more behind them.
use Rattle.std.proofs.Common.{◌≡◌, ℕ, ◌+◌, ◌-◌, ◌<◌, ◌≤◌, List, [], ◌∷◌, ◌++◌, length, map, take, drop, get_or, refl, sym, ap, subst, ◌∙◌, inl, inr, arith, length-append, length-take}
use Rattle.std.specs.Prelude.{All, AllPairs, sum_by}
use Rattle.std.proofs.lemmas.List.{get_or_append_left, take_more, take-append-drop}
use Rattle.std.proofs.lemmas.List.Elements.{All-nil, All-push, All-head, All-drop, All-weaker, All-from_get_or}
use Rattle.std.proofs.lemmas.List.Quantifiers.{all_pairs_push}
use Rattle.std.proofs.lemmas.List.Sums.{sum_by-append}
use Rattle.std.proofs.Math.Seq.{drop-append_seam}
use Rattle.vnode_model.specs.declared.increments.Entry.{Entry}
use Rattle.vnode_model.specs.Limits.{StandsBefore, IsFit, AreFit, BreakAt, number_of, data_len, all_data}
use Rattle.vnode_model.specs.Follows.{MayFollow, Stand}

map_push : (es : List Entry) (e : Entry) → map number_of (es ++ e ∷ []) ≡ map number_of es ++ number_of e ∷ []
map_push [] e = refl
map_push (d ∷ es) e = ap (λ (x : List ℕ). number_of d ∷ x) (map_push es e)

map_length : (es : List Entry) → length (map number_of es) ≡ length es
map_length [] = refl
map_length (d ∷ es) = omega (arith, map_length es)

sum_push : (es : List Entry) (e : Entry) → sum_by data_len (es ++ e ∷ []) ≡ sum_by data_len es + data_len e
sum_push es e = sum_by-append data_len es (e ∷ []) ∙ omega arith

-- the last one of many
All_last : {X : Type 0} (P : X → Type 0) (xs : List X) (x : X) → All P (xs ++ x ∷ []) → P x
All_last P xs x h = All-head P x [] (subst (All P) (drop-append_seam xs (x ∷ [])) (All-drop P (length xs) (xs ++ x ∷ []) h))

pub before_trans : (a b c : ℕ) → StandsBefore a b → StandsBefore b c → StandsBefore a c
before_trans a b c (inl h) (inl k) = absurd (let e : 0 ≡ 1 = sym h.1 ∙ k.0 in cc)
before_trans a b c (inl h) (inr k) = inl (h.0, sym k.0 ∙ h.1)
before_trans a b c (inr h) (inl k) = inl (h.0 ∙ k.0, k.1)
before_trans a b c (inr h) (inr k) = inr (h.0 ∙ k.0, omega (arith, h.1, k.1))

pub stand_none : Stand [] 0 all_data
stand_none = record {
  fit = record {
    few = omega arith;
    numbered = All-nil (λ n. 1 ≤ n);
    ordered = λ i j d lt within. absurd (omega arith);
    each = All-nil IsFit;
    small = omega arith;
  };
  last_is = λ n. (λ h. inl refl, λ h. All-nil (λ m. StandsBefore m n));
  room_left = omega arith;
}

module _ (es : List Entry) (last room : ℕ) (e : Entry) (h : Stand es last room) where
  pub pushed_fit : MayFollow (length es) last room e → AreFit (es ++ e ∷ [])
  pushed_fit k =
      let behind : All (λ (m : ℕ). StandsBefore m (number_of e)) (map number_of es) = (h.last_is (number_of e)).1 k.ordered in
      record {
        few = omega (arith, k.few, length-append es (e ∷ []));
        numbered = rw (map_push es e) (All-push (λ (n : ℕ). 1 ≤ n) (map number_of es) (number_of e) h.fit.numbered k.numbered);
        ordered = rw (map_push es e) (all_pairs_push StandsBefore (map number_of es) (number_of e) h.fit.ordered (λ i d lt. behind i d lt));
        each = All-push IsFit es e h.fit.each k.fit;
        small = omega (arith, sum_push es e, h.room_left, k.small);
      }

  pub pushed_stand : MayFollow (length es) last room e → Stand (es ++ e ∷ []) (number_of e) (room - data_len e)
  pushed_stand k =
      let behind : All (λ (m : ℕ). StandsBefore m (number_of e)) (map number_of es) = (h.last_is (number_of e)).1 k.ordered in
      record {
        fit = pushed_fit k;
        last_is = λ n. (
          λ all. inr (All_last (λ (m : ℕ). StandsBefore m n) (map number_of es) (number_of e) (rw (map_push es e) at all)),
          λ o. elim o [
            | inl none ↦ absurd (omega (arith, none, k.numbered))
            | inr b ↦ rw (map_push es e) (All-push (λ (m : ℕ). StandsBefore m n) (map number_of es) (number_of e)
                (All-weaker (λ (m : ℕ). StandsBefore m (number_of e)) (λ (m : ℕ). StandsBefore m n) (λ m a. before_trans m (number_of e) n a b) (map number_of es) behind) b)
          ],
        );
        room_left = omega (arith, sum_push es e, h.room_left, k.small);
      }

  -- the last entry of fit ones may follow the others
  pub fit_follows : AreFit (es ++ e ∷ []) → MayFollow (length es) last room e
  fit_follows k =
      let pairs : AllPairs StandsBefore (map number_of es ++ number_of e ∷ []) = subst (AllPairs StandsBefore) (map_push es e) k.ordered in
      let behind : All (λ (m : ℕ). StandsBefore m (number_of e)) (map number_of es) =
      All-from_get_or (λ (m : ℕ). StandsBefore m (number_of e)) (map number_of es) 0 (λ i lt.
      let low : get_or (map number_of es ++ number_of e ∷ []) i 0 ≡ get_or (map number_of es) i 0 = get_or_append_left (map number_of es) (number_of e ∷ []) 0 i lt in
      let high : get_or (map number_of es ++ number_of e ∷ []) (length (map number_of es)) 0 ≡ number_of e = at_end (map number_of es) (number_of e) in
      subst (λ (m : ℕ). StandsBefore m (number_of e)) low (subst (λ (n : ℕ). StandsBefore (get_or (map number_of es ++ number_of e ∷ []) i 0) n) high
      (pairs i (length (map number_of es)) 0 lt (omega (arith, length-append (map number_of es) (number_of e ∷ [])))))) in
      record {
        few = omega (arith, k.few, length-append es (e ∷ []));
        numbered = All_last (λ (n : ℕ). 1 ≤ n) (map number_of es) (number_of e) (subst (All (λ (n : ℕ). 1 ≤ n)) (map_push es e) k.numbered);
        ordered = (h.last_is (number_of e)).0 behind;
        fit = All_last IsFit es e k.each;
        small = omega (arith, sum_push es e, h.room_left, k.small);
      }
    where
      at_end : (xs : List ℕ) (x : ℕ) → get_or (xs ++ x ∷ []) (length xs) 0 ≡ x
      at_end [] x = refl
      at_end (y ∷ xs) x = at_end xs x

-- ---- the first ones of fit entries are fit

map_append : (es rest : List Entry) → map number_of (es ++ rest) ≡ map number_of es ++ map number_of rest
map_append [] rest = refl
map_append (e ∷ es) rest = ap (λ (x : List ℕ). number_of e ∷ x) (map_append es rest)

All_front : {X : Type 0} (P : X → Type 0) (xs ys : List X) → All P (xs ++ ys) → All P xs
All_front P xs ys h k d lt = subst P (get_or_append_left xs ys d k lt) (h k d (omega (arith, length-append xs ys)))

pairs_front : (xs ys : List ℕ) → AllPairs StandsBefore (xs ++ ys) → AllPairs StandsBefore xs
pairs_front xs ys h i j d lt within =
    subst (λ (m : ℕ). StandsBefore m (get_or xs j d)) (get_or_append_left xs ys d i (omega arith))
    (subst (λ (n : ℕ). StandsBefore (get_or (xs ++ ys) i d) n) (get_or_append_left xs ys d j within) (h i j d lt (omega (arith, length-append xs ys))))

pub fit_front : (es rest : List Entry) → AreFit (es ++ rest) → AreFit es
fit_front es rest h = record {
  few = omega (arith, h.few, length-append es rest);
  numbered = All_front (λ (n : ℕ). 1 ≤ n) (map number_of es) (map number_of rest) (subst (All (λ (n : ℕ). 1 ≤ n)) (map_append es rest) h.numbered);
  ordered = pairs_front (map number_of es) (map number_of rest) (subst (AllPairs StandsBefore) (map_append es rest) h.ordered);
  each = All_front IsFit es rest h.each;
  small = omega (arith, sum_by-append data_len es rest, h.small);
}

-- ---- one more of the entries that a walk has left behind

-- one entry further
further : (es : List Entry) (at : ℕ) (e : Entry) → at < length es → e ≡ get_or es at e → take (at + 1) es ≡ take at es ++ e ∷ []
further es at e lt is = take_more es at e lt ∙ ap (λ (x : Entry). take at es ++ x ∷ []) (sym is)

module _ (es : List Entry) (at last room : ℕ) (e : Entry) (stand : Stand (take at es) last room) (lt : at < length es) (is : e ≡ get_or es at e) where
  front_len : at ≡ length (take at es)
  front_len = omega (arith, length-take at es)

  pub breaks_here : (MayFollow at last room e → ⊥) → BreakAt es at
  breaks_here not =
      let here : AreFit (take (at + 1) es) → ⊥ = λ fit. not
      (subst (λ (n : ℕ). MayFollow n last room e) (sym front_len)
      (fit_follows (take at es) last room e stand (subst AreFit (further es at e lt is) fit))) in
      record {
        within = lt;
        before = stand.fit;
        here = here;
        whole = λ fit. here (fit_front (take (at + 1) es) (drop (at + 1) es) (subst AreFit (sym (take-append-drop (at + 1) es)) fit));
      }

  pub stands_on : MayFollow at last room e → Stand (take (at + 1) es) (number_of e) (room - data_len e)
  stands_on may =
      rw (further es at e lt is) (pushed_stand (take at es) last room e stand (subst (λ (n : ℕ). MayFollow n last room e) front_len may))
