-- The moments of one that keeps its events.
use Rattle.std.proofs.Common.{◌≡◌, ◌⊎◌, inl, inr, ℕ, ◌<◌, ◌≤◌, List, [], ◌∷◌, ◌++◌, length, refl, sym, ap, subst, arith, length-append}
use Rattle.std.proofs.lemmas.List.{take_all, take-append-le}
use Rattle.std.proofs.lemmas.Bool.{cases_lt}
use Rattle.crash_moments.specs.Moments.{Stepped, Leads, AtSome, history}

module _ {D E I : Type 0} (events : D → List E) (is_left : List E → I → Type 0) where
  -- nothing is asked
  pub same_events : (old new : D) → events new ≡ events old → Leads (history events is_left) old new (λ a b. b ≡ a)
  same_events old new same = record {
    later = omega (arith, ap length same);
    now = λ c left. record { from = c; was = subst (λ (es : List E). is_left es c) same left; step = refl };
    since = λ t c le left. inl (subst (λ (es : List E). AtSome es is_left t c) same left);
    keeps = λ t c le left. subst (λ (es : List E). AtSome es is_left t c) (sym same) left;
  }

  -- one more is asked
  pub one_event : (old new : D) (e : E) (Step : I → I → Type 0) → events new ≡ events old ++ e ∷ []
      → ((c : I) → is_left (events old ++ e ∷ []) c → Stepped (history events is_left) old Step c) → Leads (history events is_left) old new Step
  one_event old new e Step more leaves = record {
    later = omega (arith, ap length more, length-append (events old) (e ∷ []));
    now = λ c left. leaves c (subst (λ (es : List E). is_left es c) more left);
    since = λ t c le left. split t c (subst (λ (es : List E). AtSome es is_left t c) more left) (cases_lt (length (events old)) (subst (λ (es : List E). AtSome es is_left t c) more left).at);
    keeps = λ t c le left. subst (λ (es : List E). AtSome es is_left t c) (sym more) (record {
      at = left.at;
      from = left.from;
      to = omega (arith, left.to, length-append (events old) (e ∷ []));
      left = subst (λ (es : List E). is_left es c) (sym (take-append-le left.at (events old) (e ∷ []) left.to)) left.left;
    });
  }
    where
      split : (t : ℕ) (c : I) (some : AtSome (events old ++ e ∷ []) is_left t c) → (length (events old) < some.at) ⊎ (some.at ≤ length (events old))
          → AtSome (events old) is_left t c ⊎ Stepped (history events is_left) old Step c
      split t c some (inr early) = inl (record { at = some.at; from = some.from; to = early; left = subst (λ (es : List E). is_left es c) (take-append-le some.at (events old) (e ∷ []) early) some.left })
      split t c some (inl late) = inr (leaves c (subst (λ (es : List E). is_left es c) (take_all some.at (events old ++ e ∷ []) (omega (arith, late, length-append (events old) (e ∷ [])))) some.left))
