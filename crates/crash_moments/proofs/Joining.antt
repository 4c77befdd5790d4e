-- How calls that lead from one state to the next are joined.
use Rattle.std.proofs.Common.{◌≡◌, inl, inr, ⊎_elim, refl, sym, subst, arith}
use Rattle.crash_moments.specs.Moments.{Moments, Stepped, Leads, LeavesSince, mapped}

-- nothing has happened yet
pub stays : {D I : Type 0} (moments : Moments D I) (s : D) → Leads moments s s (λ a b. b ≡ a)
stays moments s = record {
  later = omega arith;
  now = λ c left. record { from = c; was = left; step = refl };
  since = λ t c le left. inl left;
  keeps = λ t c le left. left;
}

-- one call more
pub joined : {D I : Type 0} (moments : Moments D I) (old mid new : D) (R S T : I → I → Type 0) → Leads moments old mid R → Leads moments mid new S
    → ((a b : I) → moments.may_leave old a → R a b → T a b)
    → ((a b c : I) → moments.may_leave old a → R a b → moments.may_leave mid b → S b c → T a c)
    → Leads moments old new T
joined {I = I} moments old mid new R S T first second only both = record {
  later = omega (arith, first.later, second.later);
  now = λ c left. further c (second.now c left);
  since = λ t c le left. ⊎_elim
      (λ past. ⊎_elim (λ before. inl before) (λ step. inr (record { from = step.from; was = step.was; step = only step.from c step.was step.step })) (first.since t c le past))
      (λ step. inr (further c step))
      (second.since t c (omega (arith, le, first.later)) left);
  keeps = λ t c le left. second.keeps t c (omega (arith, le, first.later)) (first.keeps t c le left);
}
  where
    further : (c : I) → Stepped moments mid S c → Stepped moments old T c
    further c step =
        let earlier = first.now step.from step.was in
        record { from = earlier.from; was = earlier.was; step = both earlier.from step.from c earlier.was earlier.step step.was step.step }

-- a weaker step
pub weakened : {D I : Type 0} (moments : Moments D I) (old new : D) (R T : I → I → Type 0) → Leads moments old new R → ((a b : I) → moments.may_leave old a → R a b → T a b) → Leads moments old new T
weakened {I = I} moments old new R T leads only = record {
  later = leads.later;
  now = λ c left. further c (leads.now c left);
  since = λ t c le left. ⊎_elim (λ before. inl before) (λ step. inr (further c step)) (leads.since t c le left);
  keeps = leads.keeps;
}
  where
    further : (c : I) → Stepped moments old R c → Stepped moments old T c
    further c step = record { from = step.from; was = step.was; step = only step.from c step.was step.step }

-- each image since the start is one at the start, after the step
pub whole : {D I : Type 0} (moments : Moments D I) (old new : D) (T : I → I → Type 0) → Leads moments old new T → ((a : I) → moments.may_leave old a → T a a)
    → (c : I) → moments.left_since new (moments.moment old) c → Stepped moments old T c
whole moments old new T leads same c left = ⊎_elim
    (λ past. let was = moments.only_now old c past in record { from = c; was = was; step = same c was })
    (λ step. step)
    (leads.since (moments.moment old) c (omega arith) left)

-- of a whole, where a part leads on
pub mapped_leads : {D I E J : Type 0} (moments : Moments D I) (part : E → D) (view : I → J) (old new : E) (R : I → I → Type 0) (S : J → J → Type 0)
    → Leads moments (part old) (part new) R → ((a b : I) → moments.may_leave (part old) a → R a b → S (view a) (view b)) → Leads (mapped moments part view) old new S
mapped_leads {I = I} {J = J} moments part view old new R S leads lift = record {
  later = leads.later;
  now = λ c left. further c left.from left.is (leads.now left.from left.was);
  since = λ t c le left. ⊎_elim
      (λ before. inl (record { from = left.from; was = before; is = left.is }))
      (λ step. inr (further c left.from left.is step))
      (leads.since t left.from le left.was);
  keeps = λ t c le left. record { from = left.from; was = leads.keeps t left.from le left.was; is = left.is };
}
  where
    further : (c : J) (i : I) → c ≡ view i → Stepped moments (part old) R i → Stepped (mapped moments part view) old S c
    further c i is step = record {
      from = view step.from;
      was = record { from = step.from; was = step.was; is = refl };
      step = subst (S (view step.from)) (sym is) (lift step.from i step.was step.step);
    }

-- of the part, where the whole leads on
pub part_leaves : {D I E J : Type 0} (moments : Moments D I) (part : E → D) (view : I → J) (old new : E) (T : J → J → Type 0) → Leads (mapped moments part view) old new T
    → ((a : I) → moments.may_leave (part old) a → T (view a) (view a)) → LeavesSince moments (part old) (part new) (λ a b. T (view a) (view b))
part_leaves {I = I} {J = J} moments part view old new T leads same c left =
    let step = whole (mapped moments part view) old new T leads (λ s was. subst (λ (x : J). T x x) (sym was.is) (same was.from was.was)) (view c) (record { from = c; was = left; is = refl }) in
    record { from = step.was.from; was = step.was.was; step = subst (λ (x : J). T x (view c)) step.was.is step.step }
