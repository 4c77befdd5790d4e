-- States after effects, and what a crash leaves of them.
use Rattle.std.proofs.Common.{◌≡◌, ℕ, ◌+◌, List, [], ◌∷◌, ◌++◌, length, take, drop, Some, refl, sym, ◌∙◌, ap, subst, arith, append_assoc, length-append}
use Rattle.std.specs.Prelude.{if◌then◌else◌, ◌==◌}
use Rattle.std.proofs.lemmas.List.{append-nil, take-append-le, take-append-drop}
use Rattle.std.proofs.Math.Seq.{take-append-add}
use Rattle.crash_moments.specs.Telling.{IsFront, Extends}
use Rattle.crash_moments.proofs.Fronts.{whole_front, front_more, front_size}
use Rattle.plant_core.specs.Crashes.{State, IsTorn, LeftIn, Alike}
use Rattle.plant_core.specs.Effects.{Effect, commits, replaces, tells, puts, settles, cuts, comes, come, told_by, Joint}
use Rattle.plant_core.specs.Records.{Record}
use Rattle.plant_core.specs.Stock.{Stock}
use Rattle.plant_effects.specs.Runs.{IsStartOf}

pub alike_self : (s : State) → Alike s s
alike_self s = record { log = refl; tape = λ k. refl; told = refl; log_settled = refl; settled = λ k. refl }

pub alike_both : (s t u : State) → Alike s t → Alike t u → Alike s u
alike_both s t u first second = record {
  log = second.log ∙ first.log;
  tape = λ k. second.tape k ∙ first.tape k;
  told = second.told ∙ first.told;
  log_settled = second.log_settled ∙ first.log_settled;
  settled = λ k. second.settled k ∙ first.settled k;
}

pub alike_comes : (e : Effect) (s t : State) → Alike s t → Alike (comes e s) (comes e t)
alike_comes (commits bytes) s t alike = record {
  log = ap (λ (l : List ℕ). l ++ bytes) alike.log;
  tape = alike.tape;
  told = alike.told;
  log_settled = ap (λ (l : List ℕ). length (l ++ bytes)) alike.log;
  settled = alike.settled;
}
alike_comes (replaces bytes) s t alike = record { log = refl; tape = alike.tape; told = alike.told; log_settled = refl; settled = alike.settled }
alike_comes (tells text) s t alike = record {
  log = alike.log;
  tape = alike.tape;
  told = ap (λ (l : List ℕ). l ++ text) alike.told;
  log_settled = alike.log_settled;
  settled = alike.settled;
}
alike_comes (puts k r) s t alike = record {
  log = alike.log;
  tape = λ j. ap (λ (l : List Record). if j == k then l ++ r ∷ [] else l) (alike.tape j);
  told = alike.told;
  log_settled = alike.log_settled;
  settled = alike.settled;
}
alike_comes (settles k) s t alike = record {
  log = alike.log;
  tape = alike.tape;
  told = alike.told;
  log_settled = alike.log_settled;
  settled = λ j. λ i. if j == k then length (alike.tape j i) else alike.settled j i;
}
alike_comes (cuts k n) s t alike = record {
  log = alike.log;
  tape = λ j. ap (λ (l : List Record). if j == k then take n l else l) (alike.tape j);
  told = alike.told;
  log_settled = alike.log_settled;
  settled = λ j. λ i. if j == k then length (take n (alike.tape j i)) else alike.settled j i;
}

pub alike_come : (es : List Effect) (s t : State) → Alike s t → Alike (come es s) (come es t)
alike_come [] s t alike = alike
alike_come (e ∷ es) s t alike = alike_come es (comes e s) (comes e t) (alike_comes e s t alike)

pub come_append : (es fs : List Effect) (s : State) → come (es ++ fs) s ≡ come fs (come es s)
come_append [] fs s = refl
come_append (e ∷ es) fs s = come_append es fs (comes e s)

-- what is told by them stands behind what was told
pub told_is : (es : List Effect) (s : State) → (come es s).told ≡ s.told ++ told_by es
told_is [] s = sym (append-nil s.told)
told_is (commits bytes ∷ es) s = told_is es (comes (commits bytes) s)
told_is (replaces bytes ∷ es) s = told_is es (comes (replaces bytes) s)
told_is (tells text ∷ es) s = told_is es (comes (tells text) s) ∙ append_assoc s.told text (told_by es)
told_is (puts k r ∷ es) s = told_is es (comes (puts k r) s)
told_is (settles k ∷ es) s = told_is es (comes (settles k) s)
told_is (cuts k n ∷ es) s = told_is es (comes (cuts k n) s)

-- ---- what was told grows

pub grows_same : (old new : List ℕ) → new ≡ old → IsStartOf old new
grows_same old new same = front_size old new (whole_front old new (sym same))

pub grows_more : (old more : List ℕ) → IsStartOf old (old ++ more)
grows_more old more = front_size old (old ++ more) (front_more old old more (whole_front old old refl))

pub grows_both : (old mid new : List ℕ) → IsStartOf old mid → IsStartOf mid new → IsStartOf old new
grows_both old mid new first second =
    front_size old new (subst (IsFront old) (ap (λ (l : List ℕ). l ++ drop (length mid) new) second ∙ take-append-drop (length mid) new) (front_more old mid (drop (length mid) new) (length old, first)))

-- where no more was told than before, there is no more than these effects tell
told_front : (es : List Effect) (s : State) (told : List ℕ) → IsFront told s.told → IsStartOf told (come es s).told
told_front es s told front = front_size told (come es s).told (subst (IsFront told) (sym (told_is es s)) (front_more told s.told (told_by es) front))

pub told_kept : (es : List Effect) (s : State) (told : List ℕ) → told ≡ s.told → IsStartOf told (come es s).told
told_kept es s told same = told_front es s told (whole_front told s.told same)

-- the same with more effects to come
pub told_ahead : (es fs : List Effect) (s : State) (told : List ℕ) → IsStartOf told (come es s).told → IsStartOf told (come (es ++ fs) s).told
told_ahead es fs s told start = subst (λ (t : State). IsStartOf told t.told) (sym (come_append es fs s)) (told_front fs (come es s) told (length told, start))

-- all of the first effects were done, and then of the others
pub told_then : (s mid : State) (es fs : List Effect) (told : List ℕ) → Alike (come es s) mid → IsStartOf told (come fs mid).told → IsStartOf told (come (es ++ fs) s).told
told_then s mid es fs told alike start = subst (λ (t : State). IsStartOf told t.told) (sym (come_append es fs s)) (subst (IsStartOf told) (alike_come fs (come es s) mid alike).told start)

-- what a crash leaves of a state it leaves of one alike
pub left_alike : (s t : State) (c : Stock) → Alike s t → LeftIn t c → LeftIn s c
left_alike s t c alike left = record {
  log = left.log ∙ (λ i. Some (take (alike.log_settled i) (alike.log i)));
  tapes = λ k. subst (λ (n : ℕ). IsTorn n (s.tape k) (c.tape k)) (alike.settled k) (subst (λ (l : List Record). IsTorn (t.settled k) l (c.tape k)) (alike.tape k) (left.tapes k));
  told = subst (IsFront c.told) alike.told left.told;
}

-- ---- joint images

pub grows_none : (a b : Stock) → b.told ≡ a.told → Extends a.told b.told
grows_none a b same = ([], same ∙ sym (append-nil a.told))

pub grows_twice : (a b c : Stock) → Extends a.told b.told → Extends b.told c.told → Extends a.told c.told
grows_twice a b c (one, is_one) (two, is_two) = (one ++ two, is_two ∙ ap (λ (l : List ℕ). l ++ two) is_one ∙ append_assoc a.told one two)

-- no effect yet
pub joint_none : (s : State) (es : List Effect) (a b : Stock) → LeftIn s b → Extends a.told b.told → Joint s es a b
joint_none s es a b left grows = record { count = 0; within = omega arith; left = left; grows = grows }

-- more effects to come
pub joint_more : (s : State) (es fs : List Effect) (a b : Stock) → Joint s es a b → Joint s (es ++ fs) a b
joint_more s es fs a b joint = record {
  count = joint.count;
  within = omega (arith, joint.within, length-append es fs);
  left = subst (λ (l : List Effect). LeftIn (come l s) b) (sym (take-append-le joint.count es fs joint.within)) joint.left;
  grows = joint.grows;
}

-- all of the first effects were done, and then the first of the others
pub joint_then : (s mid : State) (es fs : List Effect) (a b c : Stock) → Alike (come es s) mid → Extends a.told b.told → Joint mid fs b c → Joint s (es ++ fs) a c
joint_then s mid es fs a b c alike grows joint = record {
  count = length es + joint.count;
  within = omega (arith, joint.within, length-append es fs);
  left = subst (λ (l : List Effect). LeftIn (come l s) c) (sym (take-append-add es fs joint.count))
      (subst (λ (t : State). LeftIn t c) (sym (come_append es (take joint.count fs) s))
      (left_alike (come (take joint.count fs) (come es s)) (come (take joint.count fs) mid) c (alike_come (take joint.count fs) (come es s) mid alike) joint.left));
  grows = grows_twice a b c grows joint.grows;
}
