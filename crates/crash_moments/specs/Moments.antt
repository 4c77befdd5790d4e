-- What a crash may leave, moment by moment. A state D may leave images I: an image is all that is found after a crash.
-- Moments inside a call count as well: a promise on a call speaks of each image that might have been left since its start.
use Rattle.std.specs.Prelude.{◌≡◌, ◌≢◌, ◌⊎◌, ℕ, ◌+◌, ◌-◌, ◌^◌, ◌≤◌, min, List, length, take, Result, Err, OnOk, OnErr}
use Rattle.std.proofs.Common.{sym, subst}
use Rattle.std.proofs.Math.Nat.{le_refl}
use Rattle.std.proofs.lemmas.List.{take_all}

-- The moments of a state: how many there were, which images a crash may leave now, and which ones a crash at some
-- moment since a given one might have left. An image of now was left since each moment; of now alone are those of now.
pub record Moments (D I : Type 0) : Type 1 where
  pub moment : D → ℕ
  pub may_leave : D → I → Type 0
  pub left_since : D → ℕ → I → Type 0
  pub counts_now : (s : D) (t : ℕ) (c : I) → t ≤ moment s → may_leave s c → left_since s t c
  pub only_now : (s : D) (c : I) → left_since s (moment s) c → may_leave s c

-- an image that might have been left at the moment of a state, after this step
pub record Stepped {D I : Type 0} (moments : Moments D I) (old : D) (Step : I → I → Type 0) (c : I) : Type 0 where
  pub from : I
  pub was : moments.may_leave old from
  pub step : Step from c

-- From old to new each image that a crash might have left is one that it might have left at old, after this step.
pub record Leads {D I : Type 0} (moments : Moments D I) (old new : D) (Step : I → I → Type 0) : Type 0 where
  pub later : moments.moment old ≤ moments.moment new
  pub now : (c : I) → moments.may_leave new c → Stepped moments old Step c
  pub since : (t : ℕ) (c : I) → t ≤ moments.moment old → moments.left_since new t c → moments.left_since old t c ⊎ Stepped moments old Step c
  pub keeps : (t : ℕ) (c : I) → t ≤ moments.moment old → moments.left_since old t c → moments.left_since new t c

-- A count has risen. A count of faults ends at 2^64 - 1, so that one that stands there counts as risen.
abbrev pub Rose : ℕ → ℕ → Type 0
Rose before now = min (before + 1) (2 ^ 64 - 1) ≤ now

-- The count of a fault at a call whose error is that fault alone. It doesn't fall. It has risen where the fault is told,
-- and is exactly as before where the call went well.
pub record HasCause {T E : Type 0} (before now : ℕ) (result : Result T E) : Type 0 where
  pub later : before ≤ now
  pub failed : OnErr result (Rose before now)
  pub stays : OnOk result (now ≡ before)

-- The count of a fault at a call that has other errors too. It doesn't fall. It has risen where the fault is told, and is
-- exactly as before at every other answer.
pub record HasCauseAt {T E : Type 0} (fault : E) (before now : ℕ) (result : Result T E) : Type 0 where
  pub later : before ≤ now
  pub failed : result ≡ Err fault → Rose before now
  pub stays : result ≢ Err fault → now ≡ before

-- what a part leaves, as it is seen from outside
pub record Seen {I J : Type 0} (view : I → J) (left : I → Type 0) (c : J) : Type 0 where
  pub from : I
  pub was : left from
  pub is : c ≡ view from

-- the moments of a whole that has its moments from a part
abbrev pub mapped : {D I E J : Type 0} → Moments D I → (E → D) → (I → J) → Moments E J
mapped moments part view = record {
  moment = λ e. moments.moment (part e);
  may_leave = λ e. Seen view (moments.may_leave (part e));
  left_since = λ e t. Seen view (moments.left_since (part e) t);
  counts_now = λ e t c le left. record { from = left.from; was = moments.counts_now (part e) t left.from le left.was; is = left.is };
  only_now = λ e c left. record { from = left.from; was = moments.only_now (part e) left.from left.was; is = left.is };
}

-- one of the moments of a list of events
pub record AtSome {E I : Type 0} (events : List E) (is_left : List E → I → Type 0) (t : ℕ) (c : I) : Type 0 where
  pub at : ℕ
  pub from : t ≤ at
  pub to : at ≤ length events
  pub left : is_left (take at events) c

-- the moments of one that keeps its events
abbrev pub history : {D E I : Type 0} → (D → List E) → (List E → I → Type 0) → Moments D I
history {E = E} events is_left = record {
  moment = λ s. length (events s);
  may_leave = λ s. is_left (events s);
  left_since = λ s. AtSome (events s) is_left;
  counts_now = λ s t c le left. record { at = length (events s); from = le; to = le_refl _; left = subst (λ (es : List E). is_left es c) (sym (take_all (length (events s)) (events s) (le_refl _))) left };
  only_now = λ s c some. subst (λ (es : List E). is_left es c) (take_all some.at (events s) some.from) some.left;
}

-- each image that might have been left at some moment since old is one that might have been left at old, after this step
abbrev pub LeavesSince : {D I : Type 0} → Moments D I → D → D → (I → I → Type 0) → Type 0
LeavesSince moments old new Step = (c : _) → moments.left_since new (moments.moment old) c → Stepped moments old Step c

-- the moments of one that tells nothing
abbrev pub silent : {D I : Type 0} → Moments D I
silent = record {
  moment = λ s. 0;
  may_leave = λ s c. ⊥;
  left_since = λ s t c. ⊥;
  counts_now = λ s t c le left. left;
  only_now = λ s c left. left;
}
