-- Plants on the way, of whose tapes more may be settled than was asked for.
use Rattle.std.proofs.Common.{zero, suc, ◌≡◌, ℕ, ◌+◌, ◌≤◌, List, [], ◌∷◌, ◌++◌, length, take, map, Bool, true, false, refl, sym, ◌∙◌, ap, subst, arith, length-append}
use Rattle.std.specs.Prelude.{if◌then◌else◌, ◌==◌, ◌-◌, Some}
use Rattle.std.proofs.lemmas.List.{length-map, take-map}
use Rattle.std.proofs.Math.Seq.{take-append-add}
use Rattle.crash_moments.specs.Telling.{IsFront, Extends}
use Rattle.crash_moments.proofs.Joining.{joined, weakened}
use Rattle.plant_core.specs.declared.plant.Plant.{Ghosts as Plant}
use Rattle.plant_core.specs.Crashes.{State, IsTorn, LeftIn, Alike, IsSettled, IsWithin}
use Rattle.plant_core.specs.Effects.{Effect, commits, replaces, tells, puts, settles, cuts, comes, come, Joint}
use Rattle.plant_core.specs.Records.{Record}
use Rattle.plant_core.specs.Stock.{Stock}
use Rattle.plant_effects.specs.Runs.{state_of, Done, IsStartOf, Leaves}
use Rattle.plant_effects.proofs.States.{come_append, grows_both, grows_twice, joint_more}
use Rattle.tape_scan.specs.Looking.{Loads, LeavesLoads}
use Rattle.tape_scan.proofs.Looking.{settling_keeps_told}
use Rattle.dump_courses.specs.Ahead.{IsAhead, DoneAhead}

-- ---- states

pub ahead_within : (s : State) → IsWithin s → IsAhead s s
ahead_within s is = record { log = refl; tape = λ k. refl; told = refl; log_settled = refl; more = λ k. omega arith; within = is.tapes }

-- a state is ahead of itself, where it is ahead of any
pub ahead_itself : (s t : State) → IsAhead s t → IsAhead t t
ahead_itself s t ahead = record { log = refl; tape = λ k. refl; told = refl; log_settled = refl; more = λ k. omega arith; within = ahead.within }

pub ahead_both : (s t u : State) → IsAhead s t → IsAhead t u → IsAhead s u
ahead_both s t u first second = record {
  log = second.log ∙ first.log;
  tape = λ k. second.tape k ∙ first.tape k;
  told = second.told ∙ first.told;
  log_settled = second.log_settled ∙ first.log_settled;
  more = λ k. omega (arith, first.more k, second.more k);
  within = second.within;
}

pub ahead_alike : (s t u : State) → IsAhead s t → Alike t u → IsAhead s u
ahead_alike s t u ahead alike = record {
  log = alike.log ∙ ahead.log;
  tape = λ k. alike.tape k ∙ ahead.tape k;
  told = alike.told ∙ ahead.told;
  log_settled = alike.log_settled ∙ ahead.log_settled;
  more = λ k. omega (arith, ahead.more k, alike.settled k);
  within = λ k. omega (arith, ahead.within k, alike.settled k, ap length (alike.tape k));
}

-- where all is settled, no more can be
pub ahead_settled : (s t : State) → IsSettled s → IsAhead s t → Alike s t
ahead_settled s t is ahead = record {
  log = ahead.log;
  tape = ahead.tape;
  told = ahead.told;
  log_settled = ahead.log_settled;
  settled = λ k. omega (arith, is.tapes k, ahead.more k, ahead.within k, ap length (ahead.tape k));
}

-- what a crash leaves of it
pub ahead_left : (s t : State) (c : Stock) → IsAhead s t → LeftIn t c → LeftIn s c
ahead_left s t c ahead left = record {
  log = left.log ∙ (λ i. Some (take (ahead.log_settled i) (ahead.log i)));
  tapes = λ k. torn k (left.tapes k);
  told = subst (IsFront c.told) ahead.told left.told;
}
  where
    torn : (k : ℕ) → IsTorn (t.settled k) (t.tape k) (c.tape k) → IsTorn (s.settled k) (s.tape k) (c.tape k)
    torn k is = subst (λ (l : List Record). IsTorn (s.settled k) l (c.tape k)) (ahead.tape k) (record { count = is.count; low = omega (arith, is.low, ahead.more k); high = is.high; is = is.is })

-- ---- effects

by_slot : (b : Bool) (x y m n : ℕ) → x ≤ y → m ≤ n → (if b then x else m) ≤ (if b then y else n)
by_slot true x y m n one other = one
by_slot false x y m n one other = other

grown : (b : Bool) (l : List Record) (r : Record) (n : ℕ) → n ≤ length l → n ≤ length (if b then l ++ r ∷ [] else l)
grown true l r n low = omega (arith, low, length-append l (r ∷ []))
grown false l r n low = low

within_settled : (b : Bool) (l : List Record) (n : ℕ) → n ≤ length l → (if b then length l else n) ≤ length l
within_settled true l n low = omega arith
within_settled false l n low = low

within_cut : (b : Bool) (l : List Record) (m n : ℕ) → n ≤ length l → (if b then length (take m l) else n) ≤ length (if b then take m l else l)
within_cut true l m n low = omega arith
within_cut false l m n low = low

le_of : (m n : ℕ) → m ≡ n → m ≤ n
le_of m n same = omega (arith, same)

pub ahead_comes : (e : Effect) (s t : State) → IsAhead s t → IsAhead (comes e s) (comes e t)
ahead_comes (commits bytes) s t ahead = record {
  log = ap (λ (l : List ℕ). l ++ bytes) ahead.log;
  tape = ahead.tape;
  told = ahead.told;
  log_settled = ap (λ (l : List ℕ). length (l ++ bytes)) ahead.log;
  more = ahead.more;
  within = ahead.within;
}
ahead_comes (replaces bytes) s t ahead = record { log = refl; tape = ahead.tape; told = ahead.told; log_settled = refl; more = ahead.more; within = ahead.within }
ahead_comes (tells text) s t ahead = record {
  log = ahead.log;
  tape = ahead.tape;
  told = ap (λ (l : List ℕ). l ++ text) ahead.told;
  log_settled = ahead.log_settled;
  more = ahead.more;
  within = ahead.within;
}
ahead_comes (puts k r) s t ahead = record {
  log = ahead.log;
  tape = λ j. ap (λ (l : List Record). if j == k then l ++ r ∷ [] else l) (ahead.tape j);
  told = ahead.told;
  log_settled = ahead.log_settled;
  more = ahead.more;
  within = λ j. grown (j == k) (t.tape j) r (t.settled j) (ahead.within j);
}
ahead_comes (settles k) s t ahead = record {
  log = ahead.log;
  tape = ahead.tape;
  told = ahead.told;
  log_settled = ahead.log_settled;
  more = λ j. by_slot (j == k) (length (s.tape j)) (length (t.tape j)) (s.settled j) (t.settled j) (le_of (length (s.tape j)) (length (t.tape j)) (sym (ap length (ahead.tape j)))) (ahead.more j);
  within = λ j. within_settled (j == k) (t.tape j) (t.settled j) (ahead.within j);
}
ahead_comes (cuts k n) s t ahead = record {
  log = ahead.log;
  tape = λ j. ap (λ (l : List Record). if j == k then take n l else l) (ahead.tape j);
  told = ahead.told;
  log_settled = ahead.log_settled;
  more = λ j. by_slot (j == k) (length (take n (s.tape j))) (length (take n (t.tape j))) (s.settled j) (t.settled j) (le_of (length (take n (s.tape j))) (length (take n (t.tape j))) (sym (ap (λ (l : List Record). length (take n l)) (ahead.tape j)))) (ahead.more j);
  within = λ j. within_cut (j == k) (t.tape j) n (t.settled j) (ahead.within j);
}

pub ahead_come : (es : List Effect) (s t : State) → IsAhead s t → IsAhead (come es s) (come es t)
ahead_come [] s t ahead = ahead
ahead_come (e ∷ es) s t ahead = ahead_come es (comes e s) (comes e t) (ahead_comes e s t ahead)

-- a tape more is settled
more_settled : (b : Bool) (l : List Record) (m n : ℕ) → m ≤ n → n ≤ length l → m ≤ (if b then length l else n)
more_settled true l m n low high = omega (arith, low, high)
more_settled false l m n low high = low

ahead_settles : (k : ℕ) (s t : State) → IsAhead s t → IsAhead s (comes (settles k) t)
ahead_settles k s t ahead = record {
  log = ahead.log;
  tape = ahead.tape;
  told = ahead.told;
  log_settled = ahead.log_settled;
  more = λ j. more_settled (j == k) (t.tape j) (s.settled j) (t.settled j) (ahead.more j) (ahead.within j);
  within = λ j. within_settled (j == k) (t.tape j) (t.settled j) (ahead.within j);
}

pub ahead_away : (away : List ℕ) (fs : List Effect) (s t : State) → IsAhead s t → IsAhead (come fs s) (come (map settles away ++ fs) t)
ahead_away [] fs s t ahead = ahead_come fs s t ahead
ahead_away (k ∷ away) fs s t ahead = ahead_away away fs s (comes (settles k) t) (ahead_settles k s t ahead)

-- tapes were put away
ahead_loaded : (away : List ℕ) (s t : State) → IsAhead s t → IsAhead s (come (map settles away) t)
ahead_loaded [] s t ahead = ahead
ahead_loaded (k ∷ away) s t ahead = ahead_loaded away s (comes (settles k) t) (ahead_settles k s t ahead)

less_none : (n : ℕ) → n ≡ n - 0
less_none n = omega arith

none_less : (n : ℕ) → 0 ≡ 0 - n
none_less n = omega arith

one_less : (m n : ℕ) → m - n ≡ suc m - suc n
one_less m n = omega arith

-- the first so many of these effects
ahead_front : (away : List ℕ) (fs : List Effect) (count : ℕ) (s t : State) → IsAhead s t → IsAhead (come (take (count - length away) fs) s) (come (take count (map settles away ++ fs)) t)
ahead_front [] fs count s t ahead = subst (λ (n : ℕ). IsAhead (come (take n fs) s) (come (take count fs) t)) (less_none count) (ahead_come (take count fs) s t ahead)
ahead_front (k ∷ away) fs zero s t ahead = subst (λ (n : ℕ). IsAhead (come (take n fs) s) t) (none_less (length (k ∷ away))) ahead
ahead_front (k ∷ away) fs (suc n) s t ahead = subst (λ (m : ℕ). IsAhead (come (take m fs) s) (come (take n (map settles away ++ fs)) (comes (settles k) t))) (one_less n (length away)) (ahead_front away fs n s (comes (settles k) t) (ahead_settles k s t ahead))

-- ---- plants

ahead_then : (s mid : State) (es fs : List Effect) (away : List ℕ) (a b c : Stock) → IsAhead (come es s) mid → Extends a.told b.told → Joint mid (map settles away ++ fs) b c → Joint s (es ++ fs) a c
ahead_then s mid es fs away a b c ahead grows joint =
    let away_long : length (map settles away ++ fs) ≡ length away + length fs = length-append (map settles away) fs ∙ ap (λ (n : ℕ). n + length fs) (length-map away settles) in
    record {
      count = length es + (joint.count - length away);
      within = omega (arith, joint.within, away_long, length-append es fs);
      left = subst (λ (l : List Effect). LeftIn (come l s) c) (sym (take-append-add es fs (joint.count - length away)))
          (subst (λ (t : State). LeftIn t c) (sym (come_append es (take (joint.count - length away) fs) s))
          (ahead_left (come (take (joint.count - length away) fs) (come es s)) (come (take joint.count (map settles away ++ fs)) mid) c (ahead_front away fs joint.count (come es s) mid ahead) joint.left));
      grows = grows_twice a b c grows joint.grows;
    }

-- what is told by them, of which the first are ahead
told_ahead_then : (s mid : State) (es fs : List Effect) (away : List ℕ) (told : List ℕ) → IsAhead (come es s) mid → IsStartOf told (come (map settles away ++ fs) mid).told → IsStartOf told (come (es ++ fs) s).told
told_ahead_then s mid es fs away told ahead start = subst (λ (t : State). IsStartOf told t.told) (sym (come_append es fs s)) (subst (IsStartOf told) (ahead_away away fs (come es s) mid ahead).told start)

module _ {D : Type 0} (P : Plant D) where
  pub nothing_ahead : (s : D) → P.sound s → (P.tells → IsWithin (state_of P s)) → DoneAhead P [] s s
  nothing_ahead s sound within = record { sound = sound; survives = λ told survives. survives; state = λ told. ahead_within (state_of P s) (within told) }

  pub behind_loads : (es fs : List Effect) (away : List ℕ) (old mid new : D) → DoneAhead P es old mid → Done P (map settles away ++ fs) mid new → DoneAhead P (es ++ fs) old new
  behind_loads es fs away old mid new first second = record {
    sound = second.sound;
    survives = λ told survives. second.survives told (first.survives told survives);
    state = λ told. subst (λ (s : State). IsAhead s (state_of P new)) (sym (come_append es fs (state_of P old)))
        (ahead_alike (come fs (come es (state_of P old))) (come (map settles away ++ fs) (state_of P mid)) (state_of P new) (ahead_away away fs (come es (state_of P old)) (state_of P mid) (first.state told)) (second.state told));
  }

  pub done_ahead_both : (es fs : List Effect) (old mid new : D) → DoneAhead P es old mid → DoneAhead P fs mid new → DoneAhead P (es ++ fs) old new
  done_ahead_both es fs old mid new first second = record {
    sound = second.sound;
    survives = λ told survives. second.survives told (first.survives told survives);
    state = λ told. subst (λ (s : State). IsAhead s (state_of P new)) (sym (come_append es fs (state_of P old)))
        (ahead_both (come fs (come es (state_of P old))) (come fs (state_of P mid)) (state_of P new) (ahead_come fs (come es (state_of P old)) (state_of P mid) (first.state told)) (second.state told));
  }

  pub leaves_ahead : (es fs : List Effect) (away : List ℕ) (old mid new : D) → DoneAhead P es old mid → Leaves P es old mid → Leaves P (map settles away ++ fs) mid new → Leaves P (es ++ fs) old new
  leaves_ahead es fs away old mid new done first second = record {
    crash = λ told survives. joined P.time old mid new (Joint (state_of P old) es) (Joint (state_of P mid) (map settles away ++ fs)) (Joint (state_of P old) (es ++ fs))
        (first.crash told survives) (second.crash told (done.survives told survives))
        (λ a b was step. joint_more (state_of P old) es fs a b step)
        (λ a b c was step left next. ahead_then (state_of P old) (state_of P mid) es fs away a b c (done.state told) step.grows next);
    told = λ told. told_ahead_then (state_of P old) (state_of P mid) es fs away (state_of P new).told (done.state told) (second.told told);
    grows = λ told. grows_both (state_of P old).told (state_of P mid).told (state_of P new).told (first.grows told) (second.grows told);
  }

  -- nothing was done to a plant that is ahead of some state
  pub standing_ahead : (s : D) (t : State) → P.sound s → (P.tells → IsAhead t (state_of P s)) → DoneAhead P [] s s
  standing_ahead s t sound ahead = record { sound = sound; survives = λ told survives. survives; state = λ told. ahead_itself t (state_of P s) (ahead told) }

  -- tapes were loaded there
  pub loads_ahead : (old new : D) (t : State) → (P.tells → IsAhead t (state_of P old)) → Loads P old new → DoneAhead P [] old new
  loads_ahead old new t ahead loads = record {
    sound = loads.done.sound;
    survives = loads.done.survives;
    state = λ told. ahead_alike (state_of P old) (come (map settles loads.away) (state_of P old)) (state_of P new) (ahead_loaded loads.away (state_of P old) (state_of P old) (ahead_itself t (state_of P old) (ahead told))) (loads.done.state told);
  }

  pub loads_leave : (old new : D) (t : State) → (P.tells → IsAhead t (state_of P old)) → LeavesLoads P old new → Leaves P [] old new
  loads_leave old new t ahead loads = record {
    crash = λ told survives. weakened P.time old new (Joint (state_of P old) (map settles loads.away)) (Joint (state_of P old) []) (loads.leaves.crash told survives) (λ a b was step. record {
      count = 0;
      within = omega arith;
      left = ahead_left (state_of P old) (come (take step.count (map settles loads.away)) (state_of P old)) b
          (subst (λ (es : List Effect). IsAhead (state_of P old) (come es (state_of P old))) (sym (take-map settles step.count loads.away))
          (ahead_loaded (take step.count loads.away) (state_of P old) (state_of P old) (ahead_itself t (state_of P old) (ahead told))))
          step.left;
      grows = step.grows;
    });
    told = λ told. subst (IsStartOf (state_of P new).told) (settling_keeps_told loads.away (state_of P old)) (loads.leaves.told told);
    grows = loads.leaves.grows;
  }

  -- all is settled in the end
  pub ahead_done : (es : List Effect) (old new : D) → (P.tells → IsSettled (come es (state_of P old))) → DoneAhead P es old new → Done P es old new
  ahead_done es old new settled ahead = record {
    sound = ahead.sound;
    survives = ahead.survives;
    state = λ told. ahead_settled (come es (state_of P old)) (state_of P new) (settled told) (ahead.state told);
  }
