-- What each event makes of a plant in memory, and what a crash on the way may leave.
use Rattle.std.proofs.Common.{◌≡◌, ◌≢◌, ◌⊎◌, inl, inr, ⊎_elim, ℕ, ◌+◌, ◌-◌, ◌≤◌, ◌==◌, if◌then◌else◌, Bool, true, false, List, [], ◌∷◌, ◌++◌, length, take, Option, Some, refl, sym, ◌∙◌, ap, subst, arith, length-append}
use Rattle.std.proofs.lemmas.Bool.{cases_lt, cases_eq}
use Rattle.std.proofs.lemmas.Bool.Decides.{nat_tests}
use Rattle.std.proofs.lemmas.List.{take_all, take-append-le, append-nil}
use Rattle.std.proofs.Math.Seq.{take-append-add}
use Rattle.crash_moments.specs.Moments.{Stepped, Leads, AtSome, history}
use Rattle.crash_moments.specs.Telling.{IsFront}
use Rattle.crash_moments.proofs.Histories.{same_events, one_event}
use Rattle.plant_core.specs.declared.event.Event.{Event}
use Rattle.plant_core.specs.declared.event.Event.TheVariants.{Put, Settle, Cut, LogPut, LogCommit, LogReplace, Tell}
use Rattle.plant_core.specs.declared.mem.MemPlant.{MemPlant}
use Rattle.plant_core.specs.declared.stored.Stored.TheVariants.{Mark}
use Rattle.plant_core.specs.Records.{Record, mark, bad}
use Rattle.plant_core.specs.Stock.{Stock}
use Rattle.plant_core.specs.Crashes.{State, IsTorn, IsWithin, LeftIn, blank}
use Rattle.plant_core.specs.Steps.{Same, OldOr, AtTape, MayGain, MayKeep, MaySettle, TellsTo}
use Rattle.plant_core.specs.Past.{happens, after, IsLeft, GainsPut, GainsBytes}
use Rattle.plant_core.specs.Kept.{always_within, put_within}
use Rattle.plant_core.specs.Shown.{events_of, state_of}

-- one event more
pub after-push : (es : List Event) (e : Event) (s : State) → after (es ++ e ∷ []) s ≡ happens e (after es s)
after-push [] e s = refl
after-push (x ∷ es) e s = after-push es e (happens x s)

pub state_push : (es es' : List Event) (e : Event) → es' ≡ es ++ e ∷ [] → after es' blank ≡ happens e (after es blank)
state_push es es' e more = ap (λ (l : List Event). after l blank) more ∙ after-push es e blank

-- one place of many
pub if_here : {A : Type 0} (j k : ℕ) (x y : A) → j ≡ k → (if j == k then x else y) ≡ x
if_here j k x y same = grind (arith, nat_tests)

pub if_other : {A : Type 0} (j k : ℕ) (x y : A) → j ≢ k → (if j == k then x else y) ≡ y
if_other j k x y other = grind (arith, nat_tests)

-- torn tapes
torn_more : (n : ℕ) (whole : List Record) (r : Record) (tape : List Record) → IsTorn n whole tape → IsTorn n (whole ++ r ∷ []) tape
torn_more n whole r tape torn = record {
  count = torn.count;
  low = torn.low;
  high = omega (arith, torn.high, length-append whole (r ∷ []));
  is = ⊎_elim
      (λ is. inl (is ∙ sym (take-append-le torn.count whole (r ∷ []) torn.high)))
      (λ cut. inr (omega (arith, cut.0, length-append whole (r ∷ [])), cut.1 ∙ ap (λ (l : List Record). l ++ bad ∷ []) (sym (take-append-le torn.count whole (r ∷ []) torn.high))))
      torn.is;
}

torn_lower : (m n : ℕ) (whole tape : List Record) → m ≤ n → IsTorn n whole tape → IsTorn m whole tape
torn_lower m n whole tape le torn = record { count = torn.count; low = omega (arith, le, torn.low); high = torn.high; is = torn.is }

torn_whole : (whole tape : List Record) → IsTorn (length whole) whole tape → tape ≡ whole
torn_whole whole tape torn = ⊎_elim
    (λ is. is ∙ take_all torn.count whole torn.low)
    (λ cut. let no = cut.0 in absurd (omega (arith, no, torn.low)))
    torn.is

-- the image before: one tape with its settled records alone, all else as in a given image
abbrev before_at : State → ℕ → Stock → Stock
before_at s k c = record { log = c.log; tape = λ j. if j == k then take (s.settled j) (s.tape j) else c.tape j; told = c.told }

before_torn : (s : State) (k : ℕ) (c : Stock) → IsWithin s → (j : ℕ) → (j ≢ k → IsTorn (s.settled j) (s.tape j) (c.tape j)) → IsTorn (s.settled j) (s.tape j) (if j == k then take (s.settled j) (s.tape j) else c.tape j)
before_torn s k c w j torn = elim (cases_eq j k) [
  | inl same ↦ record { count = s.settled j; low = omega arith; high = w.tapes j; is = inl (if_here j k (take (s.settled j) (s.tape j)) (c.tape j) same) }
  | inr other ↦ subst (λ (l : List Record). IsTorn (s.settled j) (s.tape j) l) (sym (if_other j k (take (s.settled j) (s.tape j)) (c.tape j) other)) (torn other)
]

before_step : (s : State) (k : ℕ) (c : Stock) (Is : List Record → Type 0) → Is (c.tape k) → AtTape k Is (before_at s k c) c
before_step s k c Is is = record {
  here = is;
  others = λ j other. sym (if_other j k (take (s.settled j) (s.tape j)) (c.tape j) other);
  log = refl;
  told = refl;
}

-- one tape may have changed so
at_tape : (old : MemPlant) (k : ℕ) (c : Stock) (Is : List Record → Type 0) → c.log ≡ Some (take (state_of old).log_settled (state_of old).log) → IsFront c.told (state_of old).told
    → ((j : ℕ) → j ≢ k → IsTorn ((state_of old).settled j) ((state_of old).tape j) (c.tape j)) → Is (c.tape k) → Stepped (history events_of IsLeft) old (AtTape k Is) c
at_tape old k c Is log told torn is =
    let s = state_of old in
    record {
      from = before_at s k c;
      was = record { log = log; tapes = λ j. before_torn s k c (always_within (events_of old)) j (torn j); told = told };
      step = before_step s k c Is is;
    }

left_after : (es : List Event) (e : Event) (c : Stock) → IsLeft (es ++ e ∷ []) c → LeftIn (happens e (after es blank)) c
left_after es e c left = subst (λ (s : State). LeftIn s c) (after-push es e blank) left

-- nothing was asked
pub same_leads : (old new : MemPlant) (Step : Stock → Stock → Type 0) → events_of new ≡ events_of old → ((c : Stock) → LeftIn (state_of old) c → Step c c) → Leads (history events_of IsLeft) old new Step
same_leads old new Step same stays =
    let leads = same_events events_of IsLeft old new same in
    record {
      later = leads.later;
      now = λ c left. let was = subst (λ (es : List Event). IsLeft es c) same left in record { from = c; was = was; step = stays c was };
      since = λ t c le left. inl (subst (λ (es : List Event). AtSome es IsLeft t c) same left);
      keeps = leads.keeps;
    }

-- a record is put
put_image : (old : MemPlant) (k : ℕ) (r : Record) (c : Stock) (s : State) → s ≡ state_of old → c.log ≡ Some (take s.log_settled s.log) → IsFront c.told s.told
    → ((j : ℕ) → IsTorn (s.settled j) (if j == k then s.tape j ++ r ∷ [] else s.tape j) (c.tape j))
    → Stepped (history events_of IsLeft) old (MayGain r k (state_of old)) c
put_image old k r c s is log told torn =
    let t = state_of old in
    at_tape old k c (IsTorn ((state_of old).settled k) ((state_of old).tape k ++ r ∷ []))
    (subst (λ (s : State). c.log ≡ Some (take s.log_settled s.log)) is log)
    (subst (λ (s : State). IsFront c.told s.told) is told)
    (λ j other. subst (λ (l : List Record). IsTorn (t.settled j) l (c.tape j)) (if_other j k (t.tape j ++ r ∷ []) (t.tape j) other) (moved j))
    (subst (λ (l : List Record). IsTorn (t.settled k) l (c.tape k)) (if_here k k (t.tape k ++ r ∷ []) (t.tape k) refl) (moved k))
  where
    moved : (j : ℕ) → IsTorn ((state_of old).settled j) (if j == k then (state_of old).tape j ++ r ∷ [] else (state_of old).tape j) (c.tape j)
    moved j = subst (λ (s : State). IsTorn (s.settled j) (if j == k then s.tape j ++ r ∷ [] else s.tape j) (c.tape j)) is (torn j)

pub put_leads : (old new : MemPlant) (k : ℕ) (r : Record) → GainsPut (events_of old) (events_of new) k r → Leads (history events_of IsLeft) old new (MayGain r k (state_of old))
put_leads old new k r gains = one_event events_of IsLeft old new (Put k gains.kept) (MayGain r k (state_of old)) gains.more (λ c left.
    let l = left_after (events_of old) (Put k gains.kept) c left in
    let s = state_of old in
    put_image old k r c s refl l.log l.told (λ j. subst (λ (x : Record). IsTorn (s.settled j) (if j == k then s.tape j ++ x ∷ [] else s.tape j) (c.tape j)) gains.is (l.tapes j)))

-- while a record is put, nothing was asked
pub put_stays : (old new : MemPlant) (k : ℕ) (r : Record) → events_of new ≡ events_of old → Leads (history events_of IsLeft) old new (MayGain r k (state_of old))
put_stays old new k r same = same_leads old new (MayGain r k (state_of old)) same (λ c left. record {
  here = torn_more ((state_of old).settled k) ((state_of old).tape k) r (c.tape k) (left.tapes k);
  others = λ j other. refl;
  log = refl;
  told = refl;
})

-- two events more
module _ {D E I : Type 0} (events : D → List E) (is_left : List E → I → Type 0) where
  pub two_events : (old new : D) (e f : E) (Step : I → I → Type 0) → events new ≡ events old ++ e ∷ [] ++ f ∷ []
      → ((c : I) → is_left (events old ++ e ∷ []) c → Stepped (history events is_left) old Step c)
      → ((c : I) → is_left (events old ++ e ∷ [] ++ f ∷ []) c → Stepped (history events is_left) old Step c)
      → Leads (history events is_left) old new Step
  two_events old new e f Step more first second = record {
    later = omega (arith, ap length more, sizes);
    now = λ c left. second c (subst (λ (es : List E). is_left es c) more left);
    since = λ t c le left. split t c (subst (λ (es : List E). AtSome es is_left t c) more left);
    keeps = λ t c le left. subst (λ (es : List E). AtSome es is_left t c) (sym more) (record {
      at = left.at;
      from = left.from;
      to = omega (arith, left.to, sizes);
      left = subst (λ (es : List E). is_left es c) (sym (take-append-le left.at (events old ++ e ∷ []) (f ∷ []) (omega (arith, left.to, size)) ∙ take-append-le left.at (events old) (e ∷ []) left.to)) left.left;
    });
  }
    where
      size : length (events old ++ e ∷ []) ≡ length (events old) + 1
      size = omega (arith, length-append (events old) (e ∷ []))

      sizes : length (events old ++ e ∷ [] ++ f ∷ []) ≡ length (events old) + 2
      sizes = omega (arith, size, length-append (events old ++ e ∷ []) (f ∷ []))

      split : (t : ℕ) (c : I) → AtSome (events old ++ e ∷ [] ++ f ∷ []) is_left t c → AtSome (events old) is_left t c ⊎ Stepped (history events is_left) old Step c
      split t c some = elim (cases_lt (length (events old)) some.at) [
        | inr early ↦ inl (record {
          at = some.at;
          from = some.from;
          to = early;
          left = subst (λ (es : List E). is_left es c)
              (take-append-le some.at (events old ++ e ∷ []) (f ∷ []) (omega (arith, early, size)) ∙ take-append-le some.at (events old) (e ∷ []) early) some.left;
        })
        | inl late ↦ elim (cases_lt (length (events old) + 1) some.at) [
          | inl both ↦ inr (second c (subst (λ (es : List E). is_left es c) (take_all some.at (events old ++ e ∷ [] ++ f ∷ []) (omega (arith, both, sizes))) some.left))
          | inr one ↦ inr (first c (subst (λ (es : List E). is_left es c)
              (take-append-le some.at (events old ++ e ∷ []) (f ∷ []) (omega (arith, one, size)) ∙ take_all some.at (events old ++ e ∷ []) (omega (arith, late, size))) some.left))
        ]
      ]

-- a tape may be settled
lower_where : (here : Bool) (n : ℕ) (whole tape : List Record) → n ≤ length whole → IsTorn (if here then length whole else n) whole tape → IsTorn n whole tape
lower_where true n whole tape le torn = torn_lower n (length whole) whole tape le torn
lower_where false n whole tape le torn = torn

-- a mark is put, and then the tape is settled
pub mark_leads : (old new : MemPlant) (k : ℕ) → events_of new ≡ events_of old ++ Put k Mark ∷ [] ++ Settle k ∷ [] → Leads (history events_of IsLeft) old new (MayGain mark k (state_of old))
mark_leads old new k more = two_events events_of IsLeft old new (Put k Mark) (Settle k) (MayGain mark k (state_of old)) more
    (λ c left. let l = left_after (events_of old) (Put k Mark) c left in put_image old k mark c (state_of old) refl l.log l.told l.tapes)
    (λ c left.
    let s = state_of old in
    let w = always_within (events_of old) in
    let l = subst (λ (t : State). LeftIn t c) (after-push (events_of old ++ Put k Mark ∷ []) (Settle k) blank ∙ ap (happens (Settle k)) (after-push (events_of old) (Put k Mark) blank)) left in
    put_image old k mark c s refl l.log l.told (λ j.
    lower_where (j == k) (s.settled j) (if j == k then s.tape j ++ mark ∷ [] else s.tape j) (c.tape j) (put_within (j == k) (s.settled j) (s.tape j) mark (w.tapes j)) (l.tapes j)))

-- a tape is cut
pub cut_leads : (old new : MemPlant) (k n : ℕ) → events_of new ≡ events_of old ++ Cut k n ∷ [] → Leads (history events_of IsLeft) old new (MayKeep n k (state_of old))
cut_leads old new k n more = one_event events_of IsLeft old new (Cut k n) (MayKeep n k (state_of old)) more (λ c left.
    let s = state_of old in
    let l = left_after (events_of old) (Cut k n) c left in
    at_tape old k c (λ tape. IsTorn ((state_of old).settled k) ((state_of old).tape k) tape ⊎ (tape ≡ take n ((state_of old).tape k))) l.log l.told
    (λ j other. subst (λ (m : ℕ). IsTorn m (s.tape j) (c.tape j)) (if_other j k (length (take n (s.tape j))) (s.settled j) other)
    (subst (λ (t : List Record). IsTorn (if j == k then length (take n (s.tape j)) else s.settled j) t (c.tape j)) (if_other j k (take n (s.tape j)) (s.tape j) other) (l.tapes j)))
    (inr (torn_whole (take n (s.tape k)) (c.tape k) (subst (λ (m : ℕ). IsTorn m (take n (s.tape k)) (c.tape k)) (if_here k k (length (take n (s.tape k))) (s.settled k) refl)
    (subst (λ (t : List Record). IsTorn (if k == k then length (take n (s.tape k)) else s.settled k) t (c.tape k)) (if_here k k (take n (s.tape k)) (s.tape k) refl) (l.tapes k))))))

pub cut_stays : (old new : MemPlant) (k n : ℕ) → events_of new ≡ events_of old → Leads (history events_of IsLeft) old new (MayKeep n k (state_of old))
cut_stays old new k n same = same_leads old new (MayKeep n k (state_of old)) same (λ c left. record { here = inl (left.tapes k); others = λ j other. refl; log = refl; told = refl })

-- another tape is loaded
pub same_slot : (loaded : Option ℕ) (j k : ℕ) → loaded ≡ Some k → loaded ≡ Some j → j ≡ k
same_slot loaded j k is is' = let e : Some j ≡ Some k = sym is' ∙ is in cc

settle_leads : (old new : MemPlant) (loaded : Option ℕ) (k slot : ℕ) → loaded ≡ Some k → k ≢ slot → events_of new ≡ events_of old ++ Settle k ∷ []
    → Leads (history events_of IsLeft) old new (MaySettle loaded slot (state_of old))
settle_leads old new loaded k slot is ne more = one_event events_of IsLeft old new (Settle k) (MaySettle loaded slot (state_of old)) more (λ c left.
    let s = state_of old in
    let w = always_within (events_of old) in
    let l = left_after (events_of old) (Settle k) c left in
    let torn : (j : ℕ) → IsTorn (s.settled j) (s.tape j) (c.tape j) = λ j. lower_where (j == k) (s.settled j) (s.tape j) (c.tape j) (w.tapes j) (l.tapes j) in
    record {
      from = before_at s k c;
      was = record { log = l.log; tapes = λ j. before_torn s k c w j (λ other. torn j); told = l.told };
      step = record {
        away = λ j away. torn j;
        others = λ j not_away. sym (if_other j k (take (s.settled j) (s.tape j)) (c.tape j) (λ same. not_away (is ∙ ap (λ (i : ℕ). Some i) (sym same), λ slot_is. ne (sym same ∙ slot_is))));
        log = refl;
        told = refl;
      };
    })

settle_stays : (old new : MemPlant) (loaded : Option ℕ) (slot : ℕ) → events_of new ≡ events_of old → Leads (history events_of IsLeft) old new (MaySettle loaded slot (state_of old))
settle_stays old new loaded slot same = same_leads old new (MaySettle loaded slot (state_of old)) same (λ c left. record { away = λ j away. left.tapes j; others = λ j not_away. refl; log = refl; told = refl })

pub settles_leads : (old new : MemPlant) (loaded : Option ℕ) (k slot : ℕ) → loaded ≡ Some k → k ≢ slot → (events_of new ≡ events_of old) ⊎ (events_of new ≡ events_of old ++ Settle k ∷ [])
    → Leads (history events_of IsLeft) old new (MaySettle loaded slot (state_of old))
settles_leads old new loaded k slot is ne (inl same) = settle_stays old new loaded slot same
settles_leads old new loaded k slot is ne (inr more) = settle_leads old new loaded k slot is ne more

-- bytes are put on the log
pub log_put_leads : (old new : MemPlant) (bytes : List ℕ) → GainsBytes LogPut (events_of old) (events_of new) bytes → Leads (history events_of IsLeft) old new Same
log_put_leads old new bytes gains = one_event events_of IsLeft old new (LogPut gains.kept) Same gains.more (λ c left.
    let s = state_of old in
    let w = always_within (events_of old) in
    let l = left_after (events_of old) (LogPut gains.kept) c left in
    record {
      from = c;
      was = record { log = l.log ∙ ap (λ (x : List ℕ). Some x) (take-append-le s.log_settled s.log gains.kept.items w.log); tapes = l.tapes; told = l.told };
      step = refl;
    })

pub same_stays : (old new : MemPlant) → events_of new ≡ events_of old → Leads (history events_of IsLeft) old new Same
same_stays old new same = same_leads old new Same same (λ c left. refl)

-- the log is settled or replaced
new_log : (old : MemPlant) (log : List ℕ) (c : Stock) → c.log ≡ Some log → ((j : ℕ) → IsTorn ((state_of old).settled j) ((state_of old).tape j) (c.tape j)) → IsFront c.told (state_of old).told
    → Stepped (history events_of IsLeft) old (OldOr log) c
new_log old log c is tapes told =
    let s = state_of old in
    record {
      from = record { log = Some (take s.log_settled s.log); tape = c.tape; told = c.told };
      was = record { log = refl; tapes = tapes; told = told };
      step = record { here = inr is; tapes = λ k. refl; told = refl };
    }

pub commit_leads : (old new : MemPlant) → events_of new ≡ events_of old ++ LogCommit ∷ [] → Leads (history events_of IsLeft) old new (OldOr (state_of old).log)
commit_leads old new more = one_event events_of IsLeft old new LogCommit (OldOr (state_of old).log) more (λ c left.
    let s = state_of old in
    let l = left_after (events_of old) LogCommit c left in
    new_log old s.log c (l.log ∙ ap (λ (x : List ℕ). Some x) (take_all (length s.log) s.log (omega arith))) l.tapes l.told)

pub replace_leads : (old new : MemPlant) (bytes : List ℕ) → GainsBytes LogReplace (events_of old) (events_of new) bytes → Leads (history events_of IsLeft) old new (OldOr bytes)
replace_leads old new bytes gains = one_event events_of IsLeft old new (LogReplace gains.kept) (OldOr bytes) gains.more (λ c left.
    let l = left_after (events_of old) (LogReplace gains.kept) c left in
    new_log old bytes c (l.log ∙ ap (λ (x : List ℕ). Some x) (take_all (length gains.kept.items) gains.kept.items (omega arith) ∙ gains.is)) l.tapes l.told)

pub log_stays : (old new : MemPlant) (log : List ℕ) → events_of new ≡ events_of old → Leads (history events_of IsLeft) old new (OldOr log)
log_stays old new log same = same_leads old new (OldOr log) same (λ c left. record { here = inl refl; tapes = λ k. refl; told = refl })

-- bytes are told
front_more : (front whole more : List ℕ) → IsFront front whole → IsFront front (whole ++ more)
front_more front whole more (n, is) = elim (cases_lt (length whole) n) [
  | inl past ↦ (length whole, is ∙ take_all n whole (omega (arith, past)) ∙ sym (take_all (length whole) whole (omega arith)) ∙ sym (take-append-le (length whole) whole more (omega arith)))
  | inr within ↦ (n, is ∙ sym (take-append-le n whole more within))
]

pub tell_leads : (old new : MemPlant) (piece shown : List ℕ) → shown ≡ piece → GainsBytes Tell (events_of old) (events_of new) piece → Leads (history events_of IsLeft) old new (TellsTo ((state_of old).told ++ shown))
tell_leads old new piece shown same gains = one_event events_of IsLeft old new (Tell gains.kept) (TellsTo ((state_of old).told ++ shown)) gains.more (λ c left.
    let s = state_of old in
    let l = left_after (events_of old) (Tell gains.kept) c left in
    further c l.log l.tapes (l.told.0, l.told.1 ∙ ap (λ (x : List ℕ). take l.told.0 (s.told ++ x)) (gains.is ∙ sym same)))
  where
    further : (c : Stock) → c.log ≡ Some (take (state_of old).log_settled (state_of old).log) → ((j : ℕ) → IsTorn ((state_of old).settled j) ((state_of old).tape j) (c.tape j))
        → IsFront c.told ((state_of old).told ++ shown) → Stepped (history events_of IsLeft) old (TellsTo ((state_of old).told ++ shown)) c
    further c log tapes (n, is) =
        let s = state_of old in
        elim (cases_lt (length s.told) n) [
          | inr early ↦ record {
            from = c;
            was = record { log = log; tapes = tapes; told = (n, is ∙ take-append-le n s.told shown early) };
            step = record { front = (n, is); grows = ([], sym (append-nil c.told)); tapes = λ k. refl; log = refl };
          }
          | inl late ↦
              let sum : length s.told + (n - length s.told) ≡ n = omega (arith, late) in
              record {
                from = record { log = c.log; tape = c.tape; told = s.told };
                was = record { log = log; tapes = tapes; told = (length s.told, sym (take_all (length s.told) s.told (omega arith))) };
                step = record {
                  front = (n, is);
                  grows = (take (n - length s.told) shown, is ∙ ap (λ (m : ℕ). take m (s.told ++ shown)) (sym sum) ∙ take-append-add s.told shown (n - length s.told));
                  tapes = λ k. refl;
                  log = refl;
                };
              }
        ]

pub tell_stays : (old new : MemPlant) (piece : List ℕ) → events_of new ≡ events_of old → Leads (history events_of IsLeft) old new (TellsTo ((state_of old).told ++ piece))
tell_stays old new piece same = same_leads old new (TellsTo ((state_of old).told ++ piece)) same (λ c left. record {
  front = front_more c.told (state_of old).told piece left.told;
  grows = ([], sym (append-nil c.told));
  tapes = λ k. refl;
  log = refl;
})
