-- What a plant in memory keeps of its tapes and its log while events are added.
use Rattle.std.proofs.Common.{◌≡◌, ◌≢◌, inl, inr, ℕ, ◌+◌, ◌<◌, ◌≤◌, ◌==◌, if◌then◌else◌, List, [], ◌∷◌, ◌++◌, length, take, Option, Some, None, Vec, refl, sym, ◌∙◌, ap, subst, arith, length-append}
use Rattle.std.specs.declared.alloc.Global.{Global}
use Rattle.std.proofs.lemmas.Bool.{cases_eq}
use Rattle.std.proofs.lemmas.List.{length-take}
use Rattle.plant_core.specs.declared.event.Event.{Event}
use Rattle.plant_core.specs.declared.event.Event.TheVariants.{Put, Settle, Cut, LogPut, LogCommit, LogReplace, Tell}
use Rattle.plant_core.specs.declared.stored.Stored.{Stored}
use Rattle.plant_core.specs.Records.{Record}
use Rattle.plant_core.specs.Tapes.{record_of, records_at}
use Rattle.plant_core.specs.Crashes.{State, Alike, blank}
use Rattle.plant_core.specs.Effects.{Effect, puts, settles, cuts, replaces, tells, comes, come, log_with, log_kept, putting_away}
use Rattle.plant_core.specs.Past.{after, GainsBytes}
use Rattle.plant_core.specs.Shown.{count_at}
use Rattle.plant_core.proofs.Leading.{state_push, if_here, if_other, same_slot}

abbrev Tapes : Type 0
Tapes = List (Vec Stored Global)

pub alike_is : (s t : State) → t ≡ s → Alike s t
alike_is s t same = record { log = ap (λ (x : State). x.log) same; tape = λ k. ap (λ (x : State). x.tape k) same; told = ap (λ (x : State). x.told) same; log_settled = ap (λ (x : State). x.log_settled) same; settled = λ k. ap (λ (x : State). x.settled k) same }

-- the state by what was asked
module _ (past past' : List Event) where
  pub put_state : (k : ℕ) (stored : Stored) (r : Record) → record_of stored ≡ r → past' ≡ past ++ Put k stored ∷ [] → Alike (comes (puts k r) (after past blank)) (after past' blank)
  put_state k stored r is more = alike_is (comes (puts k r) (after past blank)) (after past' blank) (state_push past past' (Put k stored) more ∙ ap (λ (x : Record). comes (puts k x) (after past blank)) is)

  pub settle_state : (k : ℕ) → past' ≡ past ++ Settle k ∷ [] → Alike (comes (settles k) (after past blank)) (after past' blank)
  settle_state k more = alike_is (comes (settles k) (after past blank)) (after past' blank) (state_push past past' (Settle k) more)

  pub cut_state : (k n : ℕ) → past' ≡ past ++ Cut k n ∷ [] → Alike (comes (cuts k n) (after past blank)) (after past' blank)
  cut_state k n more = alike_is (comes (cuts k n) (after past blank)) (after past' blank) (state_push past past' (Cut k n) more)

  pub log_put_state : (bytes : List ℕ) → GainsBytes LogPut past past' bytes → Alike (log_with bytes (after past blank)) (after past' blank)
  log_put_state bytes gains = alike_is (log_with bytes (after past blank)) (after past' blank) (state_push past past' (LogPut gains.kept) gains.more ∙ ap (λ (l : List ℕ). log_with l (after past blank)) gains.is)

  pub log_commit_state : past' ≡ past ++ LogCommit ∷ [] → Alike (log_kept (after past blank)) (after past' blank)
  log_commit_state more = alike_is (log_kept (after past blank)) (after past' blank) (state_push past past' LogCommit more)

  pub log_replace_state : (bytes : List ℕ) → GainsBytes LogReplace past past' bytes → Alike (comes (replaces bytes) (after past blank)) (after past' blank)
  log_replace_state bytes gains = alike_is (comes (replaces bytes) (after past blank)) (after past' blank) (state_push past past' (LogReplace gains.kept) gains.more ∙ ap (λ (l : List ℕ). comes (replaces l) (after past blank)) gains.is)

  pub tell_state : (bytes shown : List ℕ) → shown ≡ bytes → GainsBytes Tell past past' bytes → Alike (comes (tells shown) (after past blank)) (after past' blank)
  tell_state bytes shown same gains = alike_is (comes (tells shown) (after past blank)) (after past' blank) (state_push past past' (Tell gains.kept) gains.more ∙ ap (λ (l : List ℕ). comes (tells l) (after past blank)) (gains.is ∙ sym same))

-- a record put, and then the tape settled
pub mark_past : (past mid past' : List Event) (k : ℕ) (stored : Stored) → mid ≡ past ++ Put k stored ∷ [] → past' ≡ mid ++ Settle k ∷ [] → past' ≡ past ++ Put k stored ∷ [] ++ Settle k ∷ []
mark_past past mid past' k stored first second = second ∙ ap (λ (es : List Event). es ++ Settle k ∷ []) first

pub mark_state : (past mid past' : List Event) (k : ℕ) (stored : Stored) (r : Record) → record_of stored ≡ r → mid ≡ past ++ Put k stored ∷ [] → past' ≡ mid ++ Settle k ∷ [] → Alike (come (puts k r ∷ settles k ∷ []) (after past blank)) (after past' blank)
mark_state past mid past' k stored r is first second = alike_is (comes (settles k) (comes (puts k r) (after past blank))) (after past' blank)
    (state_push mid past' (Settle k) second ∙ ap (comes (settles k)) (state_push past mid (Put k stored) first ∙ ap (λ (x : Record). comes (puts k x) (after past blank)) is))

-- a load that puts a tape away
pub load_state : (past past' : List Event) (loaded : Option ℕ) (k slot : ℕ) → loaded ≡ Some k → k ≢ slot → past' ≡ past ++ Settle k ∷ [] → Alike (come (putting_away loaded slot) (after past blank)) (after past' blank)
load_state past past' loaded k slot is ne more = subst (λ (es : List Effect). Alike (come es (after past blank)) (after past' blank)) (sym (ap (λ (l : Option ℕ). putting_away l slot) is ∙ if_other k slot [] (settles k ∷ []) ne)) (settle_state past past' k more)

pub load_again : (past : List Event) (loaded : Option ℕ) (slot : ℕ) → loaded ≡ Some slot → Alike (come (putting_away loaded slot) (after past blank)) (after past blank)
load_again past loaded slot is = subst (λ (es : List Effect). Alike (come es (after past blank)) (after past blank)) (sym (ap (λ (l : Option ℕ). putting_away l slot) is ∙ if_here slot slot [] (settles slot ∷ []) refl)) (alike_is (after past blank) (after past blank) refl)

pub load_first : (past : List Event) (loaded : Option ℕ) (slot : ℕ) → loaded ≡ None → Alike (come (putting_away loaded slot) (after past blank)) (after past blank)
load_first past loaded slot is = subst (λ (es : List Effect). Alike (come es (after past blank)) (after past blank)) (sym (ap (λ (l : Option ℕ). putting_away l slot) is)) (alike_is (after past blank) (after past blank) refl)

-- what is kept where one tape becomes this
module _ (k : ℕ) (f : List Record → List Record) (s t : State) (tapes : (j : ℕ) → t.tape j ≡ (if j == k then f (s.tape j) else s.tape j)) where
  pub tapes_follow : (ts ts' : Tapes) → ((j : ℕ) → records_at ts j ≡ s.tape j) → ((j : ℕ) → records_at ts' j ≡ (if j == k then f (records_at ts j) else records_at ts j)) → (j : ℕ) → records_at ts' j ≡ t.tape j
  tapes_follow ts ts' shown changed j = changed j ∙ ap (λ (l : List Record). if j == k then f l else l) (shown j) ∙ sym (tapes j)

  pub others_follow : ((j : ℕ) → j ≢ k → t.settled j ≡ s.settled j) → (loaded : Option ℕ) → loaded ≡ Some k → ((j : ℕ) → loaded ≢ Some j → s.settled j ≡ length (s.tape j)) → (j : ℕ) → loaded ≢ Some j → t.settled j ≡ length (t.tape j)
  others_follow settled loaded is others j not_loaded =
      let other : j ≢ k = λ same. not_loaded (is ∙ ap (λ (i : ℕ). Some i) (sym same)) in
      settled j other ∙ others j not_loaded ∙ ap length (sym (tapes j ∙ if_other j k (f (s.tape j)) (s.tape j) other))

pub short_follow : (k : ℕ) (f : List Record → List Record) (ts ts' : Tapes) → ((j : ℕ) → length (records_at ts j) ≤ 524288) → ((j : ℕ) → records_at ts' j ≡ (if j == k then f (records_at ts j) else records_at ts j))
    → length (f (records_at ts k)) ≤ 524288 → (j : ℕ) → length (records_at ts' j) ≤ 524288
short_follow k f ts ts' short changed fits j = elim (cases_eq j k) [
  | inl same ↦
      let is : records_at ts' j ≡ f (records_at ts k) = changed j ∙ if_here j k (f (records_at ts j)) (records_at ts j) same ∙ ap (λ (i : ℕ). f (records_at ts i)) same in
      omega (arith, ap length is, fits)
  | inr other ↦ omega (arith, ap length (changed j ∙ if_other j k (f (records_at ts j)) (records_at ts j) other), short j)
]

pub one_longer : (r : Record) (ts : Tapes) (k : ℕ) (tape : List Record) → records_at ts k ≡ tape → length tape < 524288 → length (records_at ts k ++ r ∷ []) ≤ 524288
one_longer r ts k tape shown room = omega (arith, ap length shown, room, length-append (records_at ts k) (r ∷ []))

pub cut_short : (n : ℕ) (ts : Tapes) (k : ℕ) → length (records_at ts k) ≤ 524288 → length (take n (records_at ts k)) ≤ 524288
cut_short n ts k short = omega (arith, short, length-take n (records_at ts k))

-- how many records the loaded tape has then
pub count_same : (loaded : Option ℕ) (s t : State) → ((k : ℕ) → t.tape k ≡ s.tape k) → count_at loaded t ≡ count_at loaded s
count_same None s t same = refl
count_same (Some k) s t same = ap length (same k)

pub put_count : (k : ℕ) (r : Record) (s t : State) → t.tape k ≡ (comes (puts k r) s).tape k → length (t.tape k) ≡ length (s.tape k) + 1
put_count k r s t same = ap length (same ∙ if_here k k (s.tape k ++ r ∷ []) (s.tape k) refl) ∙ length-append (s.tape k) (r ∷ [])

pub cut_count : (k n : ℕ) (s t : State) → n ≤ length (s.tape k) → Alike (comes (cuts k n) s) t → length (t.tape k) ≡ n
cut_count k n s t within alike = ap length (alike.tape k ∙ if_here k k (take n (s.tape k)) (s.tape k) refl) ∙ omega (arith, within, length-take n (s.tape k))

pub settle_all : (past past' : List Event) (loaded : Option ℕ) (k : ℕ) → loaded ≡ Some k → past' ≡ past ++ Settle k ∷ []
    → ((j : ℕ) → loaded ≢ Some j → (after past blank).settled j ≡ length ((after past blank).tape j))
    → (j : ℕ) → (after past' blank).settled j ≡ length ((after past' blank).tape j)
settle_all past past' loaded k is more others j =
    let s = after past blank in
    let now : (if j == k then length (s.tape j) else s.settled j) ≡ length (s.tape j) = elim (cases_eq j k) [
      | inl same ↦ if_here j k (length (s.tape j)) (s.settled j) same
      | inr other ↦ if_other j k (length (s.tape j)) (s.settled j) other ∙ others j (λ was. other (same_slot loaded j k is was))
    ] in
    subst (λ (t : State). t.settled j ≡ length (t.tape j)) (sym (state_push past past' (Settle k) more)) now
