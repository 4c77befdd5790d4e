-- Dumps in order of their numbers, one of which had a turn.
use Rattle.std.proofs.Common.{zero, suc, ◌≡◌, ◌≢◌, ◌⊎◌, ℕ, ◌+◌, ◌<◌, ◌≤◌, Bool, true, false, List, [], ◌∷◌, ◌++◌, length, get_or, take, drop, inl, inr, refl, sym, ap, subst, ◌∙◌, arith}
use Rattle.std.specs.Prelude.{Option, Some, None, is_some, slice_get, slice_set, All, IsTrue, Result, Ok, Err, OnOk, OnErr}
use Rattle.std.proofs.lemmas.List.{append-nil, take_all, take-append-le}
use Rattle.std.proofs.lemmas.Option.{slice_get-get_or}
use Rattle.plant_core.specs.declared.plant.Plant.{Ghosts as Plant}
use Rattle.plant_core.specs.Crashes.{State}
use Rattle.plant_effects.specs.Runs.{state_of, Leaves}
use Rattle.plant_effects.proofs.Joining.{Fits, nothing_left}
use Rattle.cell_core.specs.declared.stored.Stored.{Stored}
use Rattle.cell_core.specs.declared.cell.Cell.{Ghosts as Cell}
use Rattle.cell_core.specs.Calls.{is_good}
use Rattle.tape_config.specs.declared.port.PortFields.{PortFields}
use Rattle.tape_config.specs.Ports.{IsAmong, AreApart}
use Rattle.budb_changes.specs.declared.change.Change.{Change}
use Rattle.budb.specs.Views.{BudbView}
use Rattle.budb.specs.Kept.{Keeps}
use Rattle.dump_job.specs.declared.fields.JobFields.{JobFields}
use Rattle.dump_job.specs.Elsewhere.{IsOnPort, LeavesOthers, LeavesTapes}
use Rattle.dump_job.specs.Jobs.{FitsJob, HasPlaces}
use Rattle.dump_job.specs.Left.{left_of}
use Rattle.dump_courses.specs.Scenes.{Scene}
use Rattle.dump_courses.specs.Ahead.{DoneAhead}
use Rattle.dump_courses.proofs.Ahead.{standing_ahead}
use Rattle.job_pool.specs.declared.ends.JobEnd.{JobEnd}
use Rattle.job_pool.specs.declared.jobs.PoolJob.{PoolJob}
use Rattle.job_pool.specs.declared.turn.Turn.{Turn}
use Rattle.job_pool.specs.declared.turn.Turn.TheVariants.{Step, Kill}
use Rattle.job_pool.specs.Pools.{PoolPoint, PoolEvent, with_job, nothing_done, step_event, kill_event, unless_ended, step_at, kill_at, turn_event, behind}
use Rattle.job_pool.specs.Schedules.{number_of}
use Rattle.job_pool.specs.PoolCourses.{turns_for}
use Rattle.job_pool.specs.Pooled.{FitsOne, FitsPool, HasAllPlaces, HasTurned, IsOfNone, StandsThere, IsAtPool, IsTurned, work_left}

-- ---- lists

pub with_get : (n : ℕ) (q : PoolJob) (jobs : List PoolJob) (k : ℕ) (r : PoolJob) → slice_get (with_job n q jobs) k ≡ Some r → ((k ≡ n) × (q ≡ r)) ⊎ ((k ≡ n → ⊥) × (slice_get jobs k ≡ Some r))
with_get n q [] k r at = absurd (cc)
with_get zero q (x ∷ jobs) zero r at = (let same : q ≡ r = cc in inl (refl, same))
with_get zero q (x ∷ jobs) (suc k) r at = inr ((λ same. absurd (omega (arith, same))), at)
with_get (suc n) q (x ∷ jobs) zero r at = inr ((λ same. absurd (omega (arith, same))), at)
with_get (suc n) q (x ∷ jobs) (suc k) r at = elim (with_get n q jobs k r at) [
  | inl here ↦ inl (omega (arith, here.0), here.1)
  | inr other ↦ inr ((λ same. other.0 (omega (arith, same))), other.1)
]

pub get_with : (n : ℕ) (q : PoolJob) (jobs : List PoolJob) (k : ℕ) (r : PoolJob) → (k ≡ n → ⊥) → slice_get jobs k ≡ Some r → slice_get (with_job n q jobs) k ≡ Some r
get_with n q [] k r other at = absurd (cc)
get_with zero q (x ∷ jobs) zero r other at = absurd (other refl)
get_with zero q (x ∷ jobs) (suc k) r other at = at
get_with (suc n) q (x ∷ jobs) zero r other at = at
get_with (suc n) q (x ∷ jobs) (suc k) r other at = get_with n q jobs k r (λ same. other (omega (arith, same))) at

pub get_own : (n : ℕ) (q old : PoolJob) (jobs : List PoolJob) → slice_get jobs n ≡ Some old → slice_get (with_job n q jobs) n ≡ Some q
get_own n q old [] at = absurd (cc)
get_own zero q old (x ∷ jobs) at = refl
get_own (suc n) q old (x ∷ jobs) at = get_own n q old jobs at

-- the others are as they were
pub get_other : (n : ℕ) (q : PoolJob) (jobs : List PoolJob) (k : ℕ) → (k ≡ n → ⊥) → slice_get (with_job n q jobs) k ≡ slice_get jobs k
get_other n q [] k other = refl
get_other zero q (x ∷ jobs) zero other = absurd (other refl)
get_other zero q (x ∷ jobs) (suc k) other = refl
get_other (suc n) q (x ∷ jobs) zero other = refl
get_other (suc n) q (x ∷ jobs) (suc k) other = get_other n q jobs k (λ same. other (omega (arith, same)))

pub set_with : (n : ℕ) (q : PoolJob) (jobs : List PoolJob) → slice_set jobs n q ≡ with_job n q jobs
set_with n q [] = refl
set_with zero q (x ∷ jobs) = refl
set_with (suc n) q (x ∷ jobs) = ap (λ (l : List PoolJob). x ∷ l) (set_with n q jobs)

pub with_same : (n : ℕ) (q : PoolJob) (jobs : List PoolJob) → slice_get jobs n ≡ Some q → with_job n q jobs ≡ jobs
with_same n q [] at = refl
with_same zero q (x ∷ jobs) at = (let same : x ≡ q = cc in ap (λ (y : PoolJob). y ∷ jobs) (sym same))
with_same (suc n) q (x ∷ jobs) at = ap (λ (l : List PoolJob). x ∷ l) (with_same n q jobs at)

pub with_length : (n : ℕ) (q : PoolJob) (jobs : List PoolJob) → length (with_job n q jobs) ≡ length jobs
with_length n q [] = refl
with_length zero q (x ∷ jobs) = refl
with_length (suc n) q (x ∷ jobs) = ap suc (with_length n q jobs)

pub get_within : (jobs : List PoolJob) (n : ℕ) (q : PoolJob) → slice_get jobs n ≡ Some q → n < length jobs
get_within [] n q at = absurd (cc)
get_within (x ∷ jobs) zero q at = omega arith
get_within (x ∷ jobs) (suc n) q at = (let rest = get_within jobs n q at in omega (arith, rest))

-- what follows from what is so at `Ok`
pub on_ok : {T E : Type 0} (r : Result T E) (Q R : Type 0) → (Q → R) → OnOk r Q → OnOk r R
on_ok (Ok x) Q R then is = then is
on_ok (Err e) Q R then is = tt

-- where no other error comes
pub unless_failed : {T E : Type 0} (one : E) (r : Result T E) (Q : Type 0) → OnOk r Q → OnErr r (r ≡ Err one) → r ≢ Err one → Q
unless_failed one (Ok x) Q well is other = well
unless_failed one (Err e) Q well is other = absurd (other is)

pub no_other : {T E : Type 0} (one : E) (r : Result T E) (Q : Type 0) → OnErr r (r ≡ Err one) → OnErr r (r ≢ Err one → Q)
no_other one (Ok x) Q is = tt
no_other one (Err e) Q is = λ other. absurd (other is)

pub some_ended : (o : Option JobEnd) → is_some o ≡ true → o ≢ None
some_ended None is none = absurd (let e : false ≡ true = is in cc)
some_ended (Some end) is none = absurd (cc)

pub none_runs_on : (o : Option JobEnd) → is_some o ≡ false → o ≡ None
none_runs_on None is = refl
none_runs_on (Some end) is = absurd (let e : true ≡ false = is in cc)

-- a dump that was only settled stays on its port
pub kept_job : {D : Type 0} (P : Plant D) (old new : D) (j k : JobFields) → k ≡ j → LeavesTapes P old new → LeavesOthers P old new j k
kept_job P old new j k same leaves = record { tapes = λ q other. leaves q; port = ap (λ (x : JobFields). x.port) same; on = λ on. subst IsOnPort (sym same) on }

pub less_by : (o : Option JobEnd) (new old : ℕ) → (o ≡ None → new < old) → turns_for o new < suc old
less_by None new old less = (let falls : new < old = less refl in omega (arith, falls))
less_by (Some end) new old less = omega arith

pub same_some : (jobs : List PoolJob) (n : ℕ) (q r : PoolJob) → slice_get jobs n ≡ Some q → slice_get jobs n ≡ Some r → q ≡ r
same_some jobs n q r one other = (let both : Some q ≡ Some r = sym one ∙ other in cc)

-- the dump at a number, and another one in its place
pub at_place : (jobs : List PoolJob) (i n : ℕ) (d : PoolJob) → i ≡ n → n < length jobs → slice_get jobs n ≡ Some (get_or jobs i d)
at_place jobs i n d same below = ap (slice_get jobs) (sym same) ∙ slice_get-get_or jobs i d (subst (λ (k : ℕ). k < length jobs) (sym same) below)

-- what a slice of all of them was left with is all of them
pub all_new : (len : ℕ) (new items : List PoolJob) → length new ≡ len → take len (new ++ drop (length new) items) ≡ new
all_new len new items long = take-append-le len new (drop (length new) items) (omega (arith, long)) ∙ take_all len new (omega (arith, long))

pub set_number : (jobs : List PoolJob) (i n : ℕ) (r : PoolJob) → i ≡ n → slice_set jobs i r ≡ with_job n r jobs
set_number jobs i n r same = ap (λ (k : ℕ). slice_set jobs k r) same ∙ set_with n r jobs

-- less is left behind a turn of one that runs
pub work_fewer : (jobs : List PoolJob) (n : ℕ) (q r : PoolJob) → slice_get jobs n ≡ Some q → q.end ≡ None → turns_for r.end (left_of r.job) < suc (left_of q.job) → work_left (with_job n r jobs) < work_left jobs
work_fewer [] n q r at runs less = absurd (cc)
work_fewer (p ∷ jobs) zero q r at runs less =
    let same : p ≡ q = cc in
    let left : turns_for p.end (left_of p.job) ≡ suc (left_of q.job) = ap (λ (x : PoolJob). turns_for x.end (left_of x.job)) same ∙ ap (λ (e : Option JobEnd). turns_for e (left_of q.job)) runs in
    omega (arith, left, less)
work_fewer (p ∷ jobs) (suc n) q r at runs less =
    let rest : work_left (with_job n r jobs) < work_left jobs = work_fewer jobs n q r at runs less in
    omega (arith, rest)

-- ---- a turn of one that has ended

some_end : (o : Option JobEnd) (p : PoolPoint) (e : PoolEvent) → o ≢ None → unless_ended o p e ≡ nothing_done p
some_end None p e ended = absurd (ended refl)
some_end (Some end) p e ended = refl

pub turn_nothing : (s : Scene) (p : PoolPoint) (t : Turn) (q : PoolJob) → slice_get p.jobs (number_of t) ≡ Some q → q.end ≢ None → turn_event s p t ≡ nothing_done p
turn_nothing s p (Step n) q at ended = ap (step_at s p n) at ∙ some_end q.end p (step_event s p n q) ended
turn_nothing s p (Kill n) q at ended = ap (kill_at p n) at ∙ some_end q.end p (kill_event p n q) ended

module _ {D E : Type 0} (P : Plant D) (C : Cell E) (s : Scene) (p : PoolPoint) (t : Turn) (q : PoolJob) (at : slice_get p.jobs (number_of t) ≡ Some q) (ended : q.end ≢ None) where
  pub nothing_turned : (budb : BudbView) (plant : D) (site : E) → StandsThere P C s p budb plant site → IsTurned P C s p (turn_event s p t) (number_of t) q budb plant site
  nothing_turned budb plant site stands =
      let none : IsTurned P C s p (nothing_done p) (number_of t) q budb plant site = record {
        stands = record {
          keeps = subst (λ (l : List Change). Keeps l p.state.log budb) (sym (append-nil p.log)) stands.keeps;
          state = stands.state;
          slots = stands.slots;
          present = stands.present;
          cell = stands.cell;
        };
        jobs = sym (with_same (number_of t) q p.jobs at);
      } in
      subst (λ (e : PoolEvent). IsTurned P C s p e (number_of t) q budb plant site) (sym (turn_nothing s p t q at ended)) none

  pub nothing_ahead_there : (budb : BudbView) (plant : D) (site : E) → P.sound plant → StandsThere P C s p budb plant site → DoneAhead P (turn_event s p t).effects plant plant
  nothing_ahead_there budb plant site sound stands =
      subst (λ (e : PoolEvent). DoneAhead P e.effects plant plant) (sym (turn_nothing s p t q at ended)) (standing_ahead P plant p.state sound (λ tells. stands.state))

  pub nothing_left_there : (plant : D) → Fits P plant → Leaves P (turn_event s p t).effects plant plant
  nothing_left_there plant fits = nothing_left P (turn_event s p t).effects plant fits

-- ---- places of the cell

pub places_stay : {E : Type 0} (C : Cell E) (old new : E) (places : List ℕ) → (C.tells → C.list new ≡ C.list old) → C.size new ≡ C.size old → HasPlaces C places old → HasPlaces C places new
places_stay C old new places list size has = record {
  within = subst (λ (n : ℕ). All (λ place. place < n) places) (sym size) has.within;
  good = λ tells. subst (λ (l : List Stored). All (λ place. IsTrue (is_good (slice_get l place))) places) (sym (list tells)) (has.good tells);
}

pub all_places : {E : Type 0} (C : Cell E) (old new : E) (jobs : List PoolJob) (n : ℕ) (q r : PoolJob) → slice_get jobs n ≡ Some q → (q.end ≢ None → r.end ≢ None) → r.job.places ≡ q.job.places
    → (C.tells → C.list new ≡ C.list old) → C.size new ≡ C.size old → HasAllPlaces C jobs old → HasAllPlaces C (with_job n r jobs) new
all_places C old new jobs n q r at ended same list size has k x there runs = elim (with_get n r jobs k x there) [
  | inl own ↦
      subst (λ (places : List ℕ). HasPlaces C places new) (sym same ∙ ap (λ (y : PoolJob). y.job.places) own.1)
      (places_stay C old new q.job.places list size (has n q at (ran q.end refl (ap (λ (y : PoolJob). y.end) own.1 ∙ runs))))
  | inr other ↦ places_stay C old new x.job.places list size (has k x other.1 runs)
]
  where
    ran : (o : Option JobEnd) → q.end ≡ o → r.end ≡ None → q.end ≡ None
    ran None is running = is
    ran (Some end) is running = absurd (ended (λ none. absurd (let e : Some end ≡ None = sym is ∙ none in cc)) running)

-- ---- the plant

apart_turned : (p q : PortFields) → AreApart p q → AreApart q p
apart_turned p q (inl before) = inr before
apart_turned p q (inr behind) = inl behind

not_none : (o : Option JobEnd) (end : JobEnd) → o ≡ Some end → o ≢ None
not_none o end is none = absurd (let e : Some end ≡ None = sym is ∙ none in cc)

module _ {D : Type 0} (P : Plant D) (old new : D) (jobs : List PoolJob) (n : ℕ) (q r : PoolJob) (at : slice_get jobs n ≡ Some q) (fit : FitsPool P jobs old) (turned : HasTurned P old new q r) where
  own_port : P.tells → q.end ≡ None → r.job.port ≡ q.job.port
  own_port tells runs = (turned.elsewhere tells runs).port

  module _ (runs : q.end ≡ None) where
    each_then : (k : ℕ) (x : PoolJob) → slice_get (with_job n r jobs) k ≡ Some x → x.end ≡ None → FitsOne P x new
    each_then k x there run = elim (with_get n r jobs k x there) [
      | inl own ↦ subst (λ (y : PoolJob). FitsOne P y new) own.1 (turned.fit (ap (λ (y : PoolJob). y.end) own.1 ∙ run))
      | inr other ↦
          (let before = fit.each k x other.1 run in
          record {
            going = before.going;
            fit = turned.others runs x.job before.fit (λ tells. ((fit.each n q at runs).on tells, before.on tells, fit.apart tells n k q x at other.1 runs run (λ same. other.0 (sym same))));
            on = before.on;
          })
    ]

    own_apart : P.tells → (k : ℕ) (x y : PoolJob) → r ≡ x → slice_get jobs k ≡ Some y → y.end ≡ None → (k ≡ n → ⊥) → AreApart x.job.port y.job.port
    own_apart tells k x y is there run other =
        subst (λ (p : PortFields). AreApart p y.job.port) (sym (own_port tells runs) ∙ ap (λ (z : PoolJob). z.job.port) is) (fit.apart tells n k q y at there runs run (λ same. other (sym same)))

    apart_then : P.tells → (k l : ℕ) (x y : PoolJob) → slice_get (with_job n r jobs) k ≡ Some x → slice_get (with_job n r jobs) l ≡ Some y → x.end ≡ None → y.end ≡ None → k ≢ l → AreApart x.job.port y.job.port
    apart_then tells k l x y at_k at_l run_x run_y other = elim (with_get n r jobs k x at_k) [
      | inl here ↦ elim (with_get n r jobs l y at_l) [
        | inl also ↦ absurd (other (here.0 ∙ sym also.0))
        | inr was ↦ own_apart tells l x y here.1 was.1 run_y was.0
      ]
      | inr old_x ↦ elim (with_get n r jobs l y at_l) [
        | inl also ↦ apart_turned y.job.port x.job.port (own_apart tells k y x also.1 old_x.1 run_x old_x.0)
        | inr was ↦ fit.apart tells k l x y old_x.1 was.1 run_x run_y other
      ]
    ]

  pub pool_fits : FitsPool P (with_job n r jobs) new
  pool_fits = by q.end refl
    where
      by : (o : Option JobEnd) → q.end ≡ o → FitsPool P (with_job n r jobs) new
      by None runs = record { sound = turned.sound; each = each_then runs; apart = apart_then runs }
      by (Some end) ended =
          let same = turned.same (not_none q.end end ended) in
          subst (λ (l : List PoolJob). FitsPool P l new) (sym (ap (λ (x : PoolJob). with_job n x jobs) same.1 ∙ with_same n q jobs at))
          (subst (FitsPool P jobs) (sym same.0) fit)

  -- tapes that aren't of its port are as they were
  pub tapes_elsewhere : P.tells → (k : ℕ) → (q.end ≡ None → IsAmong q.job.port k → ⊥) → (state_of P new).tape k ≡ (state_of P old).tape k
  tapes_elsewhere tells k outside = by q.end refl
    where
      by : (o : Option JobEnd) → q.end ≡ o → (state_of P new).tape k ≡ (state_of P old).tape k
      by None runs = (turned.elsewhere tells runs).tapes k (λ same. outside runs (subst (IsAmong q.job.port) (sym same) ((fit.each n q at runs).on tells).reel))
      by (Some end) ended = ap (λ (d : D). (state_of P d).tape k) (turned.same (not_none q.end end ended)).0

  own_none : P.tells → (k : ℕ) → IsOfNone jobs k → r.end ≡ None → IsAmong r.job.port k → ⊥
  own_none tells k none running of_r = by q.end refl
    where
      by : (o : Option JobEnd) → q.end ≡ o → ⊥
      by None runs = none n q at runs (subst (λ (p : PortFields). IsAmong p k) (own_port tells runs) of_r)
      by (Some end) ended = not_none q.end end ended (sym (ap (λ (y : PoolJob). y.end) (turned.same (not_none q.end end ended)).1) ∙ running)

  -- a slot that was of no port is of none
  pub none_then : P.tells → (k : ℕ) → IsOfNone jobs k → IsOfNone (with_job n r jobs) k
  none_then tells k none l x there run among = elim (with_get n r jobs l x there) [
    | inl own ↦ own_none tells k none (ap (λ (y : PoolJob). y.end) own.1 ∙ run) (subst (λ (y : PoolJob). IsAmong y.job.port k) (sym own.1) among)
    | inr other ↦ none l x other.1 run among
  ]

-- ---- the point

module _ {D E : Type 0} (P : Plant D) (C : Cell E) (s : Scene) (p : PoolPoint) (t : Turn) (jobs : List PoolJob) (q r : PoolJob) where
  -- the dump of the turn is that of the point
  pub there_too : (budb : BudbView) (plant : D) (site : E) → IsAtPool P C s p budb plant site jobs → slice_get jobs (number_of t) ≡ Some q → slice_get p.jobs (number_of t) ≡ Some q
  there_too budb plant site at there = ap (λ (l : List PoolJob). slice_get l (number_of t)) (sym at.jobs) ∙ there

  pub pool_turned : (budb budb_then : BudbView) (old new : D) (site site_then : E) → IsAtPool P C s p budb old site jobs → IsTurned P C s p (turn_event s p t) (number_of t) r budb_then new site_then → IsAtPool P C s (behind p (turn_event s p t)) budb_then new site_then (with_job (number_of t) r jobs)
  pool_turned budb budb_then old new site site_then at turned = record {
    stands = turned.stands;
    jobs = ap (with_job (number_of t) r) at.jobs ∙ sym turned.jobs;
  }
