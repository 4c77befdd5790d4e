-- The dumps that run, one after the other, and the turn that a number tells.
use Rattle.std.proofs.Common.{zero, suc, ◌≡◌, ◌⊎◌, ℕ, ◌+◌, ◌-◌, ◌/◌, ◌%◌, ◌<◌, ◌≤◌, Bool, true, false, List, [], ◌∷◌, length, get_or, drop, refl, sym, ap, subst, ◌∙◌, arith, add-one}
use Rattle.std.specs.Prelude.{Option, Some, None, is_some, slice_get, ◌==◌, ◌&&◌, if◌then◌else◌, ◌≢◌}
use Rattle.std.specs.List.{list_any}
use Rattle.std.proofs.Math.Seq.{drop-cons}
use Rattle.std.proofs.lemmas.Nat.{mod_below}
use Rattle.std.proofs.lemmas.List.{drop_all}
use Rattle.std.proofs.lemmas.Option.{slice_get-get_or, slice_get_within}
use Rattle.job_pool.specs.declared.ends.JobEnd.{JobEnd}
use Rattle.job_pool.specs.declared.jobs.PoolJob.{PoolJob}
use Rattle.job_pool.specs.declared.turn.Turn.{Turn}
use Rattle.job_pool.specs.declared.turn.Turn.TheVariants as turns
use Rattle.job_pool.specs.declared.turn.Kill.{Kill}
use Rattle.job_pool.specs.Schedules.{next_number, number_of, if_runs, running_from, picked, turn_for, turn_of, turn_at, next_turn, AllEnded}

-- ---- one after the other

runs_first : (o : Option JobEnd) (n : ℕ) (rest : List ℕ) → is_some o ≡ false → if_runs o n rest ≡ n ∷ rest
runs_first None n rest is = refl
runs_first (Some end) n rest is = absurd (cc)

ended_first : (o : Option JobEnd) (n : ℕ) (rest : List ℕ) → is_some o ≡ true → if_runs o n rest ≡ rest
ended_first None n rest is = absurd (cc)
ended_first (Some end) n rest is = refl

-- those from a number on: that one, where it runs, and those behind it
running_at : (jobs : List PoolJob) (i : ℕ) (q : PoolJob) → i < length jobs → q ≡ get_or jobs i q → running_from i (drop i jobs) ≡ if_runs q.end i (running_from (i + 1) (drop (i + 1) jobs))
running_at jobs i q below is =
    ap (running_from i) (drop-cons jobs i q below)
    ∙ ap (λ (x : PoolJob). if_runs x.end i (running_from (suc i) (drop (suc i) jobs))) (sym is)
    ∙ ap (λ (k : ℕ). if_runs q.end i (running_from k (drop k jobs))) (sym (add-one i))

pub running_more : (jobs : List PoolJob) (i : ℕ) (q : PoolJob) → i < length jobs → q ≡ get_or jobs i q → is_some q.end ≡ false → running_from i (drop i jobs) ≡ i ∷ running_from (i + 1) (drop (i + 1) jobs)
running_more jobs i q below is runs = running_at jobs i q below is ∙ runs_first q.end i (running_from (i + 1) (drop (i + 1) jobs)) runs

pub running_same : (jobs : List PoolJob) (i : ℕ) (q : PoolJob) → i < length jobs → q ≡ get_or jobs i q → is_some q.end ≡ true → running_from i (drop i jobs) ≡ running_from (i + 1) (drop (i + 1) jobs)
running_same jobs i q below is ended = running_at jobs i q below is ∙ ended_first q.end i (running_from (i + 1) (drop (i + 1) jobs)) ended

pub running_none : (jobs : List PoolJob) (i : ℕ) → length jobs ≤ i → running_from i (drop i jobs) ≡ []
running_none jobs i past = ap (running_from i) (drop_all i jobs past)

pub get_behind : (n : ℕ) (ns : List ℕ) (k m : ℕ) → k ≡ suc m → slice_get (n ∷ ns) k ≡ slice_get ns m
get_behind n ns k m is = ap (slice_get (n ∷ ns)) is

pub get_first : (n : ℕ) (ns : List ℕ) (k : ℕ) → k ≡ 0 → slice_get (n ∷ ns) k ≡ Some n
get_first n ns k is = ap (slice_get (n ∷ ns)) is

pub picks_none : (x : ℕ) (ns : List ℕ) → length ns ≡ 0 → picked x ns ≡ None
picks_none x [] none = refl
picks_none x (n ∷ ns) none = absurd (omega (arith, none))

pub picks_at : (x : ℕ) (ns : List ℕ) (count : ℕ) → count ≡ length ns → 0 < count → picked x ns ≡ slice_get ns ((x / 65536) % count)
picks_at x [] count is some = absurd (omega (arith, is, some))
picks_at x (n ∷ ns) count is some = ap (λ (k : ℕ). slice_get (n ∷ ns) ((x / 65536) % k)) (sym is)

-- ---- whose turn it is

-- a number is of a dump that runs, counted from this one on
abbrev pub IsOfRunning : ℕ → List PoolJob → ℕ → Type 0
IsOfRunning from jobs n = (k : ℕ) × (n ≡ from + k) × ((q : PoolJob) × (slice_get jobs k ≡ Some q) × (q.end ≡ None))

running_next : (from : ℕ) (p : PoolJob) (jobs : List PoolJob) (n : ℕ) → IsOfRunning (suc from) jobs n → IsOfRunning from (p ∷ jobs) n
running_next from p jobs n is = (suc is.0, omega (arith, is.1), is.2)

running_there : (from : ℕ) (jobs : List PoolJob) (i n : ℕ) → slice_get (running_from from jobs) i ≡ Some n → IsOfRunning from jobs n
running_there from [] i n at = absurd (cc)
running_there from (p ∷ jobs) i n at = by p.end refl i at (λ k there. running_there (suc from) jobs k n there)
  where
    by : (o : Option JobEnd) → p.end ≡ o → (i : ℕ) → slice_get (if_runs o from (running_from (suc from) jobs)) i ≡ Some n → ((k : ℕ) → slice_get (running_from (suc from) jobs) k ≡ Some n → IsOfRunning (suc from) jobs n) → IsOfRunning from (p ∷ jobs) n
    by None runs zero at rest = (let same : from ≡ n = cc in (0, omega (arith, same), (p, refl, runs)))
    by None runs (suc i) at rest = running_next from p jobs n (rest i at)
    by (Some end) runs i at rest = running_next from p jobs n (rest i at)

none_runs : (from : ℕ) (jobs : List PoolJob) → running_from from jobs ≡ [] → AllEnded jobs
none_runs from [] none n q at runs = absurd (cc)
none_runs from (p ∷ jobs) none n q at runs = by p.end refl none n at (λ less. none_runs (suc from) jobs less)
  where
    by : (o : Option JobEnd) → p.end ≡ o → if_runs o from (running_from (suc from) jobs) ≡ [] → (n : ℕ) → slice_get (p ∷ jobs) n ≡ Some q → (running_from (suc from) jobs ≡ [] → AllEnded jobs) → ⊥
    by None is less n at rest = absurd (cc)
    by (Some end) is less zero at rest = (let same : p ≡ q = cc in let other : Some end ≡ None = sym is ∙ ap (λ (x : PoolJob). x.end) same ∙ runs in absurd (cc))
    by (Some end) is less (suc n) at rest = rest less n q at runs

-- one of some is picked
pick_found : (x n : ℕ) (ns : List ℕ) → (m : ℕ) × (picked x (n ∷ ns) ≡ Some m)
pick_found x n ns =
    let some : 0 < length (n ∷ ns) = omega arith in
    (get_or (n ∷ ns) ((x / 65536) % length (n ∷ ns)) 0, slice_get-get_or (n ∷ ns) ((x / 65536) % length (n ∷ ns)) 0 (mod_below (x / 65536) (length (n ∷ ns)) some))

pick_there : (x n : ℕ) (ns : List ℕ) → picked x ns ≡ Some n → (i : ℕ) × (slice_get ns i ≡ Some n)
pick_there x n [] is = absurd (cc)
pick_there x n (k ∷ ns) is = ((x / 65536) % length (k ∷ ns), is)

-- ---- the next turn

-- It is of a dump that runs.
pub record IsNext (kills : List Kill) (jobs : List PoolJob) (t : Turn) : Type 0 where
  pub number : ℕ
  pub job : PoolJob
  pub at : slice_get jobs number ≡ Some job
  pub runs : job.end ≡ None
  pub is : t ≡ turn_for kills number job

none_of : (kills : List Kill) (n : ℕ) (o : Option PoolJob) (q : PoolJob) → o ≡ Some q → turn_of kills n o ≡ None → ⊥
none_of kills n None q at none = absurd (cc)
none_of kills n (Some p) q at none = absurd (cc)

pub next_none : (kills : List Kill) (x : ℕ) (jobs : List PoolJob) → next_turn kills x jobs ≡ None → AllEnded jobs
next_none kills x jobs none = by (running_from 0 jobs) refl
  where
    by : (ns : List ℕ) → running_from 0 jobs ≡ ns → AllEnded jobs
    by [] is = none_runs 0 jobs is
    by (n ∷ ns) is =
        let found = pick_found (next_number x) n ns in
        let pick : picked (next_number x) (running_from 0 jobs) ≡ Some found.0 = ap (picked (next_number x)) is ∙ found.1 in
        let place = pick_there (next_number x) found.0 (running_from 0 jobs) pick in
        let run = running_there 0 jobs place.0 found.0 place.1 in
        let same : found.0 ≡ run.0 = omega (arith, run.1) in
        let at : slice_get jobs found.0 ≡ Some run.2.0 = ap (slice_get jobs) same ∙ run.2.1 in
        absurd (none_of kills found.0 (slice_get jobs found.0) run.2.0 at (sym (ap (turn_at kills jobs) pick) ∙ none))

turn_is : (kills : List Kill) (n : ℕ) (o : Option PoolJob) (q : PoolJob) (t : Turn) → o ≡ Some q → turn_of kills n o ≡ Some t → t ≡ turn_for kills n q
turn_is kills n None q t at is = absurd (cc)
turn_is kills n (Some p) q t at is =
    let same : p ≡ q = cc in
    let turn : turn_for kills n p ≡ t = cc in
    sym turn ∙ ap (turn_for kills n) same

pub next_some : (kills : List Kill) (x : ℕ) (jobs : List PoolJob) (t : Turn) → next_turn kills x jobs ≡ Some t → IsNext kills jobs t
next_some kills x jobs t some = by (picked (next_number x) (running_from 0 jobs)) refl
  where
    by : (o : Option ℕ) → picked (next_number x) (running_from 0 jobs) ≡ o → IsNext kills jobs t
    by None pick = absurd (let e : None ≡ Some t = sym (ap (turn_at kills jobs) pick) ∙ some in cc)
    by (Some n) pick =
        let place = pick_there (next_number x) n (running_from 0 jobs) pick in
        let run = running_there 0 jobs place.0 n place.1 in
        let same : n ≡ run.0 = omega (arith, run.1) in
        let at : slice_get jobs n ≡ Some run.2.0 = ap (slice_get jobs) same ∙ run.2.1 in
        record { number = n; job = run.2.0; at = at; runs = run.2.2; is = turn_is kills n (slice_get jobs n) run.2.0 t at (sym (ap (turn_at kills jobs) pick) ∙ some) }

-- the dump that a number picks is one of them
pub picked_within : (x : ℕ) (jobs : List PoolJob) (n : ℕ) → picked x (running_from 0 jobs) ≡ Some n → n < length jobs
picked_within x jobs n pick =
    let place = pick_there x n (running_from 0 jobs) pick in
    let run = running_there 0 jobs place.0 n place.1 in
    let below : run.0 < length jobs = slice_get_within jobs run.0 run.2.0 run.2.1 in
    omega (arith, run.1, below)

pub told_turn : (kills : List Kill) (x : ℕ) (jobs : List PoolJob) (n : ℕ) (q : PoolJob) → picked x (running_from 0 jobs) ≡ Some n → q ≡ get_or jobs n q → turn_at kills jobs (picked x (running_from 0 jobs)) ≡ Some (turn_for kills n q)
told_turn kills x jobs n q pick is =
    ap (turn_at kills jobs) pick ∙ ap (turn_of kills n) (slice_get-get_or jobs n q (picked_within x jobs n pick)) ∙ ap (λ (y : PoolJob). Some (turn_for kills n y)) (sym is)

-- ---- whose turn it is

number_for : (b : Bool) (n : ℕ) → number_of (if b then turns.Kill n else turns.Step n) ≡ n
number_for true n = refl
number_for false n = refl

-- the dump whose turn it is runs
pub record RunsAt (jobs : List PoolJob) (n : ℕ) : Type 0 where
  pub job : PoolJob
  pub at : slice_get jobs n ≡ Some job
  pub runs : job.end ≡ None

pub next_runs : (kills : List Kill) (x : ℕ) (jobs : List PoolJob) (t : Turn) → next_turn kills x jobs ≡ Some t → RunsAt jobs (number_of t)
next_runs kills x jobs t is =
    let next = next_some kills x jobs t is in
    let number : number_of t ≡ next.number = ap number_of next.is ∙ number_for (list_any (λ k. (k.job == next.number) && (k.after == next.job.steps)) kills) next.number in
    record { job = next.job; at = ap (slice_get jobs) number ∙ next.at; runs = next.runs }

-- one that has ended is another one
pub ended_other : (jobs : List PoolJob) (n k : ℕ) (q : PoolJob) → RunsAt jobs n → slice_get jobs k ≡ Some q → q.end ≢ None → k ≢ n
ended_other jobs n k q running at ended same =
    let both : Some running.job ≡ Some q = sym running.at ∙ ap (slice_get jobs) (sym same) ∙ at in
    let is : running.job ≡ q = cc in
    ended (sym (ap (λ (x : PoolJob). x.end) is) ∙ running.runs)
