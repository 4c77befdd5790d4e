-- What the archive came of it comes of behind turns, as far as dumps are concerned whose ids are below those of the dumps that run.
use Rattle.std.proofs.Common.{◌≡◌, ◌⊎◌, ℕ, zero, suc, ◌+◌, ◌<◌, ◌≤◌, Option, Some, None, List, [], ◌∷◌, ◌++◌, refl, sym, ap, subst, ◌∙◌, arith, inl, inr}
use Rattle.std.specs.Prelude.{All, slice_get}
use Rattle.cell_core.specs.Cells.{IsCell}
use Rattle.cell_core.specs.Fairness.{NoneIsMadeAfter, NoSourceHasBackupName}
use Rattle.cell_core.specs.Forms.{IsStoredForm}
use Rattle.budb_changes.specs.declared.records.DumpRecordFields.{DumpRecordFields}
use Rattle.budb_changes.specs.declared.change.Change.{Change}
use Rattle.plant_core.specs.Records.{Record}
use Rattle.plant_core.specs.Crashes.{State}
use Rattle.plant_core.specs.Effects.{come}
use Rattle.plant_effects.proofs.States.{come_append}
use Rattle.tape_answers.specs.Slots.{slots_of}
use Rattle.archive_model.specs.Archives.{Archive}
use Rattle.saved_archives.specs.Since.{ComesOf}
use Rattle.dump_job.specs.Settling.{last_cut}
use Rattle.dump_job.specs.Events.{Event}
use Rattle.dump_laws.specs.Running.{Goes}
use Rattle.dump_laws.specs.Keeping.{contents_behind, clones_behind, dumps_behind, Keeps as KeepsDump}
use Rattle.dump_courses.specs.Scenes.{Scene}
use Rattle.dump_courses.specs.Courses.{around, next_event}
use Rattle.dump_commands.specs.Answers.{Contents}
use Rattle.dump_commands.specs.Starts.{Start}
use Rattle.dump_archives.specs.Keeping.{ComesOn}
use Rattle.dump_archives.proofs.Keeping.{archive_at}
use Rattle.dump_archives.proofs.Sinces.{comes_as, event_comes}
use Rattle.dump_archives.proofs.Slots.{ReadOnce}
use Rattle.job_pool.specs.declared.ends.JobEnd.{JobEnd}
use Rattle.job_pool.specs.declared.jobs.PoolJob.{PoolJob}
use Rattle.job_pool.specs.declared.turn.Turn.{Turn}
use Rattle.job_pool.specs.declared.turn.Turn.TheVariants.{Step, Kill}
use Rattle.job_pool.specs.declared.turn.Kill.{Kill as PoolKill}
use Rattle.job_pool.specs.Pools.{PoolPoint, PoolEvent, PoolCourse, point_of, nothing_done, stepped, killed, settling_at, step_event, kill_event, unless_ended, step_at, kill_at, turn_event, behind, interleaved}
use Rattle.job_pool.specs.PoolCourses.{scheduled, turns_left, pool_course}
use Rattle.job_pool.proofs.Pooling.{with_get}
use Rattle.group_commands.specs.Begins.{id_in, job_in, start_event, started, group_course}
use Rattle.pool_laws.specs.Underway.{IsUnderway, StandsAt, AllUnderway}
use Rattle.pool_laws.specs.Groups.{MayAllStart, last_id}
use Rattle.pool_laws.specs.Since.{AllFrom}
use Rattle.pool_laws.proofs.Elsewhere.{settling_stays}
use Rattle.pool_laws.proofs.Fields.{event_same}
use Rattle.pool_laws.proofs.Stepping.{while_running, kept, known_then, contents_then, stands_then}
use Rattle.pool_laws.proofs.Pool.{turn_kept}
use Rattle.pool_laws.proofs.Groups.{start_under}

-- one of these, or the one behind them
get_push : (jobs : List PoolJob) (q : PoolJob) (l : ℕ) (r : PoolJob) → slice_get (jobs ++ q ∷ []) l ≡ Some r → (slice_get jobs l ≡ Some r) ⊎ (q ≡ r)
get_push [] q zero r at = (let same : q ≡ r = cc in inr same)
get_push [] q (suc l) r at = absurd (cc)
get_push (x ∷ jobs) q zero r at = inl at
get_push (x ∷ jobs) q (suc l) r at = get_push jobs q l r at

module _ (once : ReadOnce) (s : Scene) (time : ℕ) (grown : Contents) (is_cell : IsCell s.cell) (stored : All IsStoredForm s.cell) (made : NoneIsMadeAfter time s.cell) (named : NoSourceHasBackupName s.cell) (floor : ℕ) where
  abbrev its_archive : List Change → State → Archive
  its_archive log t = archive_at s.slots s.present grown log t.tape

  archive_is : (top : ℕ) (log : List Change) (t : State) (a : Archive) (records known : List DumpRecordFields) → StandsAt s time top grown log t a records known → a ≡ its_archive log t
  archive_is top log t a records known st = λ i. record { log = st.log_is i; slots = st.slots i; contents = st.contents_are i }

  -- the archive comes on behind a turn, and the dumps that run then have ids from this one on
  abbrev Since : PoolPoint → PoolEvent → Type 0
  Since p e = ComesOn floor (its_archive p.log p.state) (its_archive (behind p e).log (behind p e).state) × AllFrom floor e.jobs

  -- ---- a turn

  module _ (top : ℕ) (p : PoolPoint) (u : AllUnderway s time top grown p) (from : AllFrom floor p.jobs) (n : ℕ) (q : PoolJob) (at : slice_get p.jobs n ≡ Some q) (running : q.end ≡ None) where
    own : IsUnderway s time top grown p.state u.archive u.records u.known q.job (u.put n)
    own = u.each n q at running

    abbrev ev : Event
    ev = next_event s (point_of p q)

    abbrev k : KeepsDump p.state u.archive u.records (contents_behind u.archive q.job (u.put n) q.job.phase) (clones_behind (around s (point_of p q)) q.job (u.put n) q.job.phase) (dumps_behind u.records q.job q.job.phase) ev.effects ev.changes ev.job
    k = kept once s time top grown is_cell stored made named p.log p.state u.archive u.records u.known u.stands q.job (u.put n) own

    goes : Goes p.state u.archive u.records q.job (u.put n)
    goes = while_running q.job.phase (Goes p.state u.archive u.records q.job (u.put n)) own.running own.runs.goes

    its_contents : contents_behind u.archive q.job (u.put n) q.job.phase ≡ grown
    its_contents = contents_then once s time top grown is_cell stored made named p.log p.state u.archive u.records u.known u.stands q.job (u.put n) own

    stands : StandsAt s time top grown (p.log ++ ev.changes) (come ev.effects p.state) k.last.archive k.last.records (known_then once s time top grown is_cell stored made named p.log p.state u.archive u.records u.known u.stands q.job (u.put n) own)
    stands = stands_then once s time top grown is_cell stored made named p.log p.state u.archive u.records u.known u.stands q.job (u.put n) own

    step_comes : ComesOn floor (its_archive p.log p.state) (its_archive (p.log ++ ev.changes) (come ev.effects p.state))
    step_comes greatest before less comes =
        let le : floor ≤ q.job.head.id = from n q at running in
        let first : ComesOf greatest before u.archive = subst (λ (x : Archive). ComesOf greatest before x) (sym (archive_is top p.log p.state u.archive u.records u.known u.stands)) comes in
        let next : ComesOf greatest before k.last.archive =
        event_comes p.state u.archive u.records (contents_behind u.archive q.job (u.put n) q.job.phase) (clones_behind (around s (point_of p q)) q.job (u.put n) q.job.phase) (dumps_behind u.records q.job q.job.phase) ev.effects ev.changes ev.job k q.job.head.id
        (event_same (around s (point_of p q)) q.job).id u.stands.held.seen.kept goes.new (u.stands.contents_are ∙ sym its_contents) greatest before (omega (arith, less, le)) first in
        comes_as greatest before k.last.archive (its_archive (p.log ++ ev.changes) (come ev.effects p.state)) stands.slots stands.contents_are next

    step_from : AllFrom floor (step_event s p n q).jobs
    step_from l r there runs = elim (with_get n (stepped q ev) p.jobs l r there) [
      | inl here ↦ subst (λ (x : PoolJob). floor ≤ x.job.head.id) here.1 (subst (λ (i : ℕ). floor ≤ i) (sym (event_same (around s (point_of p q)) q.job).id) (from n q at running))
      | inr other ↦ from l r other.1 runs
    ]

    step_since : Since p (step_event s p n q)
    step_since = (step_comes, step_from)

    -- a kill leaves each tape
    kill_comes : ComesOn floor (its_archive p.log p.state) (its_archive (p.log ++ []) (come (settling_at (last_cut q.job) p.state) p.state))
    kill_comes greatest before less comes =
        let tapes : p.state.tape ≡ (come (settling_at (last_cut q.job) p.state) p.state).tape = λ i. λ c. sym (settling_stays (last_cut q.job) p.state c) i in
        comes_as greatest before (its_archive p.log p.state) (its_archive (p.log ++ []) (come (settling_at (last_cut q.job) p.state) p.state)) (ap (λ (tape : ℕ → List Record). slots_of s.slots s.present tape) tapes) refl comes

    none_runs : (r : PoolJob) → killed q ≡ r → r.end ≡ None → ⊥
    none_runs r is none = (let e : (killed q).end ≡ None = ap (λ (x : PoolJob). x.end) is ∙ none in absurd (cc))

    kill_from : AllFrom floor (kill_event p n q).jobs
    kill_from l r there runs = elim (with_get n (killed q) p.jobs l r there) [
      | inl here ↦ absurd (none_runs r here.1 runs)
      | inr other ↦ from l r other.1 runs
    ]

    kill_since : Since p (kill_event p n q)
    kill_since = (kill_comes, kill_from)

  nothing_since : (p : PoolPoint) → AllFrom floor p.jobs → Since p (nothing_done p)
  nothing_since p from = (λ greatest before less comes. comes_as greatest before (its_archive p.log p.state) (its_archive (p.log ++ []) p.state) refl refl comes, from)

  step_by : (top : ℕ) (p : PoolPoint) → AllUnderway s time top grown p → AllFrom floor p.jobs → (n : ℕ) (q : PoolJob) → slice_get p.jobs n ≡ Some q → (o : Option JobEnd) → q.end ≡ o → Since p (unless_ended o p (step_event s p n q))
  step_by top p u from n q at None is = step_since top p u from n q at is
  step_by top p u from n q at (Some end) is = nothing_since p from

  step_of : (top : ℕ) (p : PoolPoint) → AllUnderway s time top grown p → AllFrom floor p.jobs → (n : ℕ) (o : Option PoolJob) → slice_get p.jobs n ≡ o → Since p (step_at s p n o)
  step_of top p u from n None is = nothing_since p from
  step_of top p u from n (Some q) is = step_by top p u from n q is q.end refl

  kill_by : (top : ℕ) (p : PoolPoint) → AllUnderway s time top grown p → AllFrom floor p.jobs → (n : ℕ) (q : PoolJob) → slice_get p.jobs n ≡ Some q → (o : Option JobEnd) → q.end ≡ o → Since p (unless_ended o p (kill_event p n q))
  kill_by top p u from n q at None is = kill_since top p u from n q at is
  kill_by top p u from n q at (Some end) is = nothing_since p from

  kill_of : (top : ℕ) (p : PoolPoint) → AllUnderway s time top grown p → AllFrom floor p.jobs → (n : ℕ) (o : Option PoolJob) → slice_get p.jobs n ≡ o → Since p (kill_at p n o)
  kill_of top p u from n None is = nothing_since p from
  kill_of top p u from n (Some q) is = kill_by top p u from n q is q.end refl

  turn_since : (top : ℕ) (p : PoolPoint) → AllUnderway s time top grown p → AllFrom floor p.jobs → (t : Turn) → Since p (turn_event s p t)
  turn_since top p u from (Step n) = step_of top p u from n (slice_get p.jobs n) refl
  turn_since top p u from (Kill n) = kill_of top p u from n (slice_get p.jobs n) refl

  -- ---- a list of turns

  pub turns_since : (top : ℕ) (turns : List Turn) (p : PoolPoint) → AllUnderway s time top grown p → AllFrom floor p.jobs → let c = interleaved s p turns in ComesOn floor (its_archive p.log p.state) (its_archive c.log (come c.effects p.state))
  turns_since top [] p u from greatest before less comes = comes
  turns_since top (t ∷ turns) p u from greatest before less comes =
      let e : PoolEvent = turn_event s p t in
      let one = turn_since top p u from t in
      let under = (turn_kept once s time top grown is_cell stored made named p u t).1 in
      let c : PoolCourse = interleaved s (behind p e) turns in
      subst (λ (x : State). ComesOf greatest before (its_archive c.log x)) (sym (come_append e.effects c.effects p.state)) (turns_since top turns (behind p e) under one.1 greatest before less (one.0 greatest before less comes))

  -- ---- a group

  start_from : (top : ℕ) (p : PoolPoint) (b : Start) → AllFrom floor p.jobs → top < id_in p.log b → floor ≤ top + 1 → AllFrom floor (start_event p b).jobs
  start_from top p b from above le l r there runs = elim (get_push p.jobs (record { job = job_in p.log b; steps = 0; end = None }) l r there) [
    | inl old ↦ from l r old runs
    | inr new ↦ subst (λ (x : PoolJob). floor ≤ x.job.head.id) new (let lt : top < id_in p.log b = above in omega (arith, lt, le))
  ]

  started_since : (rest : PoolPoint → PoolCourse) (last : ℕ) → ((q : PoolPoint) → AllUnderway s time last grown q → AllFrom floor q.jobs → ComesOn floor (its_archive q.log q.state) (its_archive (rest q).log (come (rest q).effects q.state)))
      → (starts : List Start) (top : ℕ) (p : PoolPoint) → AllUnderway s time top grown p → MayAllStart s time top grown p starts → AllFrom floor p.jobs → floor ≤ top + 1 → last_id top p starts ≡ last
      → ComesOn floor (its_archive p.log p.state) (its_archive (started rest p starts).log (come (started rest p starts).effects p.state))
  started_since rest last each [] top p u may from le is = each p (subst (λ (n : ℕ). AllUnderway s time n grown p) is u) from
  started_since rest last each (b ∷ starts) top p u may from le is = λ greatest before less comes.
      let q : PoolPoint = behind p (start_event p b) in
      let above : top < id_in p.log b = may.0.greater in
      started_since rest last each starts (id_in p.log b) q (start_under once s time grown is_cell stored made named top p b u may.0) may.1 (start_from top p b from above le) (omega (arith, above, le)) is greatest before less
      (comes_as greatest before (its_archive p.log p.state) (its_archive q.log q.state) refl refl comes)

  rest_since : (kills : List PoolKill) (x last : ℕ) (q : PoolPoint) → AllUnderway s time last grown q → AllFrom floor q.jobs → ComesOn floor (its_archive q.log q.state) (its_archive (pool_course s kills x q).log (come (pool_course s kills x q).effects q.state))
  unfolding pool_course
  rest_since kills x last q u from = turns_since last (scheduled (turns_left s.cell q.jobs) s kills x q) q u from

  pub group_since : (kills : List PoolKill) (x top : ℕ) (p : PoolPoint) (starts : List Start) → AllUnderway s time top grown p → MayAllStart s time top grown p starts → AllFrom floor p.jobs → floor ≤ top + 1
      → let c = group_course s kills x p starts in ComesOn floor (its_archive p.log p.state) (its_archive c.log (come c.effects p.state))
  group_since kills x top p starts u may from le = started_since (pool_course s kills x) (last_id top p starts) (λ q under run. rest_since kills x (last_id top p starts) q under run) starts top p u may from le refl
