-- A dump begins beside others that run: they run on, and it is one of them.
use Rattle.std.proofs.Common.{◌≡◌, ℕ, ◌+◌, ◌<◌, ◌≤◌, Bool, true, false, not, Option, Some, None, List, [], ◌∷◌, ◌++◌, length, refl, sym, ap, subst, ◌∙◌, arith, inl, inr}
use Rattle.std.specs.Prelude.{All, Contains, slice_get}
use Rattle.cell_core.specs.Cells.{IsCell}
use Rattle.cell_core.specs.Fairness.{NoneIsMadeAfter, NoSourceHasBackupName}
use Rattle.cell_core.specs.Forms.{IsStoredForm}
use Rattle.budb_changes.specs.declared.records.DumpRecordFields.{DumpRecordFields}
use Rattle.budb_changes.specs.declared.change.Change.{Change}
use Rattle.budb_changes.specs.Bytes.{encoded}
use Rattle.budb_changes.specs.Forms.{AreChanges}
use Rattle.budb_fold.specs.Database.{is_initial, without, after}
use Rattle.plant_core.specs.Crashes.{State}
use Rattle.plant_core.specs.Effects.{Effect, commits, comes, come}
use Rattle.tape_text.specs.Texts.{Tape}
use Rattle.tape_scan.proofs.ListLaws.{of_filter}
use Rattle.archive_model.specs.Archives.{Archive, listed_of}
use Rattle.archive_model.proofs.JobLaws.{remaining_among}
use Rattle.dump_job.specs.declared.fields.JobFields.{JobFields}
use Rattle.dump_job.specs.declared.order.DumpOrder.{DumpOrder}
use Rattle.dump_job.specs.declared.first_tapes.FirstTape.{FirstTape}
use Rattle.dump_job.specs.Beginning.{new_id, wanting_of, begin_changes, begun_job}
use Rattle.tape_frames.specs.TapeNames.{numbered}
use Rattle.budb_fold.specs.Lookups.{record_of}
use Rattle.archive_model.proofs.RecordLaws.{record_is_there}
use Rattle.dump_laws.specs.Made.{Made}
use Rattle.dump_laws.specs.Running.{Goes, UnlessOver, RunsIn}
use Rattle.dump_laws.specs.Beginning.{HeadsAreBelow, HasParent, TakenBy, begun_archive, begun_records, nothing_made}
use Rattle.dump_laws.proofs.BeginLaws.{listed_begun, taken_runs}
use Rattle.dump_courses.specs.Scenes.{Scene}
use Rattle.dump_commands.specs.Answers.{Contents}
use Rattle.dump_forms.specs.Forms.{HasForms}
use Rattle.dump_archives.specs.Keeping.{HeadsUpTo}
use Rattle.dump_archives.proofs.Clones.{HasGoodPlaces}
use Rattle.dump_archives.proofs.Fields.{IsRunning}
use Rattle.dump_archives.proofs.Heads.{heads_raised}
use Rattle.dump_archives.proofs.Slots.{ReadOnce}
use Rattle.tape_config.specs.Ports.{IsAmong, AreApart}
use Rattle.dump_job.specs.Elsewhere.{IsOnPort}
use Rattle.pool_laws.specs.Beside.{IsBeside}
use Rattle.job_pool.specs.declared.jobs.PoolJob.{PoolJob}
use Rattle.job_pool.specs.Pools.{PoolPoint}
use Rattle.pool_laws.proofs.Fields.{chosen_among}
use Rattle.pool_laws.proofs.Framing.{LeavesAlone, runs_on as runs_alone}
use Rattle.pool_laws.specs.Underway.{IsGrown, IsUnderway, StandsAt, AllUnderway}
use Rattle.pool_laws.proofs.Stepping.{while_running}
use Rattle.group_commands.proofs.Jobs.{get_more, more_get}
use Rattle.pool_laws.proofs.Pool.{put_with, put_own, put_other, beside_other}

-- ---- a dump more

among_begun : (take : Option ℕ) (a : Archive) (records : List DumpRecordFields) (e : DumpRecordFields) → Contains (begun_records take a records) e → Contains records e
among_begun None a records e there = there
among_begun (Some initial) a records e there = remaining_among (without (is_initial initial) (listed_of a)) a.slots records e there

listed_among : (take : Option ℕ) (id : ℕ) (a : Archive) (e : DumpRecordFields) → Contains (listed_of (begun_archive id take a)) e → Contains (listed_of a) e
listed_among None id a e there = subst (λ (l : List DumpRecordFields). Contains l e) (listed_begun None id a) there
listed_among (Some initial) id a e there = (of_filter (λ (d : DumpRecordFields). not (is_initial initial d)) (listed_of a) e (subst (λ (l : List DumpRecordFields). Contains l e) (listed_begun (Some initial) id a) there)).0

module _ (once : ReadOnce) (s : Scene) (time top : ℕ) (grown : Contents) (is_cell : IsCell s.cell) (stored : All IsStoredForm s.cell) (made : NoneIsMadeAfter time s.cell) (named : NoSourceHasBackupName s.cell) where
  -- what a dump that begins is to those that run: one of a greater id, on a port of its own
  module _ (p : PoolPoint) (u : AllUnderway s time top grown p) (id : ℕ) (greater : top < id) (take : Option ℕ) (j0 : JobFields) (id_is : j0.head.id ≡ id) (front : Tape)
      (runs0 : RunsIn (come (commits (encoded (begin_changes id take)) ∷ []) p.state) (begun_archive id take u.archive) (begun_records take u.archive u.records) j0 (nothing_made front))
      (running0 : IsRunning j0.phase) (on0 : IsOnPort j0) (forms0 : HasForms j0) (good0 : HasGoodPlaces s.cell j0.places) (time0 : j0.time ≡ time) (grown0 : IsGrown s time grown j0)
      (parent0 : (d : DumpRecordFields) → j0.parent ≡ Some d → Contains u.known d) (has_parent : HasParent (listed_of u.archive) j0.head.parent)
      (ports0 : (n : ℕ) (q : PoolJob) → slice_get p.jobs n ≡ Some q → AreApart q.job.port j0.port) where
    abbrev q0 : PoolJob
    q0 = record { job = j0; steps = 0; end = None }

    abbrev t2 : State
    t2 = come (commits (encoded (begin_changes id take)) ∷ []) p.state

    abbrev z : Archive
    z = begun_archive id take u.archive

    abbrev few : List DumpRecordFields
    few = begun_records take u.archive u.records

    abbrev p2 : PoolPoint
    p2 = record { log = p.log ++ begin_changes id take; state = t2; jobs = p.jobs ++ q0 ∷ [] }

    -- those that run are left alone
    alone : (j : JobFields) → LeavesAlone p.state t2 u.archive z u.records few j
    alone j = record {
      held = runs0.held;
      slots = λ q x of_j at. at;
      settled = λ q of_j. omega arith;
      heads = λ q x v h at is same. (v, at, is);
      above = λ name. refl;
      listed = λ q x of_j at d tape there held. listed_among take id u.archive d there;
      new = λ d there. inl (among_begun take u.archive u.records d there);
    }

    old_under : (n : ℕ) (q : PoolJob) → slice_get p.jobs n ≡ Some q → q.end ≡ None → IsUnderway s time id grown t2 z few u.known q.job (u.put n)
    old_under n q at runs =
        let old = u.each n q at runs in
        record {
          runs = runs_alone p.state t2 u.archive z u.records few q.job (u.put n) old.runs old.on (alone q.job);
          running = old.running;
          on = old.on;
          forms = old.forms;
          good = old.good;
          time_is = old.time_is;
          clones = old.clones;
          is_grown = old.is_grown;
          parent_known = old.parent_known;
          new = old.new;
          low = (let low = old.low in omega (arith, low, greater));
        }

    new_under : IsUnderway s time id grown t2 z few u.known j0 (nothing_made front)
    new_under = record {
      runs = runs0;
      running = running0;
      on = on0;
      forms = forms0;
      good = good0;
      time_is = time0;
      clones = tt;
      is_grown = grown0;
      parent_known = parent0;
      new = λ d there same. absurd (let low = u.stands.low d there in omega (arith, low, greater, same, id_is));
      low = omega (arith, id_is);
    }

    beside_new : (n : ℕ) (q : PoolJob) → slice_get p.jobs n ≡ Some q → q.end ≡ None → IsBeside q.job j0
    beside_new n q at runs =
        let old = u.each n q at runs in
        let low = old.low in
        let g : Goes p.state u.archive u.records q.job (u.put n) = while_running q.job.phase (Goes p.state u.archive u.records q.job (u.put n)) old.running old.runs.goes in
        let below : q.job.head.parent < q.job.head.id = g.parent.below in
        let some : 1 ≤ q.job.head.id = omega (arith, below) in
        record {
          ports = ports0 n q at;
          ids = λ same. absurd (omega (arith, low, greater, same, id_is));
          above = λ same. absurd (omega (arith, low, greater, same, id_is, below));
          below = λ same. elim has_parent [
            | inl none ↦ absurd (omega (arith, none, same, some))
            | inr listed ↦ (g.new listed.0 (u.stands.held.seen.kept.dumps.complete listed.0 (inl listed.1))).0 (listed.2 ∙ same)
          ];
        }

    put2 : ℕ → Made
    put2 = put_with (length p.jobs) (nothing_made front) u.put

    each_then : (n : ℕ) (q : PoolJob) → slice_get p2.jobs n ≡ Some q → q.end ≡ None → IsUnderway s time id grown t2 z few u.known q.job (put2 n)
    unfolding put2
    each_then n q at runs = elim (get_more p.jobs q0 n q at) [
      | inl old ↦
          subst (λ (m : Made). IsUnderway s time id grown t2 z few u.known q.job m) (sym (put_other (length p.jobs) (nothing_made front) u.put n (λ same. absurd (omega (arith, old.0, same))))) (old_under n q old.1 runs)
      | inr new ↦
          subst (λ (x : PoolJob). IsUnderway s time id grown t2 z few u.known x.job (put_with (length p.jobs) (nothing_made front) u.put n)) new.1
          (subst (λ (m : Made). IsUnderway s time id grown t2 z few u.known j0 m) (sym (put_own (length p.jobs) (nothing_made front) u.put n new.0)) new_under)
    ]

    apart_then : (n k : ℕ) (q r : PoolJob) → slice_get p2.jobs n ≡ Some q → slice_get p2.jobs k ≡ Some r → q.end ≡ None → r.end ≡ None → (n ≡ k → ⊥) → IsBeside q.job r.job
    apart_then n k q r at_n at_k run_q run_r other = elim (get_more p.jobs q0 n q at_n) [
      | inl old ↦ elim (get_more p.jobs q0 k r at_k) [
        | inl also ↦ u.apart n k q r old.1 also.1 run_q run_r other
        | inr new ↦ subst (λ (x : PoolJob). IsBeside q.job x.job) new.1 (beside_new n q old.1 run_q)
      ]
      | inr new ↦ elim (get_more p.jobs q0 k r at_k) [
        | inl old ↦ subst (λ (x : PoolJob). IsBeside x.job r.job) new.1 (beside_other r.job j0 (beside_new k r old.1 run_r))
        | inr also ↦ absurd (other (new.0 ∙ sym also.0))
      ]
    ]

    stands_then : StandsAt s time id grown p2.log t2 z few u.known
    stands_then = record {
      log_is = ap (λ (l : List Change). l ++ begin_changes id take) u.stands.log_is;
      slots = u.stands.slots;
      contents_are = u.stands.contents_are;
      held = runs0.held;
      all_known = λ d there. u.stands.all_known d (among_begun take u.archive u.records d there);
      low = λ d there. (let low = u.stands.low d there in omega (arith, low, greater));
      fair = u.stands.fair;
      heads = heads_raised top id _ (omega (arith, greater)) u.stands.heads;
      short = u.stands.short;
    }

    -- Behind the begin all of them are underway, with the new one's id as the greatest.
    pub begun_underway : AllUnderway s time id grown p2
    begun_underway = record {
      archive = z;
      records = few;
      known = u.known;
      put = put2;
      stands = stands_then;
      each = each_then;
      apart = apart_then;
      rest = record {
        log = refl;
        tapes = λ c free. u.rest.tapes c (λ n q at runs waits same. free n q (more_get p.jobs q0 n q at) runs waits same);
      };
    }

  -- ---- one that takes its first tape, by the choice of tapes

  module _ (p : PoolPoint) (u : AllUnderway s time top grown p) (o : DumpOrder) (few : o.time ≤ 4294967295) (unspent : (after u.archive.log).greatest < 4294967295) (heads : HeadsAreBelow u.archive.slots o.time (after u.archive.log).greatest) (parent : HasParent (listed_of u.archive) o.parent)
      (greater : top < new_id o.time (after u.archive.log).greatest) (t : FirstTape) (tape : TakenBy o (listed_of u.archive) u.archive.slots t) (changes : AreChanges (begin_changes (new_id o.time (after u.archive.log).greatest) t.take))
      (forms : HasForms (begun_job o (listed_of u.archive) (new_id o.time (after u.archive.log).greatest) t)) (good : HasGoodPlaces s.cell o.volumes) (time_is : o.time ≡ time)
      (is_grown : IsGrown s time grown (begun_job o (listed_of u.archive) (new_id o.time (after u.archive.log).greatest) t)) (ports : (n : ℕ) (q : PoolJob) → slice_get p.jobs n ≡ Some q → AreApart q.job.port o.port) where
    abbrev its : ℕ
    its = new_id o.time (after u.archive.log).greatest

    abbrev job : JobFields
    job = begun_job o (listed_of u.archive) its t

    on_port : IsOnPort job
    on_port = record {
      reel = subst (λ (x : FirstTape). IsAmong o.port x.reel.slot) tape.is (chosen_among (listed_of u.archive) (wanting_of o (listed_of u.archive) tape.initial (numbered tape.base tape.number)) o.port u.archive.slots tape.one tape.choice);
      filled = λ f there. absurd (omega (arith, there.1));
    }

    parent_known : (d : DumpRecordFields) → record_of (listed_of u.archive) o.parent ≡ Some d → Contains u.known d
    parent_known d is = u.stands.all_known d (u.stands.held.seen.kept.dumps.complete d (inl (record_is_there (listed_of u.archive) o.parent d is).0))

    -- Behind its begin it is one of those that are underway.
    pub taken_underway : AllUnderway s time its grown (record { log = p.log ++ begin_changes its t.take; state = come (commits (encoded (begin_changes its t.take)) ∷ []) p.state; jobs = p.jobs ++ record { job = job; steps = 0; end = None } ∷ [] })
    taken_underway =
        let runs = taken_runs p.state u.archive u.records u.stands.held o few unspent heads parent t tape changes in
        begun_underway p u its greater t.take job refl runs.0 runs.1 tt on_port forms good time_is is_grown parent_known parent ports
