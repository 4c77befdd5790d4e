-- Dumps that take turns keep the archive: a turn leaves all of them running that ran.
use Rattle.std.proofs.Common.{◌≡◌, ◌⊎◌, ℕ, zero, suc, ◌≤◌, Bool, true, false, Option, Some, None, List, [], ◌∷◌, ◌++◌, length, map, take, refl, sym, ap, subst, ◌∙◌, arith, inl, inr, append-nil}
use Rattle.std.specs.Prelude.{if◌then◌else◌, All as AllOf, Contains, slice_get, ◌==◌}
use Rattle.std.proofs.lemmas.Bool.{cases_Bool, eqb-true, eq-eqb}
use Rattle.std.proofs.lemmas.List.{take_all}
use Rattle.cell_core.specs.Cells.{IsCell}
use Rattle.cell_core.specs.Fairness.{NoneIsMadeAfter, NoSourceHasBackupName}
use Rattle.cell_core.specs.Forms.{IsStoredForm}
use Rattle.budb_changes.specs.declared.records.DumpRecordFields.{DumpRecordFields}
use Rattle.budb_changes.specs.declared.change.Change.{Change}
use Rattle.budb_fold.specs.Database.{after}
use Rattle.plant_core.specs.Records.{Record}
use Rattle.plant_core.specs.Crashes.{State, Alike}
use Rattle.plant_core.specs.Effects.{Effect, settles, cuts, comes, come}
use Rattle.plant_effects.proofs.States.{come_append}
use Rattle.tape_scan.specs.Slots.{Slot}
use Rattle.tape_answers.specs.Slots.{slots_of}
use Rattle.tape_config.specs.declared.port.PortFields.{PortFields}
use Rattle.archive_model.specs.Archives.{Archive, listed_of}
use Rattle.archive_model.specs.Settled.{HoldsSettled}
use Rattle.archive_model.specs.Turns.{StillHeld}
use Rattle.archive_model.proofs.AlikeLaws.{alike_hold}
use Rattle.archive_model.proofs.StepLaws.{settling_holds}
use Rattle.dump_job.specs.declared.answer.StepAnswer.{StepAnswer}
use Rattle.dump_job.specs.declared.answer.StepAnswer.TheVariants as answers
use Rattle.dump_job.specs.declared.fields.Filled.{Filled}
use Rattle.dump_job.specs.declared.fields.JobFields.{JobFields}
use Rattle.dump_job.specs.declared.fields.Phase.{Phase}
use Rattle.dump_job.specs.declared.fields.Phase.TheVariants as phase
use Rattle.dump_job.specs.Ending.{done_record}
use Rattle.dump_job.specs.Settling.{last_cut_by, last_cut}
use Rattle.dump_job.specs.Events.{Event, event}
use Rattle.dump_laws.specs.Made.{Made}
use Rattle.dump_laws.specs.Running.{RunsIn}
use Rattle.dump_laws.specs.Keeping.{contents_behind, clones_behind, dumps_behind, Keeps as KeepsDump}
use Rattle.dump_laws.proofs.LoadLaws.{alike_runs, loads_run}
use Rattle.dump_courses.specs.Scenes.{Scene}
use Rattle.dump_courses.specs.Courses.{goes_on, around, next_event}
use Rattle.dump_commands.specs.Answers.{Contents}
use Rattle.dump_archives.specs.Keeping.{HeadsUpTo}
use Rattle.dump_archives.proofs.Fields.{IsRunning}
use Rattle.dump_archives.proofs.Heads.{stays_then}
use Rattle.dump_archives.proofs.Keeping.{archive_at, HoldsAt, keeps_then}
use Rattle.dump_archives.proofs.Lasts.{event_over}
use Rattle.dump_archives.proofs.Slots.{ReadOnce}
use Rattle.tape_config.specs.Ports.{IsAmong, AreApart}
use Rattle.tape_config.proofs.PortLaws.{none_of_both}
use Rattle.pool_laws.specs.Beside.{IsBeside}
use Rattle.job_pool.specs.declared.ends.JobEnd.{JobEnd}
use Rattle.job_pool.specs.declared.jobs.PoolJob.{PoolJob}
use Rattle.job_pool.specs.declared.turn.Turn.{Turn}
use Rattle.job_pool.specs.declared.turn.Turn.TheVariants.{Step, Kill}
use Rattle.job_pool.specs.Pools.{PoolPoint, PoolEvent, PoolCourse, point_of, with_job, nothing_done, end_by, stepped, killed, settling_at, step_event, kill_event, unless_ended, step_at, kill_at, turn_event, behind, interleaved}
use Rattle.job_pool.proofs.Pooling.{with_get, get_with, get_own}
use Rattle.group_commands.proofs.Effects.{unequal, stays_elsewhere, event_on}
use Rattle.pool_laws.proofs.Fields.{Same, event_same}
use Rattle.pool_laws.proofs.Beside.{runs_beside}
use Rattle.group_commands.specs.Settled.{MayWait, IsFree}
use Rattle.pool_laws.specs.Underway.{IsUnderway, StandsAt, AllUnderway, KeepsAll, TurnKept, CourseKept}
use Rattle.group_commands.proofs.Settled.{own_settled, log_stays_settled}
use Rattle.pool_laws.proofs.Stepping.{kept, known_then, known_is, known_more, way_of, up_of, stands_then, finds, underway_then}

-- ---- lists of dumps

-- what a dump has put, by its number
pub put_with : ℕ → Made → (ℕ → Made) → ℕ → Made
put_with n m put k = if k == n then m else put k

pub put_own : (n : ℕ) (m : Made) (put : ℕ → Made) (k : ℕ) → k ≡ n → put_with n m put k ≡ m
unfolding put_with
put_own n m put k same = (let hit : (k == n) ≡ true = eq-eqb k n same in rw hit refl)

pub put_other : (n : ℕ) (m : Made) (put : ℕ → Made) (k : ℕ) → (k ≡ n → ⊥) → put_with n m put k ≡ put k
unfolding put_with
put_other n m put k other = (let miss : (k == n) ≡ false = unequal k n other in rw miss refl)

-- ---- ends

runs_on : (a : StepAnswer) → end_by a ≡ None → goes_on a ≡ true
runs_on answers.More none = refl
runs_on (answers.Done id) none = absurd (cc)
runs_on (answers.Refused fault) none = absurd (cc)
runs_on answers.PlantFailed none = absurd (cc)
runs_on answers.CellFailed none = absurd (cc)
runs_on answers.Memory none = absurd (cc)

no_end : (a : StepAnswer) → goes_on a ≡ true → end_by a ≡ None
no_end answers.More more = refl
no_end (answers.Done id) more = absurd (cc)
no_end (answers.Refused fault) more = absurd (cc)
no_end answers.PlantFailed more = absurd (cc)
no_end answers.CellFailed more = absurd (cc)
no_end answers.Memory more = absurd (cc)

-- ---- dumps beside each other

apart_other : (p q : PortFields) → AreApart p q → AreApart q p
apart_other p q (inl before) = inr before
apart_other p q (inr behind) = inl behind

pub beside_other : (i j : JobFields) → IsBeside i j → IsBeside j i
beside_other i j b = record { ports = apart_other i.port j.port b.ports; ids = λ same. b.ids (sym same); above = b.below; below = b.above }

beside_then : (i k j : JobFields) → Same i k → IsBeside i j → IsBeside k j
beside_then i k j same b = record {
  ports = subst (λ (p : PortFields). AreApart p j.port) (sym same.port) b.ports;
  ids = λ is. b.ids (sym same.id ∙ is);
  above = λ is. b.above (sym same.above ∙ is);
  below = λ is. b.below (is ∙ same.id);
}

not_over : (p : Phase) → IsRunning p → p ≡ phase.Over → ⊥
not_over p run over = subst IsRunning over run

none_waits : (p : Phase) → p ≡ phase.Over → MayWait p → ⊥
none_waits p over waits = subst MayWait over waits

module _ (once : ReadOnce) (s : Scene) (time top : ℕ) (grown : Contents) (is_cell : IsCell s.cell) (stored : AllOf IsStoredForm s.cell) (made : NoneIsMadeAfter time s.cell) (named : NoSourceHasBackupName s.cell) where
  abbrev Stands : List Change → State → Archive → List DumpRecordFields → List DumpRecordFields → Type 0
  Stands log t a records known = StandsAt s time top grown log t a records known

  abbrev Under : State → Archive → List DumpRecordFields → List DumpRecordFields → JobFields → Made → Type 0
  Under t a records known j m = IsUnderway s time top grown t a records known j m

  abbrev IsLow : DumpRecordFields → Type 0
  IsLow d = d.id ≤ top

  abbrev All : PoolPoint → Type 0
  All p = AllUnderway s time top grown p

  abbrev Kept : PoolPoint → PoolEvent → Type 0
  Kept p e = TurnKept s time top grown p e

  -- ---- the archive as it stands

  archive_is : (log : List Change) (t : State) (a : Archive) (records known : List DumpRecordFields) → Stands log t a records known → a ≡ archive_at s.slots s.present grown log t.tape
  archive_is log t a records known st = λ i. record { log = st.log_is i; slots = st.slots i; contents = st.contents_are i }

  holds_at : (log : List Change) (t : State) (a : Archive) (records known : List DumpRecordFields) → Stands log t a records known → HoldsAt s.slots s.present grown IsLow log t
  holds_at log t a records known st = (records, subst (λ (x : Archive). HoldsSettled t x records) (archive_is log t a records known st) st.held, λ d there. st.low d (st.all_known d there))

  -- ---- a step

  module _ (p : PoolPoint) (u : All p) (n : ℕ) (q : PoolJob) (at : slice_get p.jobs n ≡ Some q) (running : q.end ≡ None) where
    own : Under p.state u.archive u.records u.known q.job (u.put n)
    own = u.each n q at running

    abbrev ev : Event
    ev = next_event s (point_of p q)

    abbrev st : PoolEvent
    st = step_event s p n q

    -- in short: what stands behind it
    abbrev t2 : State
    t2 = come ev.effects p.state

    abbrev k : KeepsDump p.state u.archive u.records (contents_behind u.archive q.job (u.put n) q.job.phase) (clones_behind (around s (point_of p q)) q.job (u.put n) q.job.phase) (dumps_behind u.records q.job q.job.phase) ev.effects ev.changes ev.job
    k = kept once s time top grown is_cell stored made named p.log p.state u.archive u.records u.known u.stands q.job (u.put n) own

    abbrev known2 : List DumpRecordFields
    known2 = known_then once s time top grown is_cell stored made named p.log p.state u.archive u.records u.known u.stands q.job (u.put n) own

    put2 : ℕ → Made
    put2 = put_with n k.made u.put

    more_known : (d : DumpRecordFields) → Contains u.known d → Contains known2 d
    more_known = known_more once s time top grown is_cell stored made named p.log p.state u.archive u.records u.known u.stands q.job (u.put n) own

    known_or : (d : DumpRecordFields) → Contains known2 d → Contains u.known d ⊎ (done_record q.job ≡ d)
    known_or = known_is once s time top grown is_cell stored made named p.log p.state u.archive u.records u.known u.stands q.job (u.put n) own

    -- another dump runs on
    other_under : (l : ℕ) (r : PoolJob) → (l ≡ n → ⊥) → slice_get p.jobs l ≡ Some r → r.end ≡ None → Under t2 k.last.archive k.last.records known2 r.job (u.put l)
    other_under l r other there runs =
        let old = u.each l r there runs in
        let beside : IsBeside q.job r.job = u.apart n l q r at there running runs (λ same. other (sym same)) in
        record {
          runs = runs_beside once p.state u.archive u.records (around s (point_of p q)) q.job (u.put n) own.runs own.on k (event_same (around s (point_of p q)) q.job).id r.job (u.put l) old.runs old.on beside;
          running = old.running;
          on = old.on;
          forms = old.forms;
          good = old.good;
          time_is = old.time_is;
          clones = old.clones;
          is_grown = old.is_grown;
          parent_known = λ d is. more_known d (old.parent_known d is);
          new = λ d among same. elim (known_or d among) [
            | inl was ↦ old.new d was same
            | inr now ↦ beside.ids (ap (λ (x : DumpRecordFields). x.id) now ∙ same)
          ];
          low = old.low;
        }

    each_then : (l : ℕ) (r : PoolJob) → slice_get st.jobs l ≡ Some r → r.end ≡ None → Under t2 k.last.archive k.last.records known2 r.job (put2 l)
    unfolding put2
    each_then l r there runs = elim (with_get n (stepped q ev) p.jobs l r there) [
      | inl here ↦
          (let more : goes_on ev.answer ≡ true = runs_on ev.answer (ap (λ (x : PoolJob). x.end) here.1 ∙ runs) in
          let new : Under t2 k.last.archive k.last.records known2 ev.job k.made = underway_then once s time top grown is_cell stored made named p.log p.state u.archive u.records u.known u.stands q.job (u.put n) own more in
          subst (λ (x : PoolJob). Under t2 k.last.archive k.last.records known2 x.job (put_with n k.made u.put l)) here.1
          (subst (λ (m : Made). Under t2 k.last.archive k.last.records known2 ev.job m) (sym (put_own n k.made u.put l here.0)) new))
      | inr other ↦
          subst (λ (m : Made). Under t2 k.last.archive k.last.records known2 r.job m) (sym (put_other n k.made u.put l other.0)) (other_under l r other.0 other.1 runs)
    ]

    its_same : Same q.job ev.job
    its_same = event_same (around s (point_of p q)) q.job

    -- the dump that made the step, and one of the others
    own_beside : (r x : PoolJob) (l : ℕ) → (l ≡ n → ⊥) → slice_get p.jobs l ≡ Some r → r.end ≡ None → stepped q ev ≡ x → IsBeside x.job r.job
    own_beside r x l other there runs is = subst (λ (y : PoolJob). IsBeside y.job r.job) is (beside_then q.job ev.job r.job its_same (u.apart n l q r at there running runs (λ same. other (sym same))))

    apart_then : (l o : ℕ) (x y : PoolJob) → slice_get st.jobs l ≡ Some x → slice_get st.jobs o ≡ Some y → x.end ≡ None → y.end ≡ None → (l ≡ o → ⊥) → IsBeside x.job y.job
    apart_then l o x y at_l at_o run_x run_y other = elim (with_get n (stepped q ev) p.jobs l x at_l) [
      | inl here ↦ elim (with_get n (stepped q ev) p.jobs o y at_o) [
        | inl also ↦ absurd (other (here.0 ∙ sym also.0))
        | inr old ↦ own_beside y x o old.0 old.1 run_y here.1
      ]
      | inr was ↦ elim (with_get n (stepped q ev) p.jobs o y at_o) [
        | inl also ↦ beside_other y.job x.job (own_beside x y l was.0 was.1 run_x also.1)
        | inr old ↦ u.apart l o x y was.1 old.1 run_x run_y other
      ]
    ]

    -- ---- what is settled

    -- no other dump has the tape in hand
    free_of_others : (l : ℕ) (r : PoolJob) → (l ≡ n → ⊥) → slice_get p.jobs l ≡ Some r → r.end ≡ None → r.job.reel.slot ≡ q.job.reel.slot → ⊥
    free_of_others l r other there runs same =
        let beside : IsBeside q.job r.job = u.apart n l q r at there running runs (λ is. other (sym is)) in
        none_of_both q.job.port r.job.port beside.ports r.job.reel.slot (subst (λ (c : ℕ). IsAmong q.job.port c) (sym same) own.on.reel) (u.each l r there runs).on.reel

    by_number : (l : ℕ) → (l ≡ n) ⊎ (l ≡ n → ⊥)
    by_number l = elim (cases_Bool (l == n)) [
      | inl hit ↦ inl (eqb-true l n hit)
      | inr miss ↦ inr (λ same. absurd (let hit : (l == n) ≡ true = eq-eqb l n same in let e : true ≡ false = sym hit ∙ miss in cc))
    ]

    own_before : (MayWait q.job.phase → ⊥) → p.state.settled q.job.reel.slot ≡ length (p.state.tape q.job.reel.slot)
    own_before none = u.rest.tapes q.job.reel.slot (λ l r there runs waits same. elim (by_number l) [
      | inl is ↦ none (subst (λ (x : PoolJob). MayWait x.job.phase) (got l r is there) waits)
      | inr other ↦ free_of_others l r other there runs same
    ])
      where
        got : (l : ℕ) (r : PoolJob) → l ≡ n → slice_get p.jobs l ≡ Some r → r ≡ q
        got l r is there = (let both : Some r ≡ Some q = sym there ∙ ap (λ (i : ℕ). slice_get p.jobs i) is ∙ at in cc)

    -- behind the step
    own_waits : IsFree st.jobs q.job.reel.slot → MayWait ev.job.phase → ev.job.reel.slot ≡ q.job.reel.slot → ⊥
    own_waits free waits same = elim (cases_Bool (goes_on ev.answer)) [
      | inl more ↦ free n (stepped q ev) (get_own n (stepped q ev) q p.jobs at) (no_end ev.answer more) waits same
      | inr last ↦ none_waits ev.job.phase (event_over (around s (point_of p q)) q.job own.running (finds once s time top grown is_cell stored made named p.log p.state u.archive u.records u.known u.stands q.job (u.put n) own) last) waits
    ]

    free_before : (c : ℕ) → (c ≡ q.job.reel.slot → ⊥) → IsFree st.jobs c → IsFree p.jobs c
    free_before c other free l r there runs waits same = elim (by_number l) [
      | inl is ↦ (let both : Some r ≡ Some q = sym there ∙ ap (λ (i : ℕ). slice_get p.jobs i) is ∙ at in let got : r ≡ q = cc in other (sym same ∙ ap (λ (x : PoolJob). x.job.reel.slot) got))
      | inr elsewhere ↦ free l r (get_with n (stepped q ev) p.jobs l r elsewhere there) runs waits same
    ]

    rest_at : (c : ℕ) → IsFree st.jobs c → t2.settled c ≡ length (t2.tape c)
    rest_at c free = elim (cases_Bool (c == q.job.reel.slot)) [
      | inl hit ↦
          (let same : c ≡ q.job.reel.slot = eqb-true c q.job.reel.slot hit in
          let mine = own_settled (around s (point_of p q)) q.job p.state u.rest.log own_before (own_waits (subst (IsFree st.jobs) same free)) in
          subst (λ (x : ℕ). t2.settled x ≡ length (t2.tape x)) (sym same) mine)
      | inr miss ↦
          (let other : c ≡ q.job.reel.slot → ⊥ = λ same. absurd (let hit : (c == q.job.reel.slot) ≡ true = eq-eqb c q.job.reel.slot same in let e : true ≡ false = sym hit ∙ miss in cc) in
          let stays = stays_elsewhere q.job.reel.slot ev.effects p.state (event_on (around s (point_of p q)) q.job) c other in
          stays.1 ∙ u.rest.tapes c (free_before c other free) ∙ ap length (sym stays.0))
    ]

    pub step_kept : Kept p st
    step_kept = (
      record {
        way = way_of once s time top grown is_cell stored made named p.log p.state u.archive u.records u.known u.stands q.job (u.put n) own;
        up = up_of once s time top grown is_cell stored made named p.log p.state u.archive u.records u.known u.stands q.job (u.put n) own;
      },
      record {
        archive = k.last.archive;
        records = k.last.records;
        known = known2;
        put = put2;
        stands = stands_then once s time top grown is_cell stored made named p.log p.state u.archive u.records u.known u.stands q.job (u.put n) own;
        each = each_then;
        apart = apart_then;
        rest = record { log = log_stays_settled (around s (point_of p q)) q.job p.state u.rest.log own_before; tapes = rest_at };
      },
    )

  -- ---- a cut at its own length

  module _ (t : State) (c : ℕ) where
    abbrev cut : State
    cut = comes (cuts c (length (t.tape c))) t

    cut_tape : (j : ℕ) → cut.tape j ≡ t.tape j
    cut_tape j = elim (cases_Bool (j == c)) [
      | inl hit ↦
          (let same : j ≡ c = eqb-true j c hit in
          let all : take (length (t.tape c)) (t.tape j) ≡ t.tape j = subst (λ (x : ℕ). take (length (t.tape c)) (t.tape x) ≡ t.tape x) (sym same) (take_all (length (t.tape c)) (t.tape c) (omega arith)) in
          rw hit all)
      | inr miss ↦ rw miss refl
    ]

    cut_tapes : cut.tape ≡ t.tape
    cut_tapes = λ i. λ j. cut_tape j i

    cut_settled_at : (j : ℕ) → cut.settled j ≡ (comes (settles c) t).settled j
    cut_settled_at j = elim (cases_Bool (j == c)) [
      | inl hit ↦
          (let same : j ≡ c = eqb-true j c hit in
          let all : length (take (length (t.tape c)) (t.tape j)) ≡ length (t.tape j) = ap length (subst (λ (x : ℕ). take (length (t.tape c)) (t.tape x) ≡ t.tape x) (sym same) (take_all (length (t.tape c)) (t.tape c) (omega arith))) in
          rw hit all)
      | inr miss ↦ rw miss refl
    ]

    cut_alike : Alike (comes (settles c) t) cut
    cut_alike = record { log = refl; tape = cut_tape; told = refl; log_settled = refl; settled = cut_settled_at }

    pub cut_holds : (a : Archive) (records : List DumpRecordFields) → HoldsSettled t a records → HoldsSettled cut a records
    cut_holds a records held = alike_hold (comes (settles c) t) cut a records cut_alike (settling_holds t a records c held)

    pub cut_runs : (a : Archive) (records : List DumpRecordFields) (j : JobFields) (m : Made) → RunsIn t a records j m → RunsIn cut a records j m
    cut_runs a records j m r = alike_runs (comes (settles c) t) cut a records j m cut_alike (loads_run (c ∷ []) t a records j m r)

    cut_own : (j : ℕ) → j ≡ c → cut.settled j ≡ length (cut.tape j)
    cut_own j same = (let hit : (j == c) ≡ true = eq-eqb j c same in rw hit refl)

    cut_other : (j : ℕ) → (j ≡ c → ⊥) → (cut.settled j ≡ t.settled j)
    cut_other j other = (let miss : (j == c) ≡ false = unequal j c other in rw miss refl)

  -- the plant behind a kill
  kill_stands : (log : List Change) (t : State) (a : Archive) (records known : List DumpRecordFields) (o : Option ℕ) → Stands log t a records known → Stands (log ++ []) (come (settling_at o t) t) a records known
  kill_stands log t a records known None st = subst (λ (l : List Change). Stands l t a records known) (sym (append-nil log)) st
  kill_stands log t a records known (Some c) st = subst (λ (l : List Change). Stands l (cut t c) a records known) (sym (append-nil log)) (record {
    log_is = st.log_is;
    slots = st.slots ∙ ap (λ (tape : ℕ → List Record). slots_of s.slots s.present tape) (sym (cut_tapes t c));
    contents_are = st.contents_are;
    held = cut_holds t c a records st.held;
    all_known = st.all_known;
    low = st.low;
    fair = st.fair;
    heads = subst (λ (tape : ℕ → List Record). HeadsUpTo top (slots_of s.slots s.present tape)) (sym (cut_tapes t c)) st.heads;
    short = λ j. subst (λ (l : List Record). length l ≤ 4294967295) (sym (cut_tape t c j)) (st.short j);
  })

  kill_under : (t : State) (a : Archive) (records known : List DumpRecordFields) (o : Option ℕ) (j : JobFields) (m : Made) → Under t a records known j m → Under (come (settling_at o t) t) a records known j m
  kill_under t a records known None j m x = x
  kill_under t a records known (Some c) j m x = record {
    runs = cut_runs t c a records j m x.runs;
    running = x.running;
    on = x.on;
    forms = x.forms;
    good = x.good;
    time_is = x.time_is;
    clones = x.clones;
    is_grown = x.is_grown;
    parent_known = x.parent_known;
    new = x.new;
    low = x.low;
  }

  same_still : (listed : List DumpRecordFields) (slots : List Slot) → StillHeld listed slots slots
  same_still listed slots d tape q x there at held = (x, at, held)

  kill_keeps : (log : List Change) (t : State) (a : Archive) (records known : List DumpRecordFields) (o : Option ℕ) → Stands log t a records known → KeepsAll s top grown log t (settling_at o t) (log ++ [])
  kill_keeps log t a records known None st = record { way = (holds_at log t a records known st, append-nil log); up = st.heads }
  kill_keeps log t a records known (Some c) st =
      let after_cut : Stands (log ++ []) (cut t c) a records known = kill_stands log t a records known (Some c) st in
      let there : Stands log (cut t c) a records known = subst (λ (l : List Change). Stands l (cut t c) a records known) (append-nil log) after_cut in
      let same : slots_of s.slots s.present t.tape ≡ slots_of s.slots s.present (cut t c).tape = ap (λ (tape : ℕ → List Record). slots_of s.slots s.present tape) (sym (cut_tapes t c)) in
      record {
        way = (
          holds_at log t a records known st,
          (
            subst (λ (l : List Slot). StillHeld (after log).listed (slots_of s.slots s.present t.tape) l) same (same_still (after log).listed (slots_of s.slots s.present t.tape)),
            (holds_at log (cut t c) a records known there, append-nil log),
          ),
        );
        up = (st.heads, there.heads);
      }

  -- the tape that a dump cut last is the one in hand, where records may wait there
  cut_last : (j : JobFields) (ph : Phase) → j.phase ≡ ph → MayWait ph → last_cut j ≡ Some j.reel.slot
  cut_last j phase.Tape is waits = absurd waits
  cut_last j phase.Clone is waits = ap (λ (x : Phase). last_cut_by x j.filled j.reel.slot) is
  cut_last j phase.Head is waits = ap (λ (x : Phase). last_cut_by x j.filled j.reel.slot) is
  cut_last j phase.Piece is waits = ap (λ (x : Phase). last_cut_by x j.filled j.reel.slot) is
  cut_last j phase.VolumeEnd is waits = ap (λ (x : Phase). last_cut_by x j.filled j.reel.slot) is
  cut_last j phase.PartEnd is waits = ap (λ (x : Phase). last_cut_by x j.filled j.reel.slot) is
  cut_last j phase.DumpEnd is waits = ap (λ (x : Phase). last_cut_by x j.filled j.reel.slot) is
  cut_last j phase.Over is waits = absurd waits

  -- what is settled behind a kill
  settling_rest : (t : State) (o : Option ℕ) → t.log_settled ≡ length t.log → (c : ℕ) → ((o ≡ Some c → ⊥) → t.settled c ≡ length (t.tape c)) → (come (settling_at o t) t).settled c ≡ length ((come (settling_at o t) t).tape c)
  settling_rest t None log c own = own (λ is. absurd (cc))
  settling_rest t (Some d) log c own = elim (cases_Bool (c == d)) [
    | inl hit ↦ cut_own t d c (eqb-true c d hit)
    | inr miss ↦
        (let other : c ≡ d → ⊥ = λ same. absurd (let hit : (c == d) ≡ true = eq-eqb c d same in let e : true ≡ false = sym hit ∙ miss in cc) in
        cut_other t d c other ∙ own (λ is. other (let same : d ≡ c = cc in sym same)) ∙ ap length (sym (cut_tape t d c)))
  ]

  settling_log : (t : State) (o : Option ℕ) → t.log_settled ≡ length t.log → (come (settling_at o t) t).log_settled ≡ length (come (settling_at o t) t).log
  settling_log t None log = log
  settling_log t (Some c) log = log

  -- ---- a kill

  module _ (p : PoolPoint) (u : All p) (n : ℕ) (q : PoolJob) (at : slice_get p.jobs n ≡ Some q) (running : q.end ≡ None) where
    abbrev killing : PoolEvent
    killing = kill_event p n q

    abbrev t3 : State
    t3 = come (settling_at (last_cut q.job) p.state) p.state

    ended : killed q ≡ killed q → (killed q).end ≡ None → ⊥
    ended same none = absurd (cc)

    kill_each : (l : ℕ) (r : PoolJob) → slice_get killing.jobs l ≡ Some r → r.end ≡ None → Under t3 u.archive u.records u.known r.job (u.put l)
    kill_each l r there runs = elim (with_get n (killed q) p.jobs l r there) [
      | inl here ↦ absurd (ended refl (ap (λ (x : PoolJob). x.end) here.1 ∙ runs))
      | inr other ↦ kill_under p.state u.archive u.records u.known (last_cut q.job) r.job (u.put l) (u.each l r other.1 runs)
    ]

    kill_apart : (l o : ℕ) (x y : PoolJob) → slice_get killing.jobs l ≡ Some x → slice_get killing.jobs o ≡ Some y → x.end ≡ None → y.end ≡ None → (l ≡ o → ⊥) → IsBeside x.job y.job
    kill_apart l o x y at_l at_o run_x run_y other = elim (with_get n (killed q) p.jobs l x at_l) [
      | inl here ↦ absurd (ended refl (ap (λ (j : PoolJob). j.end) here.1 ∙ run_x))
      | inr was ↦ elim (with_get n (killed q) p.jobs o y at_o) [
        | inl also ↦ absurd (ended refl (ap (λ (j : PoolJob). j.end) also.1 ∙ run_y))
        | inr old ↦ u.apart l o x y was.1 old.1 run_x run_y other
      ]
    ]

    kill_free : (c : ℕ) → IsFree killing.jobs c → (last_cut q.job ≡ Some c → ⊥) → IsFree p.jobs c
    kill_free c free uncut l r there runs waits same = elim (cases_Bool (l == n)) [
      | inl hit ↦
          (let is : l ≡ n = eqb-true l n hit in
          let both : Some r ≡ Some q = sym there ∙ ap (λ (i : ℕ). slice_get p.jobs i) is ∙ at in
          let got : r ≡ q = cc in
          let mine : MayWait q.job.phase = subst (λ (x : PoolJob). MayWait x.job.phase) got waits in
          let slot : q.job.reel.slot ≡ c = sym (ap (λ (x : PoolJob). x.job.reel.slot) got) ∙ same in
          uncut (cut_last q.job q.job.phase refl mine ∙ ap Some slot))
      | inr miss ↦ free l r (get_with n (killed q) p.jobs l r (λ is. absurd (let hit : (l == n) ≡ true = eq-eqb l n is in let e : true ≡ false = sym hit ∙ miss in cc)) there) runs waits same
    ]

    pub kill_kept : Kept p killing
    kill_kept = (
      kill_keeps p.log p.state u.archive u.records u.known (last_cut q.job) u.stands,
      record {
        archive = u.archive;
        records = u.records;
        known = u.known;
        put = u.put;
        stands = kill_stands p.log p.state u.archive u.records u.known (last_cut q.job) u.stands;
        each = kill_each;
        apart = kill_apart;
        rest = record {
          log = settling_log p.state (last_cut q.job) u.rest.log;
          tapes = λ c free. settling_rest p.state (last_cut q.job) u.rest.log c (λ uncut. u.rest.tapes c (kill_free c free uncut));
        };
      },
    )

  -- ---- a turn

  nothing_kept : (p : PoolPoint) → All p → Kept p (nothing_done p)
  nothing_kept p u = (
    record { way = (holds_at p.log p.state u.archive u.records u.known u.stands, append-nil p.log); up = u.stands.heads },
    subst (λ (l : List Change). All (record { log = l; state = p.state; jobs = p.jobs })) (sym (append-nil p.log)) u,
  )

  step_by : (p : PoolPoint) → All p → (n : ℕ) (q : PoolJob) → slice_get p.jobs n ≡ Some q → (o : Option JobEnd) → q.end ≡ o → Kept p (unless_ended o p (step_event s p n q))
  step_by p u n q at None is = step_kept p u n q at is
  step_by p u n q at (Some end) is = nothing_kept p u

  step_of : (p : PoolPoint) → All p → (n : ℕ) (o : Option PoolJob) → slice_get p.jobs n ≡ o → Kept p (step_at s p n o)
  step_of p u n None is = nothing_kept p u
  step_of p u n (Some q) is = step_by p u n q is q.end refl

  kill_by : (p : PoolPoint) → All p → (n : ℕ) (q : PoolJob) → slice_get p.jobs n ≡ Some q → (o : Option JobEnd) → q.end ≡ o → Kept p (unless_ended o p (kill_event p n q))
  kill_by p u n q at None is = kill_kept p u n q at is
  kill_by p u n q at (Some end) is = nothing_kept p u

  kill_of : (p : PoolPoint) → All p → (n : ℕ) (o : Option PoolJob) → slice_get p.jobs n ≡ o → Kept p (kill_at p n o)
  kill_of p u n None is = nothing_kept p u
  kill_of p u n (Some q) is = kill_by p u n q is q.end refl

  pub turn_kept : (p : PoolPoint) → All p → (t : Turn) → Kept p (turn_event s p t)
  turn_kept p u (Step n) = step_of p u n (slice_get p.jobs n) refl
  turn_kept p u (Kill n) = kill_of p u n (slice_get p.jobs n) refl

  -- ---- a list of turns

  pub course_kept : (turns : List Turn) (p : PoolPoint) → All p → CourseKept s time top grown p (interleaved s p turns)
  course_kept [] p u = (record { way = (holds_at p.log p.state u.archive u.records u.known u.stands, refl); up = u.stands.heads }, u)
  course_kept (t ∷ turns) p u =
      let e : PoolEvent = turn_event s p t in
      let one = turn_kept p u t in
      let rest = course_kept turns (behind p e) one.1 in
      let c : PoolCourse = interleaved s (behind p e) turns in
      let state : come (e.effects ++ c.effects) p.state ≡ come c.effects (come e.effects p.state) = come_append e.effects c.effects p.state in (
        record {
          way = keeps_then s.slots s.present grown IsLow e.effects c.effects p.state p.log (p.log ++ e.changes) c.log one.0.way rest.0.way;
          up = stays_then top s.slots s.present e.effects c.effects p.state one.0.up rest.0.up;
        },
        subst (λ (x : State). All (record { log = c.log; state = x; jobs = c.jobs })) (sym state) rest.1,
      )
