-- What is settled behind a group: all, where all was before.
use Rattle.std.proofs.Common.{◌≡◌, ◌⊎◌, ℕ, ◌<◌, ◌≤◌, true, false, Option, Some, None, List, [], ◌∷◌, ◌++◌, length, take, refl, sym, ap, subst, ◌∙◌, arith, inl, inr}
use Rattle.std.specs.Prelude.{◌==◌, All, Result, Ok, Err, slice_get}
use Rattle.std.proofs.lemmas.Bool.{cases_Bool, eqb-true, eq-eqb}
use Rattle.std.proofs.lemmas.List.{take_all}
use Rattle.std.proofs.lemmas.List.Elements.{All-cons, All-nil, All-head, All-tail}
use Rattle.cell_core.specs.declared.stored.Stored.{Stored}
use Rattle.plant_core.specs.Crashes.{State, IsSettled}
use Rattle.plant_core.specs.Effects.{Effect, commits, replaces, tells, puts, settles, cuts, comes, come}
use Rattle.plant_effects.proofs.States.{come_append}
use Rattle.tape_config.specs.declared.port.PortFields.{PortFields}
use Rattle.tape_frames.specs.declared.label.LabelFields.{LabelFields}
use Rattle.dump_job.specs.declared.answer.StepAnswer.{StepAnswer}
use Rattle.dump_job.specs.declared.answer.StepAnswer.TheVariants as answers
use Rattle.dump_job.specs.declared.fault.JobFault.{JobFault}
use Rattle.dump_job.specs.declared.fields.Hand.{Hand}
use Rattle.dump_job.specs.declared.fields.JobFields.{JobFields}
use Rattle.dump_job.specs.declared.fields.Phase.{Phase}
use Rattle.dump_job.specs.declared.fields.Phase.TheVariants as phase
use Rattle.dump_job.specs.declared.fields.Reel.{Reel}
use Rattle.dump_job.specs.declared.first_tapes.FirstTape.{FirstTape}
use Rattle.dump_job.specs.declared.order.DumpOrder.{DumpOrder}
use Rattle.dump_job.specs.Settling.{last_cut_by, last_cut}
use Rattle.dump_job.specs.Taping.{uses_for, reel_begun, phase_begun}
use Rattle.dump_job.specs.Events.{Around, Event, items_at, tape_event, event_by}
use Rattle.dump_courses.specs.Scenes.{Scene, database_in, entries_in}
use Rattle.dump_courses.specs.Courses.{goes_on, around, next_event}
use Rattle.backup_words.specs.declared.command.DumpCommand.{DumpCommand}
use Rattle.volume_sets.specs.Sets.{entries_under}
use Rattle.dump_commands.specs.Orders.{asked_port, order_of}
use Rattle.dump_commands.specs.Refusals.{fault_text, fault_of, refusal_by}
use Rattle.dump_commands.specs.Answers.{tape_for}
use Rattle.dump_commands.specs.Starts.{Start, start_on, start_or, order_start, port_start, dump_start}
use Rattle.dump_commands.proofs.EntryLaws.{IsGoodAt, expansion_within}
use Rattle.dump_commands.proofs.Passing.{passes}
use Rattle.dump_commands.proofs.Checks.{good_places}
use Rattle.job_pool.specs.declared.ends.JobEnd.{JobEnd}
use Rattle.job_pool.specs.declared.jobs.PoolJob.{PoolJob}
use Rattle.job_pool.specs.declared.turn.Turn.{Turn}
use Rattle.job_pool.specs.declared.turn.Turn.TheVariants.{Step, Kill}
use Rattle.job_pool.specs.declared.turn.Kill.{Kill as PoolKill}
use Rattle.job_pool.specs.Pools.{PoolPoint, PoolEvent, PoolCourse, point_of, end_by, stepped, killed, settling_at, step_event, kill_event, unless_ended, step_at, kill_at, turn_event, behind, interleaved}
use Rattle.job_pool.specs.Schedules.{AllEnded}
use Rattle.job_pool.specs.PoolCourses.{turns_left, scheduled, pool_course}
use Rattle.job_pool.proofs.Pooling.{with_get, get_with, get_own}
use Rattle.job_pool.proofs.CourseLaws.{course_ends}
use Rattle.group_commands.specs.Groups.{GroupView}
use Rattle.group_commands.specs.Begins.{job_in, start_event, group_course, scene_at, first_point, behind_begin, before_starts, starts_of, begins, kills_of}
use Rattle.group_commands.specs.Answers.{group_answer}
use Rattle.group_commands.specs.Settled.{MayWait, IsFree, IsRest}
use Rattle.group_commands.proofs.Effects.{unequal, stays_elsewhere, event_on}
use Rattle.group_commands.proofs.Settled.{own_settled, log_stays_settled}
use Rattle.group_commands.proofs.Going.{HasAt, HasNext, IsNext, event_next}
use Rattle.group_commands.proofs.Jobs.{get_more, more_get}

-- ---- ends

runs_on : (a : StepAnswer) → end_by a ≡ None → goes_on a ≡ true
runs_on answers.More none = refl
runs_on (answers.Done id) none = absurd (cc)
runs_on (answers.Refused fault) none = absurd (cc)
runs_on answers.PlantFailed none = absurd (cc)
runs_on answers.CellFailed none = absurd (cc)
runs_on answers.Memory none = absurd (cc)

no_end : (a : StepAnswer) → goes_on a ≡ true → end_by a ≡ None
no_end answers.More more = refl
no_end (answers.Done id) more = absurd (cc)
no_end (answers.Refused fault) more = absurd (cc)
no_end answers.PlantFailed more = absurd (cc)
no_end answers.CellFailed more = absurd (cc)
no_end answers.Memory more = absurd (cc)

none_waits : (p : Phase) → p ≡ phase.Over → MayWait p → ⊥
none_waits p over waits = subst MayWait over waits

-- ---- states with the same log

record SameLog (s t : State) : Type 0 where
  log : t.log ≡ s.log
  log_settled : t.log_settled ≡ s.log_settled

log_comes : (e : Effect) (s t : State) → SameLog s t → SameLog (comes e s) (comes e t)
log_comes (commits bytes) s t a = record { log = ap (λ (l : List ℕ). l ++ bytes) a.log; log_settled = ap (λ (l : List ℕ). length (l ++ bytes)) a.log }
log_comes (replaces bytes) s t a = record { log = refl; log_settled = refl }
log_comes (tells text) s t a = record { log = a.log; log_settled = a.log_settled }
log_comes (puts k r) s t a = record { log = a.log; log_settled = a.log_settled }
log_comes (settles k) s t a = record { log = a.log; log_settled = a.log_settled }
log_comes (cuts k n) s t a = record { log = a.log; log_settled = a.log_settled }

log_come : (es : List Effect) (s t : State) → SameLog s t → SameLog (come es s) (come es t)
log_come [] s t a = a
log_come (e ∷ es) s t a = log_come es (comes e s) (comes e t) (log_comes e s t a)

-- ---- what is so between two turns

-- a dump that finds its volumes
pub record Goes (cell : List Stored) (j : JobFields) : Type 0 where
  pub good : All (IsGoodAt cell) j.places
  pub has : HasNext j

-- each dump that runs does, and all is settled but what such dumps have put on the tapes in hand
pub record Rests (cell : List Stored) (jobs : List PoolJob) (t : State) : Type 0 where
  pub goes : (n : ℕ) (q : PoolJob) → slice_get jobs n ≡ Some q → q.end ≡ None → Goes cell q.job
  pub rest : IsRest jobs t

by_number : (l n : ℕ) → (l ≡ n) ⊎ (l ≡ n → ⊥)
by_number l n = elim (cases_Bool (l == n)) [
  | inl hit ↦ inl (eqb-true l n hit)
  | inr miss ↦ inr (λ same. absurd (let hit : (l == n) ≡ true = eq-eqb l n same in let e : true ≡ false = sym hit ∙ miss in cc))
]

-- ---- a step

begun_waits : (hand : Option Hand) → MayWait (phase_begun hand)
begun_waits None = tt
begun_waits (Some h) = tt

begun_slot : (label : Option LabelFields) (reel : Reel) → (reel_begun label reel).slot ≡ reel.slot
begun_slot None reel = refl
begun_slot (Some label) reel = refl

module _ (s : Scene) (p : PoolPoint) (r : Rests s.cell p.jobs p.state) (n : ℕ) (q : PoolJob) (at : slice_get p.jobs n ≡ Some q) (running : q.end ≡ None) where
  abbrev a : Around
  a = around s (point_of p q)

  abbrev ev : Event
  ev = next_event s (point_of p q)

  abbrev st : PoolEvent
  st = step_event s p n q

  abbrev t2 : State
  t2 = come ev.effects p.state

  abbrev slot : ℕ
  slot = q.job.reel.slot

  own : Goes s.cell q.job
  own = r.goes n q at running

  next : IsNext q.job ev
  next = event_next a q.job own.good own.has

  own_goes : end_by ev.answer ≡ None → Goes s.cell ev.job
  own_goes none = record { good = subst (λ (places : List ℕ). All (IsGoodAt s.cell) places) (sym next.places) own.good; has = next.has (runs_on ev.answer none) }

  step_goes : (l : ℕ) (x : PoolJob) → slice_get st.jobs l ≡ Some x → x.end ≡ None → Goes s.cell x.job
  step_goes l x there runs = elim (with_get n (stepped q ev) p.jobs l x there) [
    | inl here ↦ subst (λ (y : PoolJob). Goes s.cell y.job) here.1 (own_goes (ap (λ (y : PoolJob). y.end) here.1 ∙ runs))
    | inr other ↦ r.goes l x other.1 runs
  ]

  -- the tape in hand isn't free where the dump has cut it just now
  cut_now : q.job.phase ≡ phase.Tape → IsFree st.jobs slot → ⊥
  cut_now is free =
      let e : Event = tape_event (uses_for q.job (items_at a.slots slot)) q.job in
      let same : ev ≡ e = ap (λ (ph : Phase). event_by ph a q.job) is in
      free n (stepped q ev) (get_own n (stepped q ev) q p.jobs at) (ap (λ (x : Event). end_by x.answer) same)
      (subst (λ (x : Event). MayWait x.job.phase) (sym same) (begun_waits q.job.hand))
      (ap (λ (x : Event). x.job.reel.slot) same ∙ begun_slot q.job.label q.job.reel)

  own_waits : IsFree st.jobs slot → MayWait ev.job.phase → ev.job.reel.slot ≡ slot → ⊥
  own_waits free waits same = elim (cases_Bool (goes_on ev.answer)) [
    | inl more ↦ free n (stepped q ev) (get_own n (stepped q ev) q p.jobs at) (no_end ev.answer more) waits same
    | inr last ↦ none_waits ev.job.phase (next.over last) waits
  ]

  settled_now : MayWait q.job.phase → IsFree st.jobs slot → t2.settled slot ≡ length (t2.tape slot)
  settled_now waits free = own_settled a q.job p.state r.rest.log (λ none. absurd (none waits)) (own_waits free)

  own_rest : (ph : Phase) → q.job.phase ≡ ph → IsFree st.jobs slot → t2.settled slot ≡ length (t2.tape slot)
  own_rest phase.Tape is free = absurd (cut_now is free)
  own_rest phase.Clone is free = settled_now (subst MayWait (sym is) tt) free
  own_rest phase.Head is free = settled_now (subst MayWait (sym is) tt) free
  own_rest phase.Piece is free = settled_now (subst MayWait (sym is) tt) free
  own_rest phase.VolumeEnd is free = settled_now (subst MayWait (sym is) tt) free
  own_rest phase.PartEnd is free = settled_now (subst MayWait (sym is) tt) free
  own_rest phase.DumpEnd is free = settled_now (subst MayWait (sym is) tt) free
  own_rest phase.Over is free = absurd (subst (λ (ph : Phase). HasAt ph q.job.head.tape q.job.hand q.job.volumes q.job.places) is own.has)

  free_before : (c : ℕ) → (c ≡ slot → ⊥) → IsFree st.jobs c → IsFree p.jobs c
  free_before c other free l x there runs waits same = elim (by_number l n) [
    | inl is ↦ (let both : Some x ≡ Some q = sym there ∙ ap (λ (i : ℕ). slice_get p.jobs i) is ∙ at in let got : x ≡ q = cc in other (sym same ∙ ap (λ (y : PoolJob). y.job.reel.slot) got))
    | inr elsewhere ↦ free l x (get_with n (stepped q ev) p.jobs l x elsewhere there) runs waits same
  ]

  rest_at : (c : ℕ) → IsFree st.jobs c → t2.settled c ≡ length (t2.tape c)
  rest_at c free = elim (by_number c slot) [
    | inl same ↦ subst (λ (x : ℕ). t2.settled x ≡ length (t2.tape x)) (sym same) (own_rest q.job.phase refl (subst (IsFree st.jobs) same free))
    | inr other ↦
        (let stays = stays_elsewhere slot ev.effects p.state (event_on a q.job) c other in
        stays.1 ∙ r.rest.tapes c (free_before c other free) ∙ ap length (sym stays.0))
  ]

  log_rest : t2.log_settled ≡ length t2.log
  log_rest =
      let all : State = record p.state { settled = λ k. length (p.state.tape k) } in
      let there = log_stays_settled a q.job all r.rest.log (λ none. refl) in
      let same = log_come ev.effects p.state all (record { log = refl; log_settled = refl }) in
      sym same.log_settled ∙ there ∙ ap length same.log

  step_rests : Rests s.cell st.jobs t2
  step_rests = record { goes = step_goes; rest = record { log = log_rest; tapes = rest_at } }

-- ---- a cut at its own length

module _ (t : State) (c : ℕ) where
  abbrev cut : State
  cut = comes (cuts c (length (t.tape c))) t

  cut_tape : (j : ℕ) → cut.tape j ≡ t.tape j
  cut_tape j = elim (cases_Bool (j == c)) [
    | inl hit ↦
        (let same : j ≡ c = eqb-true j c hit in
        let all : take (length (t.tape c)) (t.tape j) ≡ t.tape j = subst (λ (x : ℕ). take (length (t.tape c)) (t.tape x) ≡ t.tape x) (sym same) (take_all (length (t.tape c)) (t.tape c) (omega arith)) in
        rw hit all)
    | inr miss ↦ rw miss refl
  ]

  cut_own : (j : ℕ) → j ≡ c → cut.settled j ≡ length (cut.tape j)
  cut_own j same = (let hit : (j == c) ≡ true = eq-eqb j c same in rw hit refl)

  cut_other : (j : ℕ) → (j ≡ c → ⊥) → cut.settled j ≡ t.settled j
  cut_other j other = (let miss : (j == c) ≡ false = unequal j c other in rw miss refl)

settling_rest : (t : State) (o : Option ℕ) (c : ℕ) → ((o ≡ Some c → ⊥) → t.settled c ≡ length (t.tape c)) → (come (settling_at o t) t).settled c ≡ length ((come (settling_at o t) t).tape c)
settling_rest t None c own = own (λ is. absurd (cc))
settling_rest t (Some d) c own = elim (by_number c d) [
  | inl same ↦ cut_own t d c same
  | inr other ↦ cut_other t d c other ∙ own (λ is. other (let same : d ≡ c = cc in sym same)) ∙ ap length (sym (cut_tape t d c))
]

settling_log : (t : State) (o : Option ℕ) → t.log_settled ≡ length t.log → (come (settling_at o t) t).log_settled ≡ length (come (settling_at o t) t).log
settling_log t None log = log
settling_log t (Some c) log = log

-- the tape that a dump cut last is the one in hand, where records may wait there
cut_last : (j : JobFields) (ph : Phase) → j.phase ≡ ph → MayWait ph → last_cut j ≡ Some j.reel.slot
cut_last j phase.Tape is waits = absurd waits
cut_last j phase.Clone is waits = ap (λ (x : Phase). last_cut_by x j.filled j.reel.slot) is
cut_last j phase.Head is waits = ap (λ (x : Phase). last_cut_by x j.filled j.reel.slot) is
cut_last j phase.Piece is waits = ap (λ (x : Phase). last_cut_by x j.filled j.reel.slot) is
cut_last j phase.VolumeEnd is waits = ap (λ (x : Phase). last_cut_by x j.filled j.reel.slot) is
cut_last j phase.PartEnd is waits = ap (λ (x : Phase). last_cut_by x j.filled j.reel.slot) is
cut_last j phase.DumpEnd is waits = ap (λ (x : Phase). last_cut_by x j.filled j.reel.slot) is
cut_last j phase.Over is waits = absurd waits

-- ---- a kill

module _ (cell : List Stored) (p : PoolPoint) (r : Rests cell p.jobs p.state) (n : ℕ) (q : PoolJob) (at : slice_get p.jobs n ≡ Some q) where
  abbrev killing : PoolEvent
  killing = kill_event p n q

  kill_goes : (l : ℕ) (x : PoolJob) → slice_get killing.jobs l ≡ Some x → x.end ≡ None → Goes cell x.job
  kill_goes l x there runs = elim (with_get n (killed q) p.jobs l x there) [
    | inl here ↦ absurd (let none : (killed q).end ≡ None = ap (λ (y : PoolJob). y.end) here.1 ∙ runs in cc)
    | inr other ↦ r.goes l x other.1 runs
  ]

  kill_free : (c : ℕ) → IsFree killing.jobs c → (last_cut q.job ≡ Some c → ⊥) → IsFree p.jobs c
  kill_free c free uncut l x there runs waits same = elim (by_number l n) [
    | inl is ↦
        (let both : Some x ≡ Some q = sym there ∙ ap (λ (i : ℕ). slice_get p.jobs i) is ∙ at in
        let got : x ≡ q = cc in
        let mine : MayWait q.job.phase = subst (λ (y : PoolJob). MayWait y.job.phase) got waits in
        let here : q.job.reel.slot ≡ c = sym (ap (λ (y : PoolJob). y.job.reel.slot) got) ∙ same in
        uncut (cut_last q.job q.job.phase refl mine ∙ ap Some here))
    | inr other ↦ free l x (get_with n (killed q) p.jobs l x other there) runs waits same
  ]

  kill_rests : Rests cell killing.jobs (come killing.effects p.state)
  kill_rests = record {
    goes = kill_goes;
    rest = record {
      log = settling_log p.state (last_cut q.job) r.rest.log;
      tapes = λ c free. settling_rest p.state (last_cut q.job) c (λ uncut. r.rest.tapes c (kill_free c free uncut));
    };
  }

-- ---- turns

module _ (s : Scene) where
  abbrev RestsBehind : PoolPoint → PoolEvent → Type 0
  RestsBehind p e = Rests s.cell e.jobs (come e.effects p.state)

  step_by : (p : PoolPoint) → Rests s.cell p.jobs p.state → (n : ℕ) (q : PoolJob) → slice_get p.jobs n ≡ Some q → (o : Option JobEnd) → q.end ≡ o → RestsBehind p (unless_ended o p (step_event s p n q))
  step_by p r n q at None is = step_rests s p r n q at is
  step_by p r n q at (Some end) is = r

  step_of : (p : PoolPoint) → Rests s.cell p.jobs p.state → (n : ℕ) (o : Option PoolJob) → slice_get p.jobs n ≡ o → RestsBehind p (step_at s p n o)
  step_of p r n None is = r
  step_of p r n (Some q) is = step_by p r n q is q.end refl

  kill_by : (p : PoolPoint) → Rests s.cell p.jobs p.state → (n : ℕ) (q : PoolJob) → slice_get p.jobs n ≡ Some q → (o : Option JobEnd) → RestsBehind p (unless_ended o p (kill_event p n q))
  kill_by p r n q at None = kill_rests s.cell p r n q at
  kill_by p r n q at (Some end) = r

  kill_of : (p : PoolPoint) → Rests s.cell p.jobs p.state → (n : ℕ) (o : Option PoolJob) → slice_get p.jobs n ≡ o → RestsBehind p (kill_at p n o)
  kill_of p r n None is = r
  kill_of p r n (Some q) is = kill_by p r n q is q.end

  turn_rests : (p : PoolPoint) → Rests s.cell p.jobs p.state → (t : Turn) → RestsBehind p (turn_event s p t)
  turn_rests p r (Step n) = step_of p r n (slice_get p.jobs n) refl
  turn_rests p r (Kill n) = kill_of p r n (slice_get p.jobs n) refl

  abbrev RestsThen : PoolPoint → PoolCourse → Type 0
  RestsThen p c = Rests s.cell c.jobs (come c.effects p.state)

  course_rests : (turns : List Turn) (p : PoolPoint) → Rests s.cell p.jobs p.state → RestsThen p (interleaved s p turns)
  course_rests [] p r = r
  course_rests (t ∷ turns) p r =
      let e : PoolEvent = turn_event s p t in
      let c : PoolCourse = interleaved s (behind p e) turns in
      subst (λ (x : State). Rests s.cell c.jobs x) (sym (come_append e.effects c.effects p.state)) (course_rests turns (behind p e) (turn_rests p r t))

  pool_rests : (kills : List PoolKill) (x : ℕ) (p : PoolPoint) → Rests s.cell p.jobs p.state → RestsThen p (pool_course s kills x p)
  unfolding pool_course
  pool_rests kills x p r = course_rests (scheduled (turns_left s.cell p.jobs) s kills x p) p r

-- ---- begins

-- what begins are good volumes, and at least one
pub record IsGoodOrder (cell : List Stored) (o : DumpOrder) : Type 0 where
  pub good : All (IsGoodAt cell) o.volumes
  pub some : 1 ≤ length o.volumes

abbrev pub IsGoodStart : List Stored → Start → Type 0
IsGoodStart cell b = IsGoodOrder cell b.order

start_rests : (s : Scene) (p : PoolPoint) (b : Start) → IsGoodStart s.cell b → Rests s.cell p.jobs p.state → RestsBehind s p (start_event p b)
start_rests s p b good r = record {
  goes = λ n q at runs. elim (get_more p.jobs (record { job = job_in p.log b; steps = 0; end = None }) n q at) [
    | inl old ↦ r.goes n q old.1 runs
    | inr new ↦ subst (λ (x : PoolJob). Goes s.cell x.job) new.1 (record { good = good.good; has = (let some = good.some in omega (arith, some)) })
  ];
  rest = record {
    log = refl;
    tapes = λ c free. r.rest.tapes c (λ n q at runs waits same. free n q (more_get p.jobs (record { job = job_in p.log b; steps = 0; end = None }) n q at) runs waits same);
  };
}

started_rests : (s : Scene) (kills : List PoolKill) (x : ℕ) (starts : List Start) (p : PoolPoint) → All (IsGoodStart s.cell) starts → Rests s.cell p.jobs p.state → RestsThen s p (group_course s kills x p starts)
started_rests s kills x [] p good r = pool_rests s kills x p r
started_rests s kills x (b ∷ starts) p good r =
    let e : PoolEvent = start_event p b in
    let c : PoolCourse = group_course s kills x (behind p e) starts in
    subst (λ (t : State). Rests s.cell c.jobs t) (sym (come_append e.effects c.effects p.state))
    (started_rests s kills x starts (behind p e) (All-tail (IsGoodStart s.cell) b starts good) (start_rests s p b (All-head (IsGoodStart s.cell) b starts good) r))

-- behind the last turn none runs
pub started_end : (s : Scene) (kills : List PoolKill) (x : ℕ) (starts : List Start) (p : PoolPoint) → AllEnded (group_course s kills x p starts).jobs
started_end s kills x [] p = course_ends s kills x p
started_end s kills x (b ∷ starts) p = started_end s kills x starts (behind p (start_event p b))

-- Behind a group whose dumps find their volumes all is settled, where all was before.
pub group_settled : (s : Scene) (kills : List PoolKill) (x : ℕ) (starts : List Start) → All (IsGoodStart s.cell) starts → IsSettled s.state → IsSettled (come (group_course s kills x (first_point s) starts).effects s.state)
group_settled s kills x starts good is =
    let r = started_rests s kills x starts (first_point s) good (record { goes = λ n q at runs. absurd (cc); rest = record { log = is.log; tapes = λ c free. is.tapes c } }) in
    record { log = r.rest.log; tapes = λ c. r.rest.tapes c (λ n q at runs waits same. started_end s kills x starts (first_point s) n q at runs) }

-- ---- dumps that aren't refused

same_ok : (b c : Start) (r : Result Start (List ℕ)) → r ≡ Ok b → r ≡ Ok c → b ≡ c
same_ok b c r one other = (let e : Ok b ≡ Ok c = sym one ∙ other in cc)

not_ok : (text : List ℕ) (b : Start) (r : Result Start (List ℕ)) → r ≡ Err text → r ≡ Ok b → ⊥
not_ok text b r one other = (let e : Err text ≡ Ok b = sym one ∙ other in cc)

on_order : (o : DumpOrder) (t : Result FirstTape JobFault) (b : Start) → start_on o t ≡ Ok b → o ≡ b.order
on_order o (Ok t) b is = ap (λ (x : Start). x.order) (same_ok (record { order = o; tape = t }) b (start_on o (Ok t)) refl is)
on_order o (Err f) b is = absurd (not_ok (fault_text o f) b (start_on o (Err f)) refl is)

order_good : (s : Scene) (o : DumpOrder) (b : Start) → All (λ place. place < length (entries_in s)) o.volumes → order_start s o ≡ Ok b → IsGoodStart s.cell b
order_good s o b within is = by (refusal_by (entries_in s) o (fault_of (tape_for s o))) refl is
  where
    by : (r : Option (List ℕ)) → refusal_by (entries_in s) o (fault_of (tape_for s o)) ≡ r → start_or r (start_on o (tape_for s o)) ≡ Ok b → IsGoodStart s.cell b
    by (Some text) none given = absurd (not_ok text b (start_or (Some text) (start_on o (tape_for s o))) refl given)
    by None none given =
        let passed = passes (entries_in s) o (fault_of (tape_for s o)) none in
        subst (IsGoodOrder s.cell) (on_order o (tape_for s o) b given) (record { good = good_places s.cell (entries_in s) o.volumes refl within passed.good; some = passed.some })

port_good : (s : Scene) (a : DumpCommand) (r : Result PortFields (List ℕ)) (b : Start) → port_start s a r ≡ Ok b → IsGoodStart s.cell b
port_good s a (Err text) b is = absurd (not_ok text b (port_start s a (Err text)) refl is)
port_good s a (Ok port) b is = order_good s (order_of s.config (database_in s) (entries_in s) s.time a port) b (expansion_within (entries_under a.set (database_in s).sets) (entries_in s)) is

pub start_good : (s : Scene) (a : DumpCommand) (b : Start) → dump_start s a ≡ Ok b → IsGoodStart s.cell b
unfolding dump_start
start_good s a b is = port_good s a (asked_port s.config (database_in s) a) b is

-- each dump that begins has good volumes
pub starts_good : (s : Scene) (held : List DumpCommand) (p : PoolPoint) → All (IsGoodStart s.cell) (starts_of s p held)
starts_good s [] p = All-nil (IsGoodStart s.cell)
starts_good s (a ∷ held) p = by (dump_start (scene_at s p) a) refl (λ q. starts_good s held q)
  where
    by : (r : Result Start (List ℕ)) → dump_start (scene_at s p) a ≡ r → ((q : PoolPoint) → All (IsGoodStart s.cell) (starts_of s q held)) → All (IsGoodStart s.cell) (before_starts r (starts_of s (behind_begin p r) held))
    by (Ok b) is rest = All-cons (IsGoodStart s.cell) b (starts_of s (behind_begin p (Ok b)) held) (start_good (scene_at s p) a b is) (rest (behind_begin p (Ok b)))
    by (Err text) is rest = rest p

-- THE END OF A GROUP leaves all settled, where all was before.
pub answer_settled : (s : Scene) (g : GroupView) → IsSettled s.state → IsSettled (come (group_answer s g).answer.effects s.state)
unfolding group_answer
answer_settled s g is =
    group_settled s (kills_of (begins s (first_point s) g.held) g.kills) g.schedule (starts_of s (first_point s) g.held) (starts_good s g.held (first_point s)) is
