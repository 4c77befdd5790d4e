-- A turn of one dump on a plant, and what it is to the others.
use Rattle.std.proofs.Common.{zero, suc, ◌≡◌, ◌≢◌, ℕ, ◌+◌, ◌≤◌, Bool, List, [], ◌∷◌, ◌++◌, length, take, map, refl, sym, ap, subst, ◌∙◌, arith}
use Rattle.std.specs.Prelude.{Option, Some, None, IsTrue, IfSome, Contains, slice_get, ◌-◌, if◌then◌else◌, ◌==◌}
use Rattle.std.proofs.lemmas.Bool.{cases_Bool, eqb-true}
use Rattle.std.proofs.lemmas.List.{take_all, append-nil}
use Rattle.std.proofs.Common.{inl, inr, true, false}
use Rattle.plant_core.specs.declared.plant.Plant.{Ghosts as Plant}
use Rattle.plant_core.specs.Crashes.{State, IsWithin}
use Rattle.plant_core.specs.Effects.{Effect, cuts, settles, comes, come}
use Rattle.plant_core.specs.Records.{Record, NoBad}
use Rattle.plant_effects.specs.Runs.{state_of, Done, Leaves, StaysQuiet}
use Rattle.plant_effects.proofs.Joining.{Fits, nothing_left}
use Rattle.cell_core.specs.declared.cell.Cell.{Ghosts as Cell}
use Rattle.tape_scan.specs.Looking.{HasSlots}
use Rattle.tape_answers.specs.Slots.{slots_of}
use Rattle.budb_changes.specs.declared.change.Change.{Change}
use Rattle.budb.specs.Views.{BudbView}
use Rattle.budb.specs.Kept.{Keeps}
use Rattle.dump_job.specs.declared.answer.StepAnswer.{StepAnswer}
use Rattle.dump_job.specs.declared.fields.JobFields.{JobFields}
use Rattle.dump_job.specs.declared.fields.Phase.{Phase}
use Rattle.dump_job.specs.declared.fields.Phase.TheVariants as phase
use Rattle.dump_job.specs.Reels.{records_on, IsOn}
use Rattle.dump_job.specs.Taping.{IsFor}
use Rattle.dump_job.specs.Jobs.{IsWholeIn, FitsAt, FitsJob}
use Rattle.dump_job.specs.declared.fields.Filled.{Filled}
use Rattle.dump_job.specs.Settling.{slot_in, last_filled, last_cut, settling_last}
use Rattle.dump_job.specs.Faults.{DoneBehindLoads, LeavesBehindLoads}
use Rattle.dump_job.specs.Events.{Around, Event, event}
use Rattle.dump_job.specs.Stepping.{HasStepped, IsAround, Does}
use Rattle.tape_config.specs.Ports.{IsAmong}
use Rattle.tape_config.proofs.PortLaws.{none_of_both}
use Rattle.dump_job.specs.Elsewhere.{IsOnPort, LeavesOthers, LeavesTapes}
use Rattle.dump_job.proofs.Events.{done_by_turn, left_by_turn}
use Rattle.dump_job.proofs.Elsewhere.{loads_leave}
use Rattle.dump_courses.specs.Scenes.{Scene}
use Rattle.dump_courses.specs.Courses.{Point, around, next_event}
use Rattle.dump_courses.specs.Ahead.{IsAhead, DoneAhead}
use Rattle.dump_courses.specs.Running.{IsAtPoint}
use Rattle.dump_courses.proofs.Ahead.{ahead_both, ahead_come, nothing_ahead, leaves_ahead}
use Rattle.dump_courses.proofs.Ahead as ahead
use Rattle.dump_courses.proofs.Ways.{SlotLaws, point_around, the_event, event_done, event_leaves, event_point}
use Rattle.dump_courses.proofs.Steps.{IsReady}
use Rattle.job_pool.specs.declared.ends.JobEnd.{JobEnd}
use Rattle.job_pool.specs.declared.ends.JobEnd.TheVariants.{Killed}
use Rattle.job_pool.specs.declared.jobs.PoolJob.{PoolJob}
use Rattle.job_pool.specs.declared.turn.Turn.TheVariants.{Step, Kill}
use Rattle.job_pool.specs.Pools.{PoolPoint, PoolEvent, point_of, with_job, counted, end_by, settling_at, step_event, kill_event, unless_ended, step_at, kill_at, turn_event, behind}
use Rattle.job_pool.specs.Pooled.{AreApartWhereTold, StandsThere, IsTurnOf, IsTurned}

-- ---- a dump fits a plant still where the tapes of its port are as they were

module _ {D : Type 0} (P : Plant D) (old new : D) (sound : P.sound new) (stays : StaysQuiet P old new) where
  stays_here : (slot : ℕ) → IsTrue ((P.view old).present slot) → IsTrue ((P.view new).present slot)
  stays_here slot here = subst (λ (present : ℕ → Bool). IsTrue (present slot)) (sym stays.stays.present) here

  stays_on : (slot count : ℕ) → (P.tells → (state_of P new).tape slot ≡ (state_of P old).tape slot) → IsOn P slot count old → IsOn P slot count new
  stays_on slot count same on = record {
    sound = sound;
    here = stays_here slot on.here;
    records = λ tells. ap length (same tells) ∙ on.records tells;
    whole = λ tells. subst NoBad (sym (same tells)) (on.whole tells);
  }

  stays_for : (slot count : ℕ) → (P.tells → (state_of P new).tape slot ≡ (state_of P old).tape slot) → IsFor P slot count old → IsFor P slot count new
  stays_for slot count same on = record {
    sound = sound;
    here = stays_here slot on.here;
    records = λ tells. subst (λ (tape : List Record). count ≤ length tape) (sym (same tells)) (on.records tells);
    whole = λ tells some. subst NoBad (sym (same tells)) (on.whole tells some);
  }

  -- it fits it at a phase, where the tape in hand and that of the last part are as they were
  stays_whole : (last : Option ℕ) → ((k : ℕ) → last ≡ Some k → P.tells → (state_of P new).tape k ≡ (state_of P old).tape k) → IfSome last (IsWholeIn P old) → IfSome last (IsWholeIn P new)
  stays_whole None same there = tt
  stays_whole (Some k) same there = record { here = stays_here k there.here; whole = λ tells. subst NoBad (sym (same k refl tells)) (there.whole tells) }

  stays_at : (ph : Phase) (j : JobFields) → (P.tells → (state_of P new).tape j.reel.slot ≡ (state_of P old).tape j.reel.slot) → ((k : ℕ) → last_filled j.filled ≡ Some k → P.tells → (state_of P new).tape k ≡ (state_of P old).tape k) → FitsAt P ph j old → FitsAt P ph j new
  stays_at phase.Tape j same last fit = record { next = stays_for j.reel.slot (records_on j.reel) same fit.next; last = stays_whole (last_filled j.filled) last fit.last }
  stays_at phase.Clone j same last fit = stays_on j.reel.slot (records_on j.reel) same fit
  stays_at phase.Head j same last fit = stays_on j.reel.slot (records_on j.reel) same fit
  stays_at phase.Piece j same last fit = stays_on j.reel.slot (records_on j.reel) same fit
  stays_at phase.VolumeEnd j same last fit = stays_on j.reel.slot (records_on j.reel) same fit
  stays_at phase.PartEnd j same last fit = stays_on j.reel.slot (records_on j.reel) same fit
  stays_at phase.DumpEnd j same last fit = stays_on j.reel.slot (records_on j.reel) same fit
  stays_at phase.Over j same last fit = stays_on j.reel.slot (records_on j.reel) same fit

  pub stays_fit : (j : JobFields) → (P.tells → (state_of P new).tape j.reel.slot ≡ (state_of P old).tape j.reel.slot) → ((k : ℕ) → last_filled j.filled ≡ Some k → P.tells → (state_of P new).tape k ≡ (state_of P old).tape k) → FitsJob P j old → FitsJob P j new
  stays_fit j same last fit = record { job = fit.job; tape = stays_at j.phase j same last fit.tape }

get_contains : {X : Type 0} (xs : List X) (k : ℕ) (x : X) → slice_get xs k ≡ Some x → Contains xs x
get_contains [] k x at = absurd (cc)
get_contains (y ∷ xs) zero x at = (let same : y ≡ x = cc in subst (Contains (y ∷ xs)) same (0, omega arith, refl))
get_contains (y ∷ xs) (suc k) x at = (let there = get_contains xs k x at in (suc there.0, omega (arith, there.1), there.2))

last_among : (j : JobFields) (k : ℕ) → IsOnPort j → last_filled j.filled ≡ Some k → IsAmong j.port k
last_among j k on is = by (slice_get j.filled (length j.filled - 1)) refl is
  where
    by : (o : Option Filled) → slice_get j.filled (length j.filled - 1) ≡ o → slot_in o ≡ Some k → IsAmong j.port k
    by None at same = absurd (cc)
    by (Some f) at same = (let slot : f.slot ≡ k = cc in subst (IsAmong j.port) slot (on.filled f (get_contains j.filled (length j.filled - 1) f at)))

-- A step left the tapes of other slots: another dump on another port fits the plant still.
pub others_fit : {D : Type 0} (P : Plant D) (old new : D) → P.sound new → StaysQuiet P old new → (j k : JobFields) → (P.tells → LeavesOthers P old new j k) → (other : JobFields) → FitsJob P other old → AreApartWhereTold P j other → FitsJob P other new
others_fit P old new sound stays j k leaves other fit apart =
    let same : P.tells → (q : ℕ) → IsAmong other.port q → (state_of P new).tape q ≡ (state_of P old).tape q =
    λ tells q among. (leaves tells).tapes q (λ is. none_of_both j.port other.port (apart tells).2 q (subst (IsAmong j.port) (sym is) (apart tells).0.reel) among) in
    stays_fit P old new sound stays other (λ tells. same tells other.reel.slot (apart tells).1.reel) (λ q is tells. same tells q (last_among other q (apart tells).1 is)) fit

-- all slots, as they are read
pub slots_there : SlotLaws → {D : Type 0} (P : Plant D) (plant : D) → HasSlots P (slots_of (P.view plant).slots (P.view plant).present (state_of P plant).tape) plant
slots_there laws P plant = record {
  count = laws.count (P.view plant).slots (P.view plant).present (state_of P plant).tape;
  each = λ k one at. record {
    here = laws.here (P.view plant).slots (P.view plant).present (state_of P plant).tape k one at;
    items = laws.items (P.view plant).slots (P.view plant).present (state_of P plant).tape k one at;
  };
}

-- ---- a turn at a point

turn_steps : (s : Scene) (p : PoolPoint) (n : ℕ) (q : PoolJob) → slice_get p.jobs n ≡ Some q → q.end ≡ None → turn_event s p (Step n) ≡ step_event s p n q
turn_steps s p n q at runs = ap (step_at s p n) at ∙ ap (λ (x : Option JobEnd). unless_ended x p (step_event s p n q)) runs

turn_kills : (s : Scene) (p : PoolPoint) (n : ℕ) (q : PoolJob) → slice_get p.jobs n ≡ Some q → q.end ≡ None → turn_event s p (Kill n) ≡ kill_event p n q
turn_kills s p n q at runs = ap (kill_at p n) at ∙ ap (λ (x : Option JobEnd). unless_ended x p (kill_event p n q)) runs

module _ {D E : Type 0} (P : Plant D) (C : Cell E) (budb budb_then : BudbView) (old new : D) (site site_then : E) (job job_then : JobFields) (ready : IsReady P old) (told : P.tells) (told_cell : C.tells)
    (s : Scene) (p : PoolPoint) (n : ℕ) (q : PoolJob) (turn : IsTurnOf P C s p n q budb old site job) where
  as_point : IsAtPoint P C s (point_of p q) budb old site job
  as_point = record {
    keeps = turn.stands.keeps;
    state = turn.stands.state;
    slots = turn.stands.slots;
    present = turn.stands.present;
    cell = turn.stands.cell;
    job = turn.is;
  }

  -- ---- a step

  module _ (answer : StepAnswer) (does : (a : Around) → IsAround P C a budb old site → Does P (event a job) answer budb budb_then old new job_then) where
    does_next : Does P (next_event s (point_of p q)) answer budb budb_then old new job_then
    does_next =
        the_event P C s (point_of p q) budb budb_then old new site site_then job job_then answer as_point
        (does (around s (point_of p q)) (point_around P C s ready.slots told told_cell (point_of p q) budb old site job (ready.log_told told) as_point))

    ahead_next : HasStepped answer → DoneAhead P (next_event s (point_of p q)).effects old new
    ahead_next made = event_done P C s (point_of p q) budb budb_then old new site site_then job job_then answer ready.sound ready.within does_next made

    leaves_next : Leaves P (next_event s (point_of p q)).effects old new
    leaves_next = event_leaves P C s (point_of p q) budb budb_then old new site site_then job job_then answer ready.sound ready.within ready.fits does_next

    pub step_ahead : HasStepped answer → DoneAhead P (turn_event s p (Step n)).effects old new
    step_ahead made = subst (λ (x : PoolEvent). DoneAhead P x.effects old new) (sym (turn_steps s p n q turn.at turn.runs)) (ahead_next made)

    pub step_left : Leaves P (turn_event s p (Step n)).effects old new
    step_left = subst (λ (x : PoolEvent). Leaves P x.effects old new) (sym (turn_steps s p n q turn.at turn.runs)) leaves_next

    pub step_turned : HasStepped answer → StaysQuiet P old new → C.list site_then ≡ C.list site → (end : Option JobEnd) → end ≡ end_by answer → IsTurned P C s p (turn_event s p (Step n)) n (record { job = job_then; steps = counted q.steps; end = end }) budb_then new site_then
    step_turned made stays list end is =
        let at = event_point P C s (point_of p q) budb budb_then old new site site_then job job_then answer told as_point (ahead_next made) does_next made stays list in
        let ended : end_by (next_event s (point_of p q)).answer ≡ end = ap end_by (sym (does_next.answers made)) ∙ sym is in
        let by : IsTurned P C s p (step_event s p n q) n (record { job = job_then; steps = counted q.steps; end = end }) budb_then new site_then = record {
          stands = record { keeps = at.keeps; state = at.state; slots = at.slots; present = at.present; cell = at.cell };
          jobs = ap (λ (x : Option JobEnd). with_job n (record { job = (next_event s (point_of p q)).job; steps = counted q.steps; end = x }) p.jobs) ended
              ∙ sym (ap (λ (k : JobFields). with_job n (record { job = k; steps = counted q.steps; end = end }) p.jobs) at.job);
        } in
        subst (λ (x : PoolEvent). IsTurned P C s p x n (record { job = job_then; steps = counted q.steps; end = end }) budb_then new site_then) (sym (turn_steps s p n q turn.at turn.runs)) by

-- ---- a kill

settles_so : {D : Type 0} (P : Plant D) (o : Option ℕ) (old new : D) → Done P (settling_last P o old) old new → DoneBehindLoads P (settling_at o (state_of P old)) old new
settles_so P None old new done = record { away = []; done = done }
settles_so P (Some k) old new done = done_by_turn P k (cuts k (length ((state_of P old).tape k)) ∷ []) old new done

leaves_so : {D : Type 0} (P : Plant D) (o : Option ℕ) (old new : D) → Leaves P (settling_last P o old) old new → LeavesBehindLoads P (settling_at o (state_of P old)) old new
leaves_so P None old new left = record { away = []; leaves = left }
leaves_so P (Some k) old new left = left_by_turn P k (cuts k (length ((state_of P old).tape k)) ∷ []) old new left

-- a tape that is cut at its own length is as it was
cut_leaves : (k n : ℕ) (away : List ℕ) (s : State) → n ≡ length (s.tape k) → (q : ℕ) → (come (map settles away ++ cuts k n ∷ []) s).tape q ≡ s.tape q
cut_leaves k n [] s own q = elim (cases_Bool (q == k)) [
  | inl hit ↦ (let same : q ≡ k = eqb-true q k hit in let long : length (s.tape q) ≤ n = omega (arith, own, ap (λ (i : ℕ). length (s.tape i)) same) in rw hit (take_all n (s.tape q) long))
  | inr miss ↦ rw miss refl
]
cut_leaves k n (x ∷ away) s own q = cut_leaves k n away (comes (settles x) s) own q

settling_leaves : (o : Option ℕ) (away : List ℕ) (s : State) (q : ℕ) → (come (map settles away ++ settling_at o s) s).tape q ≡ s.tape q
settling_leaves None [] s q = refl
settling_leaves None (x ∷ away) s q = loads_leave_more away (comes (settles x) s) q
  where
    loads_leave_more : (away : List ℕ) (s : State) (q : ℕ) → (come (map settles away ++ []) s).tape q ≡ s.tape q
    loads_leave_more away s q = ap (λ (l : List Effect). (come l s).tape q) (append-nil (map settles away)) ∙ loads_leave away s q
settling_leaves (Some k) away s q = cut_leaves k (length (s.tape k)) away s refl q

-- all dumps fit the plant behind a kill
pub kill_fits : {D : Type 0} (P : Plant D) (o : Option ℕ) (old new : D) → Done P (settling_last P o old) old new → StaysQuiet P old new → (other : JobFields) → FitsJob P other old → FitsJob P other new
kill_fits P o old new done stays other fit =
    let by = settles_so P o old new done in
    let same : P.tells → (q : ℕ) → (state_of P new).tape q ≡ (state_of P old).tape q = λ tells q. (by.done.state tells).tape q ∙ settling_leaves o by.away (state_of P old) q in
    stays_fit P old new done.sound stays other (λ tells. same tells other.reel.slot) (λ q is tells. same tells q) fit

settling_log : (o : Option ℕ) (s : State) → (come (settling_at o s) s).log ≡ s.log
settling_log None s = refl
settling_log (Some k) s = refl

settling_same : (o : Option ℕ) (s t : State) → IsAhead s t → settling_at o t ≡ settling_at o s
settling_same None s t ahead = refl
settling_same (Some k) s t ahead = ap (λ (l : List Record). cuts k (length l) ∷ []) (ahead.tape k)

module _ {D E : Type 0} (P : Plant D) (C : Cell E) (budb : BudbView) (old new : D) (site : E) (job : JobFields) (sound : P.sound old) (within : P.tells → IsWithin (state_of P old)) (fits : Fits P old) (told : P.tells)
    (s : Scene) (p : PoolPoint) (n : ℕ) (q : PoolJob) (turn : IsTurnOf P C s p n q budb old site job) where
  kill_same : settling_at (last_cut job) (state_of P old) ≡ (turn_event s p (Kill n)).effects
  kill_same =
      settling_same (last_cut job) p.state (state_of P old) turn.stands.state
      ∙ ap (λ (j : JobFields). settling_at (last_cut j) p.state) turn.is
      ∙ sym (ap (λ (x : PoolEvent). x.effects) (turn_kills s p n q turn.at turn.runs))

  pub kill_ahead : Done P (settling_last P (last_cut job) old) old new → DoneAhead P (turn_event s p (Kill n)).effects old new
  kill_ahead done =
      let by = settles_so P (last_cut job) old new done in
      subst (λ (es : List Effect). DoneAhead P es old new) kill_same (ahead.behind_loads P [] (settling_at (last_cut job) (state_of P old)) by.away old old new (nothing_ahead P old sound within) by.done)

  pub kill_left : Leaves P (settling_last P (last_cut job) old) old new → Leaves P (turn_event s p (Kill n)).effects old new
  kill_left left =
      let by = leaves_so P (last_cut job) old new left in
      subst (λ (es : List Effect). Leaves P es old new) kill_same (leaves_ahead P [] (settling_at (last_cut job) (state_of P old)) by.away old old new (nothing_ahead P old sound within) (nothing_left P [] old fits) by.leaves)

  pub kill_turned : Done P (settling_last P (last_cut job) old) old new → StaysQuiet P old new → (id : ℕ) → id ≡ job.head.id → IsTurned P C s p (turn_event s p (Kill n)) n (record { job = job; steps = q.steps; end = Some (Killed id) }) budb new site
  kill_turned done stays id is =
      let kill : PoolEvent = kill_event p n q in
      let ahead_then : DoneAhead P (kill_event p n q).effects old new = subst (λ (x : PoolEvent). DoneAhead P x.effects old new) (turn_kills s p n q turn.at turn.runs) (kill_ahead done) in
      let state : IsAhead (come (kill_event p n q).effects p.state) (state_of P new) =
      ahead_both (come (kill_event p n q).effects p.state) (come (kill_event p n q).effects (state_of P old)) (state_of P new)
      (ahead_come (kill_event p n q).effects p.state (state_of P old) turn.stands.state) (ahead_then.state told) in
      let by : IsTurned P C s p (kill_event p n q) n (record { job = job; steps = q.steps; end = Some (Killed id) }) budb new site = record {
        stands = record {
          keeps = subst (λ (l : List ℕ). Keeps (p.log ++ []) l budb) (sym (settling_log (last_cut q.job) p.state)) (subst (λ (l : List Change). Keeps l p.state.log budb) (sym (append-nil p.log)) turn.stands.keeps);
          state = state;
          slots = stays.stays.slots ∙ turn.stands.slots;
          present = λ k. ap (λ (f : ℕ → Bool). f k) stays.stays.present ∙ turn.stands.present k;
          cell = turn.stands.cell;
        };
        jobs = ap (λ (x : ℕ). with_job n (record { job = q.job; steps = q.steps; end = Some (Killed x) }) p.jobs) (sym (is ∙ ap (λ (j : JobFields). j.head.id) turn.is))
            ∙ ap (λ (k : JobFields). with_job n (record { job = k; steps = q.steps; end = Some (Killed id) }) p.jobs) (sym turn.is);
      } in
      subst (λ (x : PoolEvent). IsTurned P C s p x n (record { job = job; steps = q.steps; end = Some (Killed id) }) budb new site) (sym (turn_kills s p n q turn.at turn.runs)) by
