-- A dump on its way: one event more, and the end.
use Rattle.std.proofs.Common.{◌≡◌, ℕ, List, [], ◌++◌, length, Bool, true, false, inl, inr, refl, sym, ◌∙◌, ap, subst, append_assoc}
use Rattle.std.specs.Prelude.{Some, slice_get}
use Rattle.std.proofs.lemmas.Bool.{cases_Bool}
use Rattle.std.proofs.lemmas.List.{append-nil}
use Rattle.plant_core.specs.declared.plant.Plant.{Ghosts as Plant}
use Rattle.plant_core.specs.Crashes.{State, IsWithin}
use Rattle.plant_core.specs.Effects.{Effect, come}
use Rattle.plant_core.specs.Records.{Record}
use Rattle.plant_effects.specs.Runs.{state_of, Leaves, StaysQuiet}
use Rattle.plant_effects.proofs.States.{come_append}
use Rattle.plant_effects.proofs.Joining.{Fits, nothing_left, leaves_more}
use Rattle.cell_core.specs.declared.cell.Cell.{Ghosts as Cell}
use Rattle.tape_text.specs.Items.{Read}
use Rattle.tape_scan.specs.Slots.{Slot}
use Rattle.tape_scan.specs.Looking.{HasSlots, Loads}
use Rattle.tape_answers.specs.Slots.{slots_of}
use Rattle.budb_fold.specs.declared.database.Database.{Database}
use Rattle.budb.specs.Views.{BudbView}
use Rattle.budb.specs.Kept.{Keeps}
use Rattle.dump_job.specs.declared.answer.StepAnswer.{StepAnswer}
use Rattle.dump_job.specs.declared.fields.JobFields.{JobFields}
use Rattle.dump_job.specs.Events.{Event, event}
use Rattle.dump_job.specs.Stepping.{HasStepped, IsAround, Does}
use Rattle.dump_courses.specs.declared.running.End.{End}
use Rattle.dump_courses.specs.declared.running.End.TheVariants.{Made, Refused}
use Rattle.dump_courses.specs.Scenes.{Scene}
use Rattle.dump_courses.specs.Courses.{Point, Course, goes_on, around, next_event, behind, last_event, course}
use Rattle.dump_courses.specs.Ahead.{IsAhead, DoneAhead, LeftAhead}
use Rattle.dump_courses.specs.Running.{IsAtPoint, IsOnWay, IsEnded, answer_of}
use Rattle.dump_courses.proofs.Ahead.{ahead_both, ahead_come, nothing_ahead, behind_loads, done_ahead_both, leaves_ahead}
use Rattle.dump_courses.proofs.Stopping.{left_loads, left_behind}
use Rattle.dump_courses.proofs.CourseLaws.{course_more, course_last}

-- what is known of the slots that are read
pub record SlotLaws : Type 0 where
  pub count : (count : ℕ) (present : ℕ → Bool) (tape : ℕ → List Record) → length (slots_of count present tape) ≡ count
  pub here : (count : ℕ) (present : ℕ → Bool) (tape : ℕ → List Record) (k : ℕ) (s : Slot) → slice_get (slots_of count present tape) k ≡ Some s → s.here ≡ present k
  pub items : (count : ℕ) (present : ℕ → Bool) (tape : ℕ → List Record) (k : ℕ) (s : Slot) → slice_get (slots_of count present tape) k ≡ Some s → Read (tape k) s.items

-- the first event begins the course
pub record Begins (e : Event) (c : Course) : Type 0 where
  pub more : List Effect
  pub is : c.effects ≡ e.effects ++ more

pub course_begins : (s : Scene) (p : Point) → Begins (next_event s p) (course s p)
course_begins s p = elim (cases_Bool (goes_on (next_event s p).answer)) [
  | inl hit ↦ record { more = (course s (behind p (next_event s p))).effects; is = ap (λ (c : Course). c.effects) (course_more s p hit) }
  | inr miss ↦ record { more = []; is = ap (λ (c : Course). c.effects) (course_last s p miss) ∙ sym (append-nil (next_event s p).effects) }
]

pub ends_not : (end : End) → goes_on (answer_of end) ≡ false
ends_not (Made id) = refl
ends_not (Refused fault) = refl

module _ {D : Type 0} (P : Plant D) where
  pub has_slots : SlotLaws → (s : Scene) (tape : ℕ → List Record) (plant : D) → (P.view plant).slots ≡ s.slots → ((k : ℕ) → (P.view plant).present k ≡ s.present k) → ((k : ℕ) → (state_of P plant).tape k ≡ tape k) → HasSlots P (slots_of s.slots s.present tape) plant
  has_slots laws s tape plant slots present tapes = record {
    count = laws.count s.slots s.present tape ∙ sym slots;
    each = λ k one at. record {
      here = laws.here s.slots s.present tape k one at ∙ sym (present k);
      items = subst (λ (t : List Record). Read t one.items) (sym (tapes k)) (laws.items s.slots s.present tape k one at);
    };
  }

module _ {D E : Type 0} (P : Plant D) (C : Cell E) (s : Scene) where
  -- what stands around a dump at a point
  pub point_around : SlotLaws → P.tells → C.tells → (p : Point) (budb : BudbView) (plant : D) (site : E) (job : JobFields) → (P.view plant).log_size ≡ length (state_of P plant).log → IsAtPoint P C s p budb plant site job → IsAround P C (around s p) budb plant site
  point_around laws told told_cell p budb plant site job log_told at = record {
    near = record {
      tells = told;
      listed = sym (ap (λ (db : Database). db.listed) at.keeps.fold);
      log_size = sym (log_told ∙ ap length at.state.log ∙ ap length at.keeps.is);
      slots = has_slots P laws s p.state.tape plant at.slots at.present at.state.tape;
    };
    tells = told_cell;
    volumes = sym at.cell;
  }

  -- ---- one event

  module _ (p : Point) (budb budb_after : BudbView) (old new : D) (site site_after : E) (job job_after : JobFields) (answer : StepAnswer) where
    pub the_event : IsAtPoint P C s p budb old site job → Does P (event (around s p) job) answer budb budb_after old new job_after → Does P (next_event s p) answer budb budb_after old new job_after
    the_event at does = subst (λ (j : JobFields). Does P (event (around s p) j) answer budb budb_after old new job_after) at.job does

    pub event_done : P.sound old → (P.tells → IsWithin (state_of P old)) → Does P (next_event s p) answer budb budb_after old new job_after → HasStepped answer → DoneAhead P (next_event s p).effects old new
    event_done sound within does stepped =
        let done : _ = does.done stepped in
        behind_loads P [] (next_event s p).effects done.away old old new (nothing_ahead P old sound within) done.done

    pub event_leaves : P.sound old → (P.tells → IsWithin (state_of P old)) → Fits P old → Does P (next_event s p) answer budb budb_after old new job_after → Leaves P (next_event s p).effects old new
    event_leaves sound within fits does = leaves_ahead P [] (next_event s p).effects does.leaves.away old old new (nothing_ahead P old sound within) (nothing_left P [] old fits) does.leaves.leaves

    event_ahead : P.tells → IsAtPoint P C s p budb old site job → DoneAhead P (next_event s p).effects old new → IsAhead (come (next_event s p).effects p.state) (state_of P new)
    event_ahead told at done =
        ahead_both (come (next_event s p).effects p.state) (come (next_event s p).effects (state_of P old)) (state_of P new)
        (ahead_come (next_event s p).effects p.state (state_of P old) at.state) (done.state told)

    pub event_keeps : P.tells → IsAtPoint P C s p budb old site job → DoneAhead P (next_event s p).effects old new → Does P (next_event s p) answer budb budb_after old new job_after → HasStepped answer
        → Keeps (p.log ++ (next_event s p).changes) (come (next_event s p).effects p.state).log budb_after
    event_keeps told at done does stepped =
        subst (λ (l : List ℕ). Keeps (p.log ++ (next_event s p).changes) l budb_after) (event_ahead told at done).log
        (does.keeps p.log (subst (λ (l : List ℕ). Keeps p.log l budb) (sym at.state.log) at.keeps) stepped)

    pub event_point : P.tells → IsAtPoint P C s p budb old site job → DoneAhead P (next_event s p).effects old new → Does P (next_event s p) answer budb budb_after old new job_after → HasStepped answer
        → StaysQuiet P old new → C.list site_after ≡ C.list site → IsAtPoint P C s (behind p (next_event s p)) budb_after new site_after job_after
    event_point told at done does stepped stays list = record {
      keeps = event_keeps told at done does stepped;
      state = event_ahead told at done;
      slots = stays.stays.slots ∙ at.slots;
      present = λ k. ap (λ (f : ℕ → Bool). f k) stays.stays.present ∙ at.present k;
      cell = list ∙ at.cell;
      job = does.job stepped;
    }

  -- ---- the way

  module _ (p : Point) (old : D) where
    pub begin_way : (budb : BudbView) (site : E) (job : JobFields) → P.sound old → (P.tells → IsWithin (state_of P old)) → Fits P old → IsAtPoint P C s p budb old site job → IsOnWay P C s p old budb old site job
    begin_way budb site job sound within fits at = record {
      effects = [];
      now = p;
      at = at;
      state = refl;
      done = nothing_ahead P old sound within;
      leaves = nothing_left P [] old fits;
      rest = refl;
    }

    with_front : List Effect → Course → Course
    with_front es c = record { effects = es ++ c.effects; log = c.log; answer = c.answer }

    joined_front : (es fs : List Effect) (c d : Course) → c ≡ record { effects = fs ++ d.effects; log = d.log; answer = d.answer } → with_front es c ≡ with_front (es ++ fs) d
    unfolding with_front
    joined_front es fs c d is = ap (with_front es) is ∙ ap (λ (l : List Effect). record { effects = l; log = d.log; answer = d.answer }) (sym (append_assoc es fs d.effects))

    pub more_way : (budb budb_after : BudbView) (mid new : D) (site site_after : E) (job job_after : JobFields) (way : IsOnWay P C s p old budb mid site job)
        → goes_on (next_event s way.now).answer ≡ true → IsAtPoint P C s (behind way.now (next_event s way.now)) budb_after new site_after job_after
        → DoneAhead P (next_event s way.now).effects mid new → Leaves P (next_event s way.now).effects mid new → IsOnWay P C s p old budb_after new site_after job_after
    unfolding with_front
    more_way budb budb_after mid new site site_after job job_after way more at done leaves =
        let e : Event = next_event s way.now in
        record {
          effects = way.effects ++ (next_event s way.now).effects;
          now = behind way.now (next_event s way.now);
          at = at;
          state = ap (come (next_event s way.now).effects) way.state ∙ sym (come_append way.effects (next_event s way.now).effects p.state);
          done = done_ahead_both P way.effects (next_event s way.now).effects old mid new way.done done;
          leaves = leaves_ahead P way.effects (next_event s way.now).effects [] old mid new way.done way.leaves leaves;
          rest = way.rest ∙ joined_front way.effects (next_event s way.now).effects (course s way.now) (course s (behind way.now (next_event s way.now))) (course_more s way.now more);
        }

    IsEndedBy : Course → End → BudbView → D → Type 0
    IsEndedBy c end budb new = (c.answer ≡ answer_of end) × Keeps c.log (come c.effects p.state).log budb × DoneAhead P c.effects old new

    pub end_way : (end : End) (budb budb_after : BudbView) (mid new : D) (site : E) (job : JobFields) (way : IsOnWay P C s p old budb mid site job)
        → (next_event s way.now).answer ≡ answer_of end → Keeps (way.now.log ++ (next_event s way.now).changes) (come (next_event s way.now).effects way.now.state).log budb_after
        → DoneAhead P (next_event s way.now).effects mid new → IsEnded P s p end budb_after old new
    unfolding IsEndedBy
    end_way end budb budb_after mid new site job way told keeps done =
        let e : Event = next_event s way.now in
        let last : course s way.now ≡ last_event way.now (next_event s way.now) = course_last s way.now (ap goes_on told ∙ ends_not end) in
        let whole : Course = record { effects = way.effects ++ (next_event s way.now).effects; log = way.now.log ++ (next_event s way.now).changes; answer = (next_event s way.now).answer } in
        let is : course s p ≡ whole = way.rest ∙ ap (λ (c : Course). record { effects = way.effects ++ c.effects; log = c.log; answer = c.answer }) last in
        let state : come (next_event s way.now).effects way.now.state ≡ come whole.effects p.state = ap (come (next_event s way.now).effects) way.state ∙ sym (come_append way.effects (next_event s way.now).effects p.state) in
        let by : IsEndedBy whole end budb_after new = (told, subst (λ (t : State). Keeps whole.log t.log budb_after) state keeps, done_ahead_both P way.effects (next_event s way.now).effects old mid new way.done done) in
        let ended : IsEndedBy (course s p) end budb_after new = subst (λ (c : Course). IsEndedBy c end budb_after new) (sym is) by in
        record { answer = ended.0; keeps = ended.1; done = ended.2 }

    pub leave_way : (budb : BudbView) (mid new : D) (site : E) (job : JobFields) (way : IsOnWay P C s p old budb mid site job) → Leaves P (next_event s way.now).effects mid new → Leaves P (course s p).effects old new
    leave_way budb mid new site job way leaves =
        let begins : Begins (next_event s way.now) (course s way.now) = course_begins s way.now in
        let is : (course s p).effects ≡ (way.effects ++ (next_event s way.now).effects) ++ begins.more =
        ap (λ (c : Course). c.effects) way.rest ∙ ap (λ (l : List Effect). way.effects ++ l) begins.is ∙ sym (append_assoc way.effects (next_event s way.now).effects begins.more) in
        subst (λ (l : List Effect). Leaves P l old new) (sym is)
        (leaves_more P (way.effects ++ (next_event s way.now).effects) begins.more old new (leaves_ahead P way.effects (next_event s way.now).effects [] old mid new way.done way.leaves leaves))

    pub stop_way : (budb : BudbView) (mid : D) (site : E) (job : JobFields) (way : IsOnWay P C s p old budb mid site job) → Leaves P (course s p).effects old mid
    stop_way budb mid site job way =
        subst (λ (l : List Effect). Leaves P l old mid) (sym (ap (λ (c : Course). c.effects) way.rest)) (leaves_more P way.effects (course s way.now).effects old mid way.leaves)

    -- no event more was done, but tapes may have been loaded
    pub idle_way : (budb : BudbView) (mid new : D) (site : E) (job : JobFields) (way : IsOnWay P C s p old budb mid site job) → Loads P mid new → LeftAhead P (course s p).effects old new
    idle_way budb mid new site job way loads =
        subst (λ (l : List Effect). LeftAhead P l old new) (sym (ap (λ (c : Course). c.effects) way.rest))
        (left_behind P way.effects (course s way.now).effects old mid new way.done (left_loads P (course s way.now).effects mid new way.now.state (λ _. way.at.state) loads))
