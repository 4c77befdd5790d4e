-- A dump that is made, from what its calls tell.
use Rattle.std.proofs.Common.{◌≡◌, ◌≢◌, ℕ, List, [], ◌++◌, length, map, refl, sym, ◌∙◌, ap, subst}
use Rattle.std.specs.Prelude.{max, Bool, true, false, if◌then◌else◌, Option, Some, None, Result, Ok, Err, IfOk, OnErr}
use Rattle.vnode_model.specs.declared.listed.VolEntry.{VolEntry}
use Rattle.plant_core.specs.declared.plant.Plant.{Ghosts as Plant}
use Rattle.plant_effects.specs.Runs.{state_of, Leaves, StaysQuiet}
use Rattle.plant_effects.proofs.Joining.{leaves_more}
use Rattle.cell_core.specs.declared.cell.Cell.{Ghosts as Cell}
use Rattle.cell_core.specs.Calls.{entry_of_stored}
use Rattle.tape_config.specs.Configs.{Settings}
use Rattle.tape_config.specs.declared.port.PortFields.{PortFields}
use Rattle.tape_scan.specs.Slots.{Slot}
use Rattle.tape_scan.specs.Looking.{HasSlots, Loads, LeavesLoads}
use Rattle.tape_choice.specs.Append.{AreWhole}
use Rattle.budb.specs.Views.{BudbView}
use Rattle.dump_job.specs.declared.fault.JobFault.{JobFault}
use Rattle.dump_job.specs.declared.first_tapes.FirstTape.{FirstTape}
use Rattle.dump_job.specs.declared.order.DumpOrder.{DumpOrder}
use Rattle.dump_job.specs.declared.fields.JobFields.{JobFields}
use Rattle.dump_job.specs.declared.fields.Phase.{Phase}
use Rattle.dump_job.specs.declared.fields.Phase.TheVariants as phase
use Rattle.dump_job.specs.Jobs.{HasPlaces}
use Rattle.dump_job.specs.Faults.{LeavesBehindLoads}
use Rattle.dump_job.specs.Beginning.{id_of, begin_effects, first_tape, IsBegun}
use Rattle.dump_courses.specs.declared.stop.DumpStop.{DumpStop}
use Rattle.dump_courses.specs.declared.stop.DumpStop.TheVariants as stops
use Rattle.dump_courses.specs.Ahead.{LeftAhead}
use Rattle.dump_courses.specs.Scenes.{Scene, database_in, slots_in, whole_in, entries_in, IsScene, Finds}
use Rattle.dump_courses.specs.Courses.{Point, course}
use Rattle.dump_courses.specs.Running.{IsAtPoint}
use Rattle.dump_courses.proofs.Ahead.{standing_ahead, loads_ahead, loads_leave, done_ahead_both, leaves_ahead}
use Rattle.dump_courses.proofs.Stopping.{stopped_map, left_behind}
use Rattle.dump_courses.proofs.Ways.{SlotLaws}
use Rattle.dump_courses.proofs.Steps.{IsReady}
use Rattle.backup_words.specs.declared.command.DumpCommand.{DumpCommand}
use Rattle.dump_commands.specs.declared.told.Dumped.{Dumped}
use Rattle.dump_commands.specs.Refusals.{refusal_by, trial_refusal, fault_of}
use Rattle.dump_commands.specs.Orders.{asked_port, order_of}
use Rattle.dump_commands.specs.Trials.{trial_text}
use Rattle.dump_commands.specs.Answers.{Answer, said, commit_of, begun_point, begun, tape_for, refused_or, begun_or, real_answer, trial_answer, order_answer, port_answer, dump_answer, IsAnswered, IsFinished}
use Rattle.dump_commands.proofs.Passing.{FoundTape, passes, found_tape}
use Rattle.dump_commands.proofs.Scenes.{scene_slots, scene_whole, scene_later, tape_told, answered_said, begun_done, begun_at, begin_left, begun_answered}

-- ---- a dump that is begun

not_over : (p : Phase) → p ≡ phase.Tape → p ≡ phase.Over → ⊥
not_over p tape over = let e : phase.Tape ≡ phase.Over = sym tape ∙ over in cc

pub begun_going : {D : Type 0} (P : Plant D) (o : DumpOrder) (budb budb_after : BudbView) (old new : D) (job : JobFields) → IsBegun P o budb budb_after old new job → job.phase ≢ phase.Over
begun_going P o budb budb_after old new job first = λ over. not_over job.phase (ap (λ (j : JobFields). j.phase) first.is) over

pub begun_places : {D E : Type 0} (P : Plant D) (C : Cell E) (o : DumpOrder) (budb budb_after : BudbView) (old new : D) (site : E) (job : JobFields) → IsBegun P o budb budb_after old new job → HasPlaces C o.volumes site → HasPlaces C job.places site
begun_places P C o budb budb_after old new site job first has = subst (λ (places : List ℕ). HasPlaces C places site) (sym (ap (λ (j : JobFields). j.places) first.is)) has

-- ---- a dump that nothing refuses

module _ {D E : Type 0} (P : Plant D) (C : Cell E) (s : Scene) (o : DumpOrder) (t : FirstTape) (budb : BudbView) (old : D) (site : E) (ready : IsReady P old) (told : P.tells) (is : IsScene P C s budb old site) (found : tape_for s o ≡ Ok t) where
  -- its begin, and no more of it
  first_left : (mid : D) → ((slots : List Slot) (whole : ℕ → Bool) → HasSlots P slots old → AreWhole P whole old → LeavesBehindLoads P (begin_effects (id_of o budb.database) (first_tape budb.database slots whole o (P.view old).log_size)) old mid) → Leaves P (commit_of s o t) old mid
  first_left mid left = begin_left P C s o t budb old site ready.slots told ready.sound (ready.within told) ready.fits (ready.log_told told) is found mid (left (slots_in s) (whole_in s) (scene_slots P C s ready.slots budb old site is) (scene_whole P C s budb old site is))

  pub make_left : (mid : D) → ((slots : List Slot) (whole : ℕ → Bool) → HasSlots P slots old → AreWhole P whole old → LeavesBehindLoads P (begin_effects (id_of o budb.database) (first_tape budb.database slots whole o (P.view old).log_size)) old mid) → Leaves P (begun s o t).effects old mid
  unfolding begun
  make_left mid left = leaves_more P (commit_of s o t) (course s (begun_point s o t)).effects old mid (first_left mid left)

  pub make_never : (T : Type 0) → ((slots : List Slot) (whole : ℕ → Bool) (u : FirstTape) → HasSlots P slots old → AreWhole P whole old → first_tape budb.database slots whole o (P.view old).log_size ≡ Ok u → T) → T
  make_never T never = never (slots_in s) (whole_in s) t (scene_slots P C s ready.slots budb old site is) (scene_whole P C s budb old site is) (tape_told P C s budb old site o (ready.log_told told) is ∙ found)

  module _ (budb_after : BudbView) (mid new : D) (job : JobFields) (first : IsBegun P o budb budb_after old mid job) (stays : StaysQuiet P old mid) where
    pub make_leaves : ((slots : List Slot) (whole : ℕ → Bool) → HasSlots P slots old → AreWhole P whole old → LeavesBehindLoads P (begin_effects (id_of o budb.database) (first_tape budb.database slots whole o (P.view old).log_size)) old mid)
        → ((p : Point) → IsAtPoint P C s p budb_after mid site job → Leaves P (course s p).effects mid new) → Leaves P (begun s o t).effects old new
    unfolding begun
    make_leaves left runs =
        leaves_ahead P (commit_of s o t) (course s (begun_point s o t)).effects [] old mid new
        (begun_done P C s o t budb old site ready.slots told ready.sound (ready.within told) (ready.log_told told) is found budb_after mid job first)
        (first_left mid left)
        (runs (begun_point s o t) (begun_at P C s o t budb old site ready.slots told ready.sound (ready.within told) (ready.log_told told) is found budb_after mid job first stays))

    -- it was stopped on the way
    pub make_stopped : {T : Type 0} (r : Result T DumpStop) → ((p : Point) → IsAtPoint P C s p budb_after mid site job → OnErr r (r ≢ Err stops.Plant → LeftAhead P (course s p).effects mid new)) → OnErr r (r ≢ Err stops.Plant → LeftAhead P (begun s o t).effects old new)
    unfolding begun
    make_stopped r runs =
        stopped_map stops.Plant r (LeftAhead P (course s (begun_point s o t)).effects mid new) (LeftAhead P (commit_of s o t ++ (course s (begun_point s o t)).effects) old new)
        (left_behind P (commit_of s o t) (course s (begun_point s o t)).effects old mid new
        (begun_done P C s o t budb old site ready.slots told ready.sound (ready.within told) (ready.log_told told) is found budb_after mid job first))
        (runs (begun_point s o t) (begun_at P C s o t budb old site ready.slots told ready.sound (ready.within told) (ready.log_told told) is found budb_after mid job first stays))

    pub make_time : o.time ≡ s.time → max o.time job.head.id ≡ (begun s o t).time
    unfolding begun
    make_time time = λ i. max (time i) ((ap (λ (j : JobFields). j.head.id) first.is ∙ ap (id_of o) is.keeps.fold) i)

    pub make_answered : (budb_end : BudbView) (text : List ℕ) (d : Dumped) → ((p : Point) → IsAtPoint P C s p budb_after mid site job → IsFinished P s p o.set o.port.offset text budb_end mid new)
        → d.text ≡ text → d.time ≡ max o.time job.head.id → o.time ≡ s.time → IsAnswered P s (begun s o t) budb_end old new d
    make_answered budb_end text d runs same time now =
        let finished : IsFinished P s (begun_point s o t) o.set o.port.offset text budb_end mid new = runs (begun_point s o t) (begun_at P C s o t budb old site ready.slots told ready.sound (ready.within told) (ready.log_told told) is found budb_after mid job first stays) in
        begun_answered P C s o t budb old site told is budb_end mid new finished.end d
        (begun_done P C s o t budb old site ready.slots told ready.sound (ready.within told) (ready.log_told told) is found budb_after mid job first)
        finished.ended (same ∙ finished.line) (time ∙ make_time now)

    -- what is told of it, where it went to its end
    pub make_told : (r : Result Dumped DumpStop) (budb_end : BudbView) (set : List ℕ) (offset time : ℕ) → set ≡ o.set → offset ≡ o.port.offset → time ≡ o.time → o.time ≡ s.time
        → ((p : Point) → IsAtPoint P C s p budb_after mid site job → IfOk r (λ (d : Dumped). IsFinished P s p set offset d.text budb_end mid new))
        → IfOk r (λ (d : Dumped). d.time ≡ max time job.head.id) → IfOk r (IsAnswered P s (begun s o t) budb_end old new)
    make_told (Ok d) budb_end set offset time same_set same_offset same_time now runs told_time =
        make_answered budb_end d.text d
        (λ p at. subst (λ (x : List ℕ × ℕ). IsFinished P s p x.0 x.1 d.text budb_end mid new) (λ i. (same_set i, same_offset i)) (runs p at))
        refl (told_time ∙ ap (λ (n : ℕ). max n job.head.id) same_time) now
    make_told (Err stop) budb_end set offset time same_set same_offset same_time now runs told_time = tt

-- ---- a dump that may be refused

module _ {D E : Type 0} (P : Plant D) (C : Cell E) (s : Scene) (o : DumpOrder) (budb : BudbView) (old : D) (site : E) (told : P.tells) (is : IsScene P C s budb old site) where
  search_left : (mid : D) (a : Answer) → LeavesLoads P old mid → Leaves P a.effects old mid
  search_left mid a left = leaves_more P [] a.effects old mid (loads_leave P old mid s.state (λ _. is.state) left)

  pub real_left : (mid : D) → LeavesLoads P old mid → Leaves P (real_answer s o).effects old mid
  real_left mid left = search_left mid (real_answer s o) left

  pub search_told : SlotLaws → (P.view old).log_size ≡ length (state_of P old).log → (fault : Option JobFault)
      → ((slots : List Slot) (whole : ℕ → Bool) → HasSlots P slots old → AreWhole P whole old → fault ≡ fault_of (first_tape budb.database slots whole o (P.view old).log_size)) → fault ≡ fault_of (tape_for s o)
  search_told laws log_told fault tells =
      tells (slots_in s) (whole_in s) (scene_slots P C s laws budb old site is) (scene_whole P C s budb old site is) ∙ ap fault_of (tape_told P C s budb old site o log_told is)

  module _ (entries : List VolEntry) (fault : Option JobFault) (mid : D) (same : entries ≡ map entry_of_stored (C.list site)) (fault_is : fault ≡ fault_of (tape_for s o)) where
    pub by_scene : refusal_by (entries_in s) o (fault_of (tape_for s o)) ≡ refusal_by entries o fault
    by_scene = λ i. refusal_by (sym (same ∙ ap (map entry_of_stored) is.cell) i) o (sym fault_is i)

    real_refused : (text : List ℕ) → refusal_by entries o fault ≡ Some text → real_answer s o ≡ said s text
    unfolding real_answer
    real_refused text refused = ap (λ (r : Option (List ℕ)). refused_or s r (begun_or s o (tape_for s o))) (by_scene ∙ refused)

    pub refused_answered : (text : List ℕ) (d : Dumped) → refusal_by entries o fault ≡ Some text → Loads P old mid → d.text ≡ text → d.time ≡ s.time → IsAnswered P s (real_answer s o) budb old mid d
    refused_answered text d refused loads text_is time =
        subst (λ (a : Answer). IsAnswered P s a budb old mid d) (sym (real_refused text refused))
        (answered_said P C s told budb old mid site text d is (loads_ahead P old mid s.state (λ _. is.state) loads) text_is time)

    pub passed_tape : refusal_by entries o fault ≡ None → FoundTape (tape_for s o)
    passed_tape passed = found_tape (tape_for s o) (sym fault_is ∙ (passes entries o fault passed).fault)

    real_begun : (t : FirstTape) → tape_for s o ≡ Ok t → refusal_by entries o fault ≡ None → real_answer s o ≡ begun s o t
    unfolding real_answer
    real_begun t found passed = ap (λ (r : Option (List ℕ)). refused_or s r (begun_or s o (tape_for s o))) (by_scene ∙ passed) ∙ ap (begun_or s o) found

    pub passed_scene : Loads P old mid → StaysQuiet P old mid → IsScene P C s budb mid site
    passed_scene loads stays = scene_later P C s told budb old mid site site is (loads_ahead P old mid s.state (λ _. is.state) loads) stays refl

    pub passed_answered : refusal_by entries o fault ≡ None → Loads P old mid → StaysQuiet P old mid → (budb_after : BudbView) (new : D) (d : Dumped) → ((t : FirstTape) → IsScene P C s budb mid site → tape_for s o ≡ Ok t → IsAnswered P s (begun s o t) budb_after mid new d) → IsAnswered P s (real_answer s o) budb_after old new d
    passed_answered passed loads stays budb_after new d makes =
        let found : FoundTape (tape_for s o) = passed_tape passed in
        let made : IsAnswered P s (begun s o found.tape) budb_after mid new d = makes found.tape (passed_scene loads stays) found.is in
        subst (λ (a : Answer). IsAnswered P s a budb_after old new d) (sym (real_begun found.tape found.is passed)) (record {
          done = done_ahead_both P [] (begun s o found.tape).effects old mid new (loads_ahead P old mid s.state (λ _. is.state) loads) made.done;
          text = made.text;
          time = made.time;
          keeps = made.keeps;
          state = made.state;
          settled = made.settled;
        })

    pub passed_told : (r : Result Dumped DumpStop) → refusal_by entries o fault ≡ None → Loads P old mid → StaysQuiet P old mid → (budb_after : BudbView) (new : D)
        → ((t : FirstTape) → IsScene P C s budb mid site → tape_for s o ≡ Ok t → IfOk r (IsAnswered P s (begun s o t) budb_after mid new)) → IfOk r (IsAnswered P s (real_answer s o) budb_after old new)
    passed_told (Ok d) passed loads stays budb_after new makes = passed_answered passed loads stays budb_after new d makes
    passed_told (Err stop) passed loads stays budb_after new makes = tt

    pub passed_left : refusal_by entries o fault ≡ None → Loads P old mid → LeavesLoads P old mid → StaysQuiet P old mid → (new : D) → ((t : FirstTape) → IsScene P C s budb mid site → tape_for s o ≡ Ok t → Leaves P (begun s o t).effects mid new) → Leaves P (real_answer s o).effects old new
    passed_left passed loads left stays new makes =
        let found : FoundTape (tape_for s o) = passed_tape passed in
        subst (λ (a : Answer). Leaves P a.effects old new) (sym (real_begun found.tape found.is passed))
        (leaves_ahead P [] (begun s o found.tape).effects [] old mid new (loads_ahead P old mid s.state (λ _. is.state) loads) (loads_leave P old mid s.state (λ _. is.state) left) (makes found.tape (passed_scene loads stays) found.is))

    pub passed_stopped : {T : Type 0} (r : Result T DumpStop) → refusal_by entries o fault ≡ None → Loads P old mid → StaysQuiet P old mid → (new : D)
        → ((t : FirstTape) → IsScene P C s budb mid site → tape_for s o ≡ Ok t → OnErr r (r ≢ Err stops.Plant → LeftAhead P (begun s o t).effects mid new)) → OnErr r (r ≢ Err stops.Plant → LeftAhead P (real_answer s o).effects old new)
    passed_stopped r passed loads stays new makes =
        let found : FoundTape (tape_for s o) = passed_tape passed in
        subst (λ (a : Answer). OnErr r (r ≢ Err stops.Plant → LeftAhead P a.effects old new)) (sym (real_begun found.tape found.is passed))
        (stopped_map stops.Plant r (LeftAhead P (begun s o found.tape).effects mid new) (LeftAhead P (begun s o found.tape).effects old new)
        (left_behind P [] (begun s o found.tape).effects old mid new (loads_ahead P old mid s.state (λ _. is.state) loads)) (makes found.tape (passed_scene loads stays) found.is))

-- ---- an order, a trial or not

trial_said : (s : Scene) (o : DumpOrder) → trial_answer s o ≡ said s (trial_answer s o).reply
trial_said s o = by (trial_refusal (entries_in s) o)
  where
    by : (r : Option (List ℕ)) → refused_or s r (said s (trial_text (database_in s).listed s.cell o)) ≡ said s (refused_or s r (said s (trial_text (database_in s).listed s.cell o))).reply
    by None = refl
    by (Some text) = refl

order_trial : (s : Scene) (a : DumpCommand) (o : DumpOrder) → a.trial ≡ true → order_answer s a o ≡ trial_answer s o
unfolding order_answer
order_trial s a o is = ap (λ (b : Bool). if b then trial_answer s o else real_answer s o) is

pub order_real : (s : Scene) (a : DumpCommand) (o : DumpOrder) → a.trial ≡ false → order_answer s a o ≡ real_answer s o
unfolding order_answer
order_real s a o is = ap (λ (b : Bool). if b then trial_answer s o else real_answer s o) is

pub trial_answered : {D E : Type 0} (P : Plant D) (C : Cell E) (s : Scene) (a : DumpCommand) (o : DumpOrder) (budb : BudbView) (old : D) (site : E) (d : Dumped) → a.trial ≡ true → P.sound old → P.tells → IsScene P C s budb old site → d.text ≡ (trial_answer s o).reply → d.time ≡ s.time → IsAnswered P s (order_answer s a o) budb old old d
trial_answered P C s a o budb old site d trial sound told is text time =
    subst (λ (x : Answer). IsAnswered P s x budb old old d) (sym (order_trial s a o trial ∙ trial_said s o))
    (answered_said P C s told budb old old site (trial_answer s o).reply d is (standing_ahead P old s.state sound (λ _. is.state)) text time)

pub trial_told : {D E : Type 0} (P : Plant D) (C : Cell E) (s : Scene) (a : DumpCommand) (o : DumpOrder) (budb : BudbView) (old : D) (site : E) (r : Result Dumped DumpStop) → a.trial ≡ true → P.sound old → P.tells → IsScene P C s budb old site
    → IfOk r (λ (d : Dumped). (d.text ≡ (trial_answer s o).reply) × (d.time ≡ s.time)) → IfOk r (IsAnswered P s (order_answer s a o) budb old old)
trial_told P C s a o budb old site (Ok d) trial sound told is so = trial_answered P C s a o budb old site d trial sound told is so.0 so.1
trial_told P C s a o budb old site (Err stop) trial sound told is so = tt

-- ---- a command

-- the cell was read, and its list is as it was
pub scene_read : {D E : Type 0} (P : Plant D) (C : Cell E) (s : Scene) (budb : BudbView) (plant : D) (site site_after : E) → IsScene P C s budb plant site → C.list site_after ≡ C.list site → IsScene P C s budb plant site_after
scene_read P C s budb plant site site_after is same = record {
  keeps = is.keeps;
  state = is.state;
  slots = is.slots;
  present = is.present;
  cell = same ∙ is.cell;
}

pub dump_refused : {D E : Type 0} (P : Plant D) (C : Cell E) (s : Scene) (used : Settings) (a : DumpCommand) (now : ℕ) (budb : BudbView) (old : D) (site : E) (text : List ℕ) (d : Dumped) → P.sound old → P.tells → Finds P C s used budb old site now → asked_port used budb.database a ≡ Err text → d.text ≡ text → d.time ≡ now → IsAnswered P s (dump_answer s a) budb old old d
unfolding dump_answer
dump_refused P C s used a now budb old site text d sound told finds asked same time =
    subst (λ (x : Answer). IsAnswered P s x budb old old d)
    (sym (ap (port_answer s a) ((λ i. asked_port (sym finds.config i) (sym finds.scene.keeps.fold i) a) ∙ asked)))
    (answered_said P C s told budb old old site text d finds.scene (standing_ahead P old s.state sound (λ _. finds.scene.state)) same (time ∙ finds.time))

pub dump_ordered : {D E : Type 0} (P : Plant D) (C : Cell E) (s : Scene) (used : Settings) (a : DumpCommand) (now : ℕ) (budb : BudbView) (old : D) (site : E) (entries : List VolEntry) (port : PortFields) (o : DumpOrder) → Finds P C s used budb old site now → asked_port used budb.database a ≡ Ok port → entries ≡ map entry_of_stored (C.list site) → o ≡ order_of used budb.database entries now a port → order_answer s a o ≡ dump_answer s a
unfolding dump_answer
dump_ordered P C s used a now budb old site entries port o finds asked same ordered =
    ap (order_answer s a) (ordered ∙ (λ i. order_of (finds.config i) (finds.scene.keeps.fold i) ((same ∙ ap (map entry_of_stored) finds.scene.cell) i) (finds.time i) a port))
    ∙ sym (ap (port_answer s a) ((λ i. asked_port (sym finds.config i) (sym finds.scene.keeps.fold i) a) ∙ asked))
