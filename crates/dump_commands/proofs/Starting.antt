-- A dump that is begun as a command asks it, from what its calls tell.
use Rattle.std.proofs.Common.{◌≡◌, ◌≢◌, ℕ, List, [], ◌∷◌, ◌++◌, map, refl, sym, ◌∙◌, ap, subst}
use Rattle.std.specs.Prelude.{Bool, false, Option, Some, None, Result, Ok, Err, IfOk, OnErr}
use Rattle.vnode_model.specs.declared.listed.VolEntry.{VolEntry}
use Rattle.plant_core.specs.declared.plant.Plant.{Ghosts as Plant}
use Rattle.plant_core.specs.Crashes.{State}
use Rattle.plant_core.specs.Effects.{commits, settles, come}
use Rattle.plant_effects.specs.Runs.{state_of, Leaves, StaysQuiet}
use Rattle.plant_effects.proofs.Joining.{leaves_more}
use Rattle.cell_core.specs.declared.cell.Cell.{Ghosts as Cell}
use Rattle.cell_core.specs.Calls.{entry_of_stored}
use Rattle.tape_config.specs.Configs.{Settings}
use Rattle.tape_config.specs.declared.port.PortFields.{PortFields}
use Rattle.tape_scan.specs.Slots.{Slot}
use Rattle.tape_scan.specs.Looking.{HasSlots, Loads, LeavesLoads}
use Rattle.tape_choice.specs.Append.{AreWhole}
use Rattle.budb.specs.Views.{BudbView}
use Rattle.dump_job.specs.declared.fault.JobFault.{JobFault}
use Rattle.dump_job.specs.declared.first_tapes.FirstTape.{FirstTape}
use Rattle.dump_job.specs.declared.order.DumpOrder.{DumpOrder}
use Rattle.dump_job.specs.declared.fields.JobFields.{JobFields}
use Rattle.dump_job.specs.Elsewhere.{LeavesTapes}
use Rattle.dump_job.specs.Faults.{LeavesBehindLoads}
use Rattle.dump_job.specs.Beginning.{id_of, begin_effects, first_tape, IsBegun}
use Rattle.dump_job.proofs.Elsewhere.{loads_leave}
use Rattle.dump_courses.specs.declared.stop.DumpStop.{DumpStop}
use Rattle.dump_courses.specs.declared.stop.DumpStop.TheVariants as stops
use Rattle.dump_courses.specs.Ahead.{LeftAhead}
use Rattle.dump_courses.specs.Scenes.{Scene, database_in, slots_in, whole_in, entries_in, IsScene, Finds}
use Rattle.dump_courses.proofs.Ahead.{standing_ahead, loads_ahead, done_ahead_both, leaves_ahead}
use Rattle.dump_courses.proofs.Ahead as ahead
use Rattle.dump_courses.proofs.Stopping.{stopped_map, left_behind}
use Rattle.dump_courses.proofs.Steps.{IsReady}
use Rattle.backup_words.specs.declared.command.DumpCommand.{DumpCommand}
use Rattle.dump_commands.specs.Refusals.{fault_of, refusal_by}
use Rattle.dump_commands.specs.Orders.{asked_port, order_of}
use Rattle.dump_commands.specs.Answers.{Answer, said, commit_of, begun, tape_for, refused_or, begun_or, real_answer, port_answer, dump_answer}
use Rattle.dump_commands.specs.Starts.{Start, start_on, start_or, order_start, port_start, dump_start, start_effects, Starts}
use Rattle.dump_commands.proofs.Passing.{FoundTape}
use Rattle.dump_commands.proofs.Scenes.{scene_slots, scene_whole, begun_done, begun_at, begin_left}
use Rattle.dump_commands.proofs.Making.{by_scene, passed_tape, passed_scene, order_real}

-- ---- a dump that nothing refuses

module _ {D E : Type 0} (P : Plant D) (C : Cell E) (s : Scene) (o : DumpOrder) (t : FirstTape) (budb : BudbView) (old : D) (site : E) (ready : IsReady P old) (told : P.tells) (is : IsScene P C s budb old site) (found : tape_for s o ≡ Ok t) where
  pub start_left : (mid : D) → ((slots : List Slot) (whole : ℕ → Bool) → HasSlots P slots old → AreWhole P whole old → LeavesBehindLoads P (begin_effects (id_of o budb.database) (first_tape budb.database slots whole o (P.view old).log_size)) old mid) → Leaves P (commit_of s o t) old mid
  start_left mid left = begin_left P C s o t budb old site ready.slots told ready.sound (ready.within told) ready.fits (ready.log_told told) is found mid (left (slots_in s) (whole_in s) (scene_slots P C s ready.slots budb old site is) (scene_whole P C s budb old site is))

  pub start_made : (budb_after : BudbView) (mid : D) (job : JobFields) → IsBegun P o budb budb_after old mid job → StaysQuiet P old mid → Starts P C s (Ok (record { order = o; tape = t })) budb budb_after old mid site (Ok job)
  start_made budb_after mid job first stays = (
    record { order = o; tape = t },
    refl,
    record {
      done = begun_done P C s o t budb old site ready.slots told ready.sound (ready.within told) (ready.log_told told) is found budb_after mid job first;
      at = begun_at P C s o t budb old site ready.slots told ready.sound (ready.within told) (ready.log_told told) is found budb_after mid job first stays;
    },
  )

-- a commit behind loads leaves all tapes
commit_leaves : (bytes : List ℕ) (away : List ℕ) (s : State) (q : ℕ) → (come (map settles away ++ commits bytes ∷ []) s).tape q ≡ s.tape q
commit_leaves bytes [] s q = refl
commit_leaves bytes (x ∷ away) s q = commit_leaves bytes away _ q

pub begun_tapes : {D : Type 0} (P : Plant D) → P.tells → (o : DumpOrder) (budb budb_after : BudbView) (old new : D) (job : JobFields) → IsBegun P o budb budb_after old new job → LeavesTapes P old new
begun_tapes P told o budb budb_after old new job begun = λ q. (begun.done.done.state told).tape q ∙ commit_leaves _ begun.done.away (state_of P old) q

pub loads_tapes : {D : Type 0} (P : Plant D) → P.tells → (old new : D) → Loads P old new → LeavesTapes P old new
loads_tapes P told old new loads = λ q. (loads.done.state told).tape q ∙ loads_leave loads.away (state_of P old) q

pub tapes_both : {D : Type 0} (P : Plant D) (old mid new : D) → LeavesTapes P old mid → LeavesTapes P mid new → LeavesTapes P old new
tapes_both P old mid new first second = λ q. second q ∙ first q

-- ---- a dump that may be refused

module _ {D E : Type 0} (P : Plant D) (C : Cell E) (s : Scene) (o : DumpOrder) (budb : BudbView) (old : D) (site : E) (told : P.tells) (is : IsScene P C s budb old site) where
  -- a search alone was made
  pub search_starts : (mid : D) (due : Result Start (List ℕ)) → LeavesLoads P old mid → Leaves P (start_effects s due) old mid
  search_starts mid due left = leaves_more P [] (start_effects s due) old mid (ahead.loads_leave P old mid s.state (λ _. is.state) left)

  module _ (entries : List VolEntry) (fault : Option JobFault) (mid : D) (same : entries ≡ map entry_of_stored (C.list site)) (fault_is : fault ≡ fault_of (tape_for s o)) where
    start_refused : (text : List ℕ) → refusal_by entries o fault ≡ Some text → order_start s o ≡ Err text
    start_refused text refused = ap (λ (r : Option (List ℕ)). start_or r (start_on o (tape_for s o))) (by_scene P C s o budb old site told is entries fault mid same fault_is ∙ refused)

    start_passed : (t : FirstTape) → tape_for s o ≡ Ok t → refusal_by entries o fault ≡ None → order_start s o ≡ Ok (record { order = o; tape = t })
    start_passed t found passed =
        ap (λ (r : Option (List ℕ)). start_or r (start_on o (tape_for s o))) (by_scene P C s o budb old site told is entries fault mid same fault_is ∙ passed) ∙ ap (start_on o) found

    pub refused_starts : (text : List ℕ) → refusal_by entries o fault ≡ Some text → Loads P old mid → Starts P C s (order_start s o) budb budb old mid site (Err text)
    refused_starts text refused loads = (start_refused text refused, refl, loads_ahead P old mid s.state (λ _. is.state) loads)

    passed_job : (r : Result JobFields (List ℕ)) → refusal_by entries o fault ≡ None → Loads P old mid → (budb_after : BudbView) (new : D) (t : FirstTape) → tape_for s o ≡ Ok t
        → Starts P C s (Ok (record { order = o; tape = t })) budb budb_after mid new site r → Starts P C s (order_start s o) budb budb_after old new site r
    passed_job (Ok job) passed loads budb_after new t found (b, due, made) = (
      b,
      start_passed t found passed ∙ due,
      record {
        done = done_ahead_both P [] (commit_of s b.order b.tape) old mid new (loads_ahead P old mid s.state (λ _. is.state) loads) made.done;
        at = made.at;
      },
    )
    passed_job (Err text) passed loads budb_after new t found made = (
      start_passed t found passed ∙ made.0,
      made.1,
      done_ahead_both P [] [] old mid new (loads_ahead P old mid s.state (λ _. is.state) loads) made.2,
    )

    pub passed_starts : (r : Result (Result JobFields (List ℕ)) DumpStop) → refusal_by entries o fault ≡ None → Loads P old mid → StaysQuiet P old mid → (budb_after : BudbView) (new : D)
        → ((t : FirstTape) → IsScene P C s budb mid site → tape_for s o ≡ Ok t → IfOk r (Starts P C s (Ok (record { order = o; tape = t })) budb budb_after mid new site)) → IfOk r (Starts P C s (order_start s o) budb budb_after old new site)
    passed_starts (Ok r) passed loads stays budb_after new makes =
        let found : FoundTape (tape_for s o) = passed_tape P C s o budb old site told is entries fault mid same fault_is passed in
        passed_job r passed loads budb_after new found.tape found.is (makes found.tape (passed_scene P C s o budb old site told is entries fault mid same fault_is loads stays) found.is)
    passed_starts (Err stop) passed loads stays budb_after new makes = tt

    pub passed_start_left : refusal_by entries o fault ≡ None → Loads P old mid → LeavesLoads P old mid → StaysQuiet P old mid → (new : D)
        → ((t : FirstTape) → IsScene P C s budb mid site → tape_for s o ≡ Ok t → Leaves P (commit_of s o t) mid new) → Leaves P (start_effects s (order_start s o)) old new
    passed_start_left passed loads left stays new makes =
        let found : FoundTape (tape_for s o) = passed_tape P C s o budb old site told is entries fault mid same fault_is passed in
        subst (λ (due : Result Start (List ℕ)). Leaves P (start_effects s due) old new) (sym (start_passed found.tape found.is passed))
        (leaves_ahead P [] (commit_of s o found.tape) [] old mid new (loads_ahead P old mid s.state (λ _. is.state) loads) (ahead.loads_leave P old mid s.state (λ _. is.state) left)
        (makes found.tape (passed_scene P C s o budb old site told is entries fault mid same fault_is loads stays) found.is))

    pub passed_start_stopped : {T : Type 0} (r : Result T DumpStop) → refusal_by entries o fault ≡ None → Loads P old mid → StaysQuiet P old mid → (new : D)
        → ((t : FirstTape) → IsScene P C s budb mid site → tape_for s o ≡ Ok t → OnErr r (r ≢ Err stops.Plant → LeftAhead P (commit_of s o t) mid new)) → OnErr r (r ≢ Err stops.Plant → LeftAhead P (start_effects s (order_start s o)) old new)
    passed_start_stopped r passed loads stays new makes =
        let found : FoundTape (tape_for s o) = passed_tape P C s o budb old site told is entries fault mid same fault_is passed in
        subst (λ (due : Result Start (List ℕ)). OnErr r (r ≢ Err stops.Plant → LeftAhead P (start_effects s due) old new)) (sym (start_passed found.tape found.is passed))
        (stopped_map stops.Plant r (LeftAhead P (commit_of s o found.tape) mid new) (LeftAhead P (commit_of s o found.tape) old new)
        (left_behind P [] (commit_of s o found.tape) old mid new (loads_ahead P old mid s.state (λ _. is.state) loads))
        (makes found.tape (passed_scene P C s o budb old site told is entries fault mid same fault_is loads stays) found.is))

-- ---- a command

pub port_refused : {D E : Type 0} (P : Plant D) (C : Cell E) (s : Scene) (used : Settings) (a : DumpCommand) (now : ℕ) (budb : BudbView) (old : D) (site : E) (text : List ℕ) → P.sound old → Finds P C s used budb old site now → asked_port used budb.database a ≡ Err text → Starts P C s (dump_start s a) budb budb old old site (Err text)
unfolding dump_start
port_refused P C s used a now budb old site text sound finds asked = (
  ap (port_start s a) ((λ i. asked_port (sym finds.config i) (sym finds.scene.keeps.fold i) a) ∙ asked),
  refl,
  standing_ahead P old s.state sound (λ _. finds.scene.state),
)

pub port_ordered : {D E : Type 0} (P : Plant D) (C : Cell E) (s : Scene) (used : Settings) (a : DumpCommand) (now : ℕ) (budb : BudbView) (old : D) (site : E) (entries : List VolEntry) (port : PortFields) (o : DumpOrder) → Finds P C s used budb old site now → asked_port used budb.database a ≡ Ok port → entries ≡ map entry_of_stored (C.list site) → o ≡ order_of used budb.database entries now a port → order_start s o ≡ dump_start s a
unfolding dump_start
port_ordered P C s used a now budb old site entries port o finds asked same ordered =
    ap (order_start s) (ordered ∙ (λ i. order_of (finds.config i) (finds.scene.keeps.fold i) ((same ∙ ap (map entry_of_stored) finds.scene.cell) i) (finds.time i) a port))
    ∙ sym (ap (port_start s a) ((λ i. asked_port (sym finds.config i) (sym finds.scene.keeps.fold i) a) ∙ asked))

-- ---- what begins is what a dump that isn't tried out does

abbrev answer_by : Scene → Result Start (List ℕ) → Answer
answer_by s (Ok b) = begun s b.order b.tape
answer_by s (Err text) = said s text

either_answer : (s : Scene) (o : DumpOrder) (refusal : Option (List ℕ)) (tape : Result FirstTape JobFault) → refused_or s refusal (begun_or s o tape) ≡ answer_by s (start_or refusal (start_on o tape))
either_answer s o (Some text) tape = refl
either_answer s o None (Ok t) = refl
either_answer s o None (Err f) = refl

real_start : (s : Scene) (o : DumpOrder) → real_answer s o ≡ answer_by s (order_start s o)
unfolding real_answer
real_start s o = either_answer s o (refusal_by (entries_in s) o (fault_of (tape_for s o))) (tape_for s o)

port_either : (s : Scene) (a : DumpCommand) (port : Result PortFields (List ℕ)) → a.trial ≡ false → port_answer s a port ≡ answer_by s (port_start s a port)
port_either s a (Err text) real = refl
port_either s a (Ok port) real = order_real s a (order_of s.config (database_in s) (entries_in s) s.time a port) real ∙ real_start s (order_of s.config (database_in s) (entries_in s) s.time a port)

command_start : (s : Scene) (a : DumpCommand) → a.trial ≡ false → dump_answer s a ≡ answer_by s (dump_start s a)
unfolding dump_answer dump_start
command_start s a real = port_either s a (asked_port s.config (database_in s) a) real

pub answer_begun : (s : Scene) (a : DumpCommand) (b : Start) → a.trial ≡ false → dump_start s a ≡ Ok b → dump_answer s a ≡ begun s b.order b.tape
answer_begun s a b real is = command_start s a real ∙ ap (answer_by s) is

pub answer_refused : (s : Scene) (a : DumpCommand) (text : List ℕ) → a.trial ≡ false → dump_start s a ≡ Err text → dump_answer s a ≡ said s text
answer_refused s a text real is = command_start s a real ∙ ap (answer_by s) is

-- ---- a begin that was refused

-- what is so at an error
pub at_err : {T E : Type 0} (r : Result T E) (e : E) (Q : Type 0) → r ≡ Err e → OnErr r Q → Q
at_err {T} {E} r e Q is holds = subst (λ (x : Result T E). OnErr x Q) is holds

pub refused_if : (r : Result (Result JobFields (List ℕ)) DumpStop) (text : List ℕ) (Q : JobFields → Type 0) → IfOk r (λ (x : Result JobFields (List ℕ)). x ≡ Err text) → IfOk r (λ (x : Result JobFields (List ℕ)). IfOk x Q)
refused_if (Ok (Ok job)) text Q is = absurd (cc)
refused_if (Ok (Err other)) text Q is = tt
refused_if (Err stop) text Q is = tt

-- what is so of the order's port is so of the dump's
pub started_port : (r : Result (Result JobFields (List ℕ)) DumpStop) (port : PortFields) (Q : PortFields → Type 0) → Q port → IfOk r (λ (x : Result JobFields (List ℕ)). IfOk x (λ (j : JobFields). j.port ≡ port)) → IfOk r (λ (x : Result JobFields (List ℕ)). IfOk x (λ (j : JobFields). Q j.port))
started_port (Ok (Ok job)) port Q so is = subst Q (sym is) so
started_port (Ok (Err text)) port Q so is = tt
started_port (Err stop) port Q so is = tt
