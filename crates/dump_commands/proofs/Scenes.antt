-- What a dump finds, as its calls ask for it.
use Rattle.std.proofs.Common.{◌≡◌, ◌↔◌, zero, suc, ℕ, List, [], ◌∷◌, ◌++◌, length, map, Bool, true, false, refl, sym, ◌∙◌, ap, subst}
use Rattle.std.specs.Prelude.{Some, None, Result, Ok, not, IsTrue}
use Rattle.std.specs.List.{list_any}
use Rattle.std.proofs.lemmas.Bool.{false≢true}
use Rattle.plant_core.specs.declared.plant.Plant.{Ghosts as Plant}
use Rattle.plant_core.specs.Crashes.{State, IsSettled, IsWithin}
use Rattle.plant_core.specs.Effects.{Effect, commits, settles, come}
use Rattle.plant_core.specs.Records.{Record, block_with, mark, bad, NoBad}
use Rattle.plant_effects.specs.Runs.{state_of, Leaves, StaysQuiet}
use Rattle.plant_effects.proofs.States.{come_append}
use Rattle.plant_effects.proofs.Joining.{Fits, nothing_left}
use Rattle.cell_core.specs.declared.cell.Cell.{Ghosts as Cell}
use Rattle.tape_scan.specs.Looking.{HasSlots}
use Rattle.tape_choice.specs.Append.{AreWhole}
use Rattle.budb_changes.specs.Bytes.{encoded}
use Rattle.budb_fold.specs.declared.database.Database.{Database}
use Rattle.budb.specs.Views.{BudbView}
use Rattle.budb.specs.Kept.{Keeps}
use Rattle.dump_job.specs.declared.fault.JobFault.{JobFault}
use Rattle.dump_job.specs.declared.first_tapes.FirstTape.{FirstTape}
use Rattle.dump_job.specs.declared.order.DumpOrder.{DumpOrder}
use Rattle.dump_job.specs.declared.fields.JobFields.{JobFields}
use Rattle.dump_job.specs.Faults.{LeavesBehindLoads}
use Rattle.dump_job.specs.Beginning.{id_of, begin_changes, begin_effects, begun_job, first_tape, IsBegun}
use Rattle.dump_courses.specs.declared.running.End.{End}
use Rattle.dump_courses.specs.Scenes.{Scene, slots_in, is_bad, whole_in, IsScene}
use Rattle.dump_courses.specs.Courses.{Course, course}
use Rattle.dump_courses.specs.Ahead.{IsAhead, DoneAhead}
use Rattle.dump_courses.specs.Running.{IsAtPoint, IsEnded, answer_of}
use Rattle.dump_courses.proofs.Ahead.{ahead_both, ahead_come, nothing_ahead, behind_loads, done_ahead_both, leaves_ahead}
use Rattle.dump_courses.proofs.Settling.{commit_settled}
use Rattle.dump_courses.proofs.CourseEnds.{course_settled}
use Rattle.dump_courses.proofs.Ways.{SlotLaws, has_slots}
use Rattle.dump_commands.specs.declared.told.Dumped.{Dumped}
use Rattle.dump_commands.specs.Answers.{said, begin_of, commit_of, begun_point, end_line, ended, begun, tape_for, IsAnswered}

-- ---- tapes without a bad record

none_bad : (tape : List Record) → list_any is_bad tape ≡ false → NoBad tape
none_bad [] none i is = let e : None ≡ Some bad = is in cc
none_bad (block_with bytes ∷ tape) none zero is = let e : Some (block_with bytes) ≡ Some bad = is in cc
none_bad (block_with bytes ∷ tape) none (suc i) is = none_bad tape none i is
none_bad (mark ∷ tape) none zero is = let e : Some mark ≡ Some bad = is in cc
none_bad (mark ∷ tape) none (suc i) is = none_bad tape none i is
none_bad (bad ∷ tape) none i is = absurd (false≢true (sym none))

bad_none : (tape : List Record) → NoBad tape → list_any is_bad tape ≡ false
bad_none [] none = refl
bad_none (block_with bytes ∷ tape) none = bad_none tape (λ i is. none (suc i) is)
bad_none (mark ∷ tape) none = bad_none tape (λ i is. none (suc i) is)
bad_none (bad ∷ tape) none = absurd (none 0 refl)

not_true : (b : Bool) → not b ≡ true → b ≡ false
not_true true e = absurd (false≢true e)
not_true false e = refl

pub whole_is : (tape : List Record) → IsTrue (not (list_any is_bad tape)) ↔ NoBad tape
whole_is tape = (λ whole. none_bad tape (not_true (list_any is_bad tape) whole), λ none. ap not (bad_none tape none))

-- ---- what is found

module _ {D E : Type 0} (P : Plant D) (C : Cell E) (s : Scene) where
  pub scene_slots : SlotLaws → (budb : BudbView) (plant : D) (site : E) → IsScene P C s budb plant site → HasSlots P (slots_in s) plant
  scene_slots laws budb plant site is = has_slots P laws s s.state.tape plant is.slots is.present is.state.tape

  pub scene_whole : (budb : BudbView) (plant : D) (site : E) → IsScene P C s budb plant site → AreWhole P (whole_in s) plant
  scene_whole budb plant site is = λ k. subst (λ (tape : List Record). IsTrue (whole_in s k) ↔ NoBad tape) (sym (is.state.tape k)) (whole_is (s.state.tape k))

  -- the tape on which a dump would begin, as a search finds it
  pub tape_told : (budb : BudbView) (plant : D) (site : E) (o : DumpOrder) → (P.view plant).log_size ≡ length (state_of P plant).log → IsScene P C s budb plant site
      → first_tape budb.database (slots_in s) (whole_in s) o (P.view plant).log_size ≡ tape_for s o
  unfolding tape_for
  tape_told budb plant site o log_told is =
      let size : (P.view plant).log_size ≡ length (encoded s.log) = log_told ∙ ap length is.state.log ∙ ap length is.keeps.is in
      λ i. first_tape (is.keeps.fold i) (slots_in s) (whole_in s) o (size i)

  -- tapes were loaded, and nothing else is otherwise
  pub scene_later : P.tells → (budb : BudbView) (old new : D) (site site_after : E) → IsScene P C s budb old site → DoneAhead P [] old new → StaysQuiet P old new → C.list site_after ≡ C.list site → IsScene P C s budb new site_after
  scene_later told budb old new site site_after is done stays list = record {
    keeps = is.keeps;
    state = ahead_both s.state (state_of P old) (state_of P new) is.state (done.state told);
    slots = stays.stays.slots ∙ is.slots;
    present = λ k. ap (λ (f : ℕ → Bool). f k) stays.stays.present ∙ is.present k;
    cell = list ∙ is.cell;
  }

  -- nothing but a reply
  pub answered_said : P.tells → (budb : BudbView) (old new : D) (site : E) (text : List ℕ) (d : Dumped) → IsScene P C s budb old site → DoneAhead P [] old new → d.text ≡ text → d.time ≡ s.time → IsAnswered P s (said s text) budb old new d
  answered_said told budb old new site text d is done same time = record {
    done = done;
    text = same;
    time = time;
    keeps = is.keeps;
    state = ahead_both s.state (state_of P old) (state_of P new) is.state (done.state told);
    settled = λ whole. whole;
  }

  -- ---- a dump is begun

  module _ (o : DumpOrder) (t : FirstTape) (budb : BudbView) (old : D) (site : E) where
    same_tape : (told : Result FirstTape JobFault) (r u : FirstTape) → told ≡ Ok r → told ≡ Ok u → r ≡ u
    same_tape told r u one other = cc

    the_tape : SlotLaws → P.tells → (P.view old).log_size ≡ length (state_of P old).log → IsScene P C s budb old site → tape_for s o ≡ Ok t → (budb_after : BudbView) (new : D) (job : JobFields) → (begun : IsBegun P o budb budb_after old new job) → begun.tape ≡ t
    the_tape laws told log_told is found budb_after new job begun =
        same_tape (first_tape budb.database (slots_in s) (whole_in s) o (P.view old).log_size) begun.tape t (begun.right told (slots_in s) (whole_in s) (scene_slots laws budb old site is) (scene_whole budb old site is)) (tape_told budb old site o log_told is ∙ found)

    commit_by : Database → FirstTape → List Effect
    commit_by db tape = commits (encoded (begin_changes (id_of o db) tape.take)) ∷ []

    pub begun_done : SlotLaws → P.tells → P.sound old → IsWithin (state_of P old) → (P.view old).log_size ≡ length (state_of P old).log → IsScene P C s budb old site → tape_for s o ≡ Ok t → (budb_after : BudbView) (new : D) (job : JobFields) → IsBegun P o budb budb_after old new job → DoneAhead P (commit_of s o t) old new
    unfolding commit_by
    begun_done laws told sound within log_told is found budb_after new job begun =
        let tape : begun.tape ≡ t = the_tape laws told log_told is found budb_after new job begun in
        let effects : commit_by budb.database begun.tape ≡ commit_of s o t = λ i. commit_by (is.keeps.fold i) (tape i) in
        subst (λ (es : List Effect). DoneAhead P es old new) effects
        (behind_loads P [] (commit_by budb.database begun.tape) begun.done.away old old new (nothing_ahead P old sound (λ _. within)) begun.done.done)

    pub begun_at : SlotLaws → P.tells → P.sound old → IsWithin (state_of P old) → (P.view old).log_size ≡ length (state_of P old).log → IsScene P C s budb old site → tape_for s o ≡ Ok t → (budb_after : BudbView) (new : D) (job : JobFields) → IsBegun P o budb budb_after old new job → StaysQuiet P old new → IsAtPoint P C s (begun_point s o t) budb_after new site job
    begun_at laws told sound within log_told is found budb_after new job begun stays =
        let tape : begun.tape ≡ t = the_tape laws told log_told is found budb_after new job begun in
        let done : DoneAhead P (commit_of s o t) old new = begun_done laws told sound within log_told is found budb_after new job begun in
        let ahead : IsAhead (come (commit_of s o t) s.state) (state_of P new) = ahead_both (come (commit_of s o t) s.state) (come (commit_of s o t) (state_of P old)) (state_of P new) (ahead_come (commit_of s o t) s.state (state_of P old) is.state) (done.state told) in
        let kept : Keeps (s.log ++ begin_changes (id_of o budb.database) begun.tape.take) (state_of P new).log budb_after = begun.keeps told s.log (subst (λ (l : List ℕ). Keeps s.log l budb) (sym is.state.log) is.keeps) in
        record {
          keeps = subst (λ (l : List ℕ). Keeps (s.log ++ begin_of s o t) l budb_after) ahead.log (subst (λ (x : Database × FirstTape). Keeps (s.log ++ begin_changes (id_of o x.0) x.1.take) (state_of P new).log budb_after) (λ i. (is.keeps.fold i, tape i)) kept);
          state = ahead;
          slots = stays.stays.slots ∙ is.slots;
          present = λ k. ap (λ (f : ℕ → Bool). f k) stays.stays.present ∙ is.present k;
          cell = is.cell;
          job = begun.is ∙ (λ i. begun_job o (is.keeps.fold i).listed (id_of o (is.keeps.fold i)) (tape i));
        }

    -- its begin, and no more of it
    pub begin_left : SlotLaws → P.tells → P.sound old → IsWithin (state_of P old) → Fits P old → (P.view old).log_size ≡ length (state_of P old).log → IsScene P C s budb old site → tape_for s o ≡ Ok t → (new : D) → LeavesBehindLoads P (begin_effects (id_of o budb.database) (first_tape budb.database (slots_in s) (whole_in s) o (P.view old).log_size)) old new → Leaves P (commit_of s o t) old new
    begin_left laws told sound within fits log_told is found new left =
        let effects : begin_effects (id_of o budb.database) (first_tape budb.database (slots_in s) (whole_in s) o (P.view old).log_size) ≡ commit_of s o t =
        ap (begin_effects (id_of o budb.database)) (tape_told budb old site o log_told is ∙ found) ∙ ap (λ (db : Database). begin_effects (id_of o db) (Ok t)) is.keeps.fold in
        leaves_ahead P [] (commit_of s o t) left.away old old new (nothing_ahead P old sound (λ _. within)) (nothing_left P [] old fits)
        (subst (λ (es : List Effect). Leaves P (map settles left.away ++ es) old new) effects left.leaves)

    -- the dump was begun and went to its end
    pub begun_answered : P.tells → IsScene P C s budb old site → (budb_after : BudbView) (mid new : D) (end : End) (d : Dumped) → DoneAhead P (commit_of s o t) old mid → IsEnded P s (begun_point s o t) end budb_after mid new
        → d.text ≡ end_line o.set o.port.offset budb_after.database.listed (answer_of end) → d.time ≡ (begun s o t).time → IsAnswered P s (begun s o t) budb_after old new d
    unfolding begun
    begun_answered told is budb_after mid new end d first ended text time =
        let c : Course = course s (begun_point s o t) in
        let es : List Effect = commit_of s o t ++ (course s (begun_point s o t)).effects in
        let joined : come (commit_of s o t ++ (course s (begun_point s o t)).effects) s.state ≡ come (course s (begun_point s o t)).effects (come (commit_of s o t) s.state) = come_append (commit_of s o t) (course s (begun_point s o t)).effects s.state in
        let done : DoneAhead P (commit_of s o t ++ (course s (begun_point s o t)).effects) old new = done_ahead_both P (commit_of s o t) (course s (begun_point s o t)).effects old mid new first ended.done in
        record {
          done = done;
          text = text ∙ (λ i. end_line o.set o.port.offset (ended.keeps.fold i).listed (sym ended.answer i));
          time = time;
          keeps = subst (λ (l : List ℕ). Keeps (course s (begun_point s o t)).log l budb_after) (sym (ap (λ (u : State). u.log) joined)) ended.keeps;
          state = ahead_both (come es s.state) (come es (state_of P old)) (state_of P new) (ahead_come es s.state (state_of P old) is.state) (done.state told);
          settled = λ whole. subst IsSettled (sym joined) (course_settled s (begun_point s o t) end (commit_settled (encoded (begin_of s o t)) s.state whole) ended.answer);
        }
