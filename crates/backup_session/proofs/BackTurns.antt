-- What reading a saved database back makes of a plant, by its answer.
use Rattle.std.proofs.Common.{◌≡◌, ◌≢◌, ℕ, ◌+◌, ◌≤◌, Bool, true, false, List, [], ◌∷◌, ◌++◌, length, map, refl, sym, ◌∙◌, ap, subst, arith}
use Rattle.std.specs.Prelude.{max, nat_lt, if◌then◌else◌, Option, Some, None, Result, Ok, Err, IfOk}
use Rattle.plant_core.specs.declared.plant.Plant.{Ghosts as Plant}
use Rattle.plant_core.specs.Records.{Record}
use Rattle.plant_core.specs.Effects.{Effect, commits, settles, come}
use Rattle.plant_effects.specs.Runs.{state_of, loaded_of, Done, Leaves, Stays}
use Rattle.plant_effects.proofs.Joining.{Fits as FitsImages, nothing_left}
use Rattle.tape_config.specs.declared.port.PortFields.{PortFields}
use Rattle.tape_scan.specs.Slots.{Slot}
use Rattle.tape_scan.specs.Looking.{HasSlots, Loads}
use Rattle.budb_changes.specs.declared.change.Change.{Change}
use Rattle.budb_changes.specs.Bytes.{encoded}
use Rattle.budb_fold.specs.declared.database.Database.{Database}
use Rattle.budb_fold.specs.Database.{after, after_from}
use Rattle.budb.specs.Kept.{Keeps}
use Rattle.budb.specs.Views.{BudbView}
use Rattle.budb_save.specs.declared.choosing.Picked.{Picked}
use Rattle.budb_save.specs.declared.fault.LoadFault.{LoadFault}
use Rattle.budb_save.specs.declared.fault.LoadFault.TheVariants.{InUse, NoSave, BadSave, LogFull, Failed, Memory}
use Rattle.budb_save.specs.Back.{IsUnused, is_unused}
use Rattle.budb_save.specs.ReadBack.{read_back}
use Rattle.budb_save.specs.Saving.{load_pick}
use Rattle.budb_save.specs.Loading.{SavesChanges, LoadsBack, answer_from, answer_on, load_answer, commit_from, commit_on, load_effects, LeavesAway, UnlessLoadStopped}
use Rattle.backup_replies.specs.declared.refusals.Refusal.TheVariants as refusals
use Rattle.backup_replies.specs.Texts.{refused_alone, refused_number}
use Rattle.backup_replies.specs.Saves.{back_lines}
use Rattle.dump_courses.specs.Ahead.{DoneAhead}
use Rattle.dump_courses.proofs.Ahead.{standing_ahead, behind_loads, leaves_ahead, loads_ahead}
use Rattle.backup_session.specs.declared.stops.Stop.{Stop}
use Rattle.backup_session.specs.declared.stops.Stop.TheVariants as stops
use Rattle.backup_session.specs.Views.{SessionView, ReplyView}
use Rattle.backup_session.specs.Worlds.{World, Turn, before_reply, archive_of}
use Rattle.backup_session.specs.Turns.{said, length_with}
use Rattle.backup_session.specs.Opening.{database_time}
use Rattle.backup_session.specs.Saves.{made_back, back_from, back_on, back_turn, back_text}
use Rattle.backup_session.specs.Fitting.{FitsPlant, TurnedPlant}
use Rattle.backup_session.proofs.Room.{room_false}
use Rattle.backup_session.proofs.Settling.{ahead_behind, settled_commit}
use Rattle.backup_session.proofs.SaveTurns.{away, away_is}

-- ---- the laws of reading back, as the crate below has them

pub record BackLaws : Type 0 where
  pub changes : (tape : List Record) (changes : List Change) → SavesChanges tape changes → read_back tape ≡ Ok changes
  pub unused : (db : Database) → IsUnused db → is_unused db ≡ true

-- ---- the answers

pub err_is : {T E : Type 0} (e f : E) → (let r : Result T E = Err e in r) ≡ Err f → e ≡ f
err_is e f is = cc

module _ (w : World) (port : PortFields) where
  -- a turn by whether the database is in use, and by the tape that is picked
  abbrev turn_by : Bool → Option Picked → Turn
  turn_by b o = if b then back_on w port o else said w (refused_alone refusals.DatabaseInUse)

  -- by whether the log is full
  abbrev by_full : List Change → Bool → Turn
  by_full changes b = if b then said w (refused_number refusals.LogFull (length_with w changes)) else made_back w changes

  -- the size is that of the world's log
  module _ (size : ℕ) (size_is : size ≡ length (encoded w.log)) where
    sum_is : (changes : List Change) → size + length (encoded changes) ≡ length_with w changes
    sum_is changes = ap (λ (n : ℕ). n + length (encoded changes)) size_is

    effects_full : (changes : List Change) (b : Bool) → (if b then [] else commits (encoded changes) ∷ []) ≡ (by_full changes b).effects
    effects_full changes true = refl
    effects_full changes false = refl

    effects_from : (slot : ℕ) (r : Result (List Change) ℕ) → commit_from size r ≡ (back_from w slot r).effects
    effects_from slot (Err place) = refl
    effects_from slot (Ok changes) =
        ap (λ (n : ℕ). if nat_lt 268435456 n then [] else commits (encoded changes) ∷ []) (sum_is changes) ∙ effects_full changes (nat_lt 268435456 (length_with w changes))

    -- on tapes that the world has
    module _ (tape : ℕ → List Record) (tape_is : (k : ℕ) → tape k ≡ w.state.tape k) where
      effects_on : (o : Option Picked) → commit_on size tape o ≡ (back_on w port o).effects
      effects_on None = refl
      effects_on (Some p) = ap (λ (t : List Record). commit_from size (read_back t)) (tape_is p.slot) ∙ effects_from p.slot (read_back (w.state.tape p.slot))

      effects_by : (b : Bool) (o : Option Picked) → (if b then commit_on size tape o else []) ≡ (turn_by b o).effects
      effects_by true o = effects_on o
      effects_by false o = refl

      -- what is done is what the turn does
      pub effects_are : (db : Database) → db ≡ after w.log → (o : Option Picked) → load_effects db size tape o ≡ (turn_by (is_unused (after w.log)) o).effects
      effects_are db is o = ap (λ (d : Database). load_effects d size tape o) is ∙ effects_by (is_unused (after w.log)) o

      -- where it is refused the turn says so
      refused_full : (db : Database) (fault : LoadFault) (changes : List Change) (b : Bool) → (if b then Err (LogFull (length_with w changes)) else Ok (length (after_from changes db).listed)) ≡ Err fault → by_full changes b ≡ said w (back_text port.offset fault)
      refused_full db fault changes true is = ap (λ (f : LoadFault). said w (back_text port.offset f)) (err_is {T = ℕ} (LogFull (length_with w changes)) fault is)
      refused_full db fault changes false is = cc

      refused_from : (db : Database) (fault : LoadFault) (slot : ℕ) (r : Result (List Change) ℕ) → answer_from db size slot r ≡ Err fault → back_from w slot r ≡ said w (back_text port.offset fault)
      refused_from db fault slot (Err place) is = ap (λ (f : LoadFault). said w (back_text port.offset f)) (err_is {T = ℕ} (BadSave slot place) fault is)
      refused_from db fault slot (Ok changes) is = refused_full db fault changes (nat_lt 268435456 (length_with w changes))
          (sym (ap (λ (n : ℕ). if nat_lt 268435456 n then Err (LogFull n) else Ok (length (after_from changes db).listed)) (sum_is changes)) ∙ is)

      refused_on : (db : Database) (fault : LoadFault) (o : Option Picked) → answer_on db size tape o ≡ Err fault → back_on w port o ≡ said w (back_text port.offset fault)
      refused_on db fault None is = ap (λ (f : LoadFault). said w (back_text port.offset f)) (err_is {T = ℕ} NoSave fault is)
      refused_on db fault (Some p) is = refused_from db fault p.slot (read_back (w.state.tape p.slot)) (sym (ap (λ (t : List Record). answer_from db size p.slot (read_back t)) (tape_is p.slot)) ∙ is)

      refused_by : (db : Database) (fault : LoadFault) (b : Bool) (o : Option Picked) → (if b then answer_on db size tape o else Err InUse) ≡ Err fault → turn_by b o ≡ said w (back_text port.offset fault)
      refused_by db fault true o is = refused_on db fault o is
      refused_by db fault false o is = ap (λ (f : LoadFault). said w (back_text port.offset f)) (err_is {T = ℕ} InUse fault is)

      pub refused_is : (db : Database) → db ≡ after w.log → (fault : LoadFault) (o : Option Picked) → load_answer db size tape o ≡ Err fault → turn_by (is_unused (after w.log)) o ≡ said w (back_text port.offset fault)
      refused_is db db_is fault o is = refused_by db fault (is_unused (after w.log)) o (sym (ap (λ (d : Database). if is_unused d then answer_on db size tape o else Err InUse) db_is) ∙ is)

  -- where the changes of the tape that is picked go in, the turn makes them
  pub made_is : is_unused (after w.log) ≡ true → (p : Picked) (o : Option Picked) → o ≡ Some p → (changes : List Change) → read_back (w.state.tape p.slot) ≡ Ok changes → length_with w changes ≤ 268435456 → turn_by (is_unused (after w.log)) o ≡ made_back w changes
  made_is unused p o picked changes read room =
      ap (λ (b : Bool). turn_by b o) unused ∙ ap (back_on w port) picked ∙ ap (back_from w p.slot) read ∙ ap (by_full changes) (room_false 268435456 (length_with w changes) room)

-- ---- the plant

module _ {D : Type 0} (P : Plant D) (w : World) (old new : D) (session : SessionView) (fits : FitsPlant P w old session) (sound : P.sound old) (told : P.tells) (port : PortFields) (log_told : (P.view old).log_size ≡ length (state_of P old).log) (has : HasSlots P (archive_of w).slots old) where
  abbrev slots : List Slot
  slots = (archive_of w).slots

  abbrev pick : Option Picked
  pick = load_pick port (archive_of w).slots

  size_told : (P.view old).log_size ≡ length (encoded w.log)
  size_told = log_told ∙ ap length (fits.state.log ∙ fits.keeps.is)

  -- whatever is answered
  pub back_left : (was : BudbView) → was.database ≡ after w.log → FitsImages P old → LeavesAway P (load_effects was.database (P.view old).log_size (state_of P old).tape pick) old new → Leaves P (back_turn w (Ok port)).effects old new
  back_left was is images left =
      let t = back_turn w (Ok port) in
      leaves_ahead P [] t.effects left.away old old new (standing_ahead P old w.state sound (λ _. fits.state)) (nothing_left P [] old images)
      (subst (λ (es : List Effect). Leaves P (map settles left.away ++ es) old new) (effects_are w port (P.view old).log_size size_told (state_of P old).tape fits.state.tape was.database is pick) left.leaves)

  -- a refusal says so, and nothing was done
  pub back_refused : (was : BudbView) → was.database ≡ after w.log → (fault : LoadFault) → load_answer was.database (P.view old).log_size (state_of P old).tape pick ≡ Err fault → Loads P old new → Stays P old new
      → (later : SessionView) → later ≡ session → (reply : ReplyView) → reply.text ≡ back_text port.offset fault → TurnedPlant P w (back_turn w (Ok port)) old new later reply
  back_refused was is fault answer loads stays later same reply text =
      let ahead = loads_ahead P old new w.state (λ _. fits.state) loads in
      subst (λ (t : Turn). TurnedPlant P w t old new later reply) (sym (refused_is w port (P.view old).log_size size_told (state_of P old).tape fits.state.tape was.database is fault pick answer))
      (record {
        done = ahead;
        text = text;
        fits = subst (λ (s : SessionView). FitsPlant P (before_reply w (said w (back_text port.offset fault))) new s) (sym same) (record {
          keeps = fits.keeps;
          time = fits.time;
          config = fits.config;
          state = ahead_behind P [] old new w.state told fits.state ahead;
          slots = stays.slots ∙ fits.slots;
          present = λ k. ap (λ (p : ℕ → Bool). p k) stays.present ∙ fits.present k;
          groups = fits.groups;
        });
        settles = λ whole. whole;
      })

  -- ---- what is read back

  module _ (laws : BackLaws) (was now : BudbView) (was_is : was.database ≡ after w.log) (count : ℕ) (back : LoadsBack P port old new was now count) where
    room_told : length_with w back.changes ≤ 268435456
    room_told = omega (arith, back.size, back.within, size_told)

    made_turn : back_turn w (Ok port) ≡ made_back w back.changes
    made_turn =
        let saved = back.saved told slots has in
        let p = saved.0 in
        let read : read_back ((state_of P old).tape back.slot) ≡ Ok back.changes = laws.changes ((state_of P old).tape back.slot) back.changes saved.3 in
        made_is w port (ap is_unused (sym was_is) ∙ laws.unused was.database back.unused) p pick saved.1 back.changes
        (subst (λ (t : List Record). read_back t ≡ Ok back.changes) (ap (state_of P old).tape (sym saved.2) ∙ fits.state.tape p.slot) read) room_told

    done_there : DoneAhead P (commits (encoded back.changes) ∷ []) old new
    done_there =
        let fs = commits (encoded back.changes) ∷ [] in
        behind_loads P [] fs (away (loaded_of P old) back.slot) old old new (standing_ahead P old w.state sound (λ _. fits.state))
        (subst (λ (es : List Effect). Done P (es ++ fs) old new) (away_is (loaded_of P old) back.slot) back.done)

    -- all of it was done
    pub back_done : DoneAhead P (back_turn w (Ok port)).effects old new
    back_done = subst (λ (t : Turn). DoneAhead P t.effects old new) (sym made_turn) done_there

    kept_there : Keeps (w.log ++ back.changes) (state_of P new).log now
    kept_there = back.keeps told w.log record { form = fits.keeps.form; is = fits.state.log ∙ fits.keeps.is; fold = was_is }

    pub back_turned : Stays P old new → (later : SessionView) → later.budb ≡ now → later.time ≡ max session.time (database_time now.database) → later.config ≡ session.config → later.groups ≡ session.groups
        → (reply : ReplyView) → reply.text ≡ back_lines count → TurnedPlant P w (back_turn w (Ok port)) old new later reply
    back_turned stays later budb time config groups reply text =
        let t = made_back w back.changes in
        let state = ahead_behind P t.effects old new w.state told fits.state done_there in
        subst (λ (t : Turn). TurnedPlant P w t old new later reply) (sym made_turn) (record {
          done = done_there;
          text = text ∙ ap back_lines (back.counted ∙ ap (λ (d : Database). length d.listed) kept_there.fold);
          fits = record {
            keeps = subst (λ (b : BudbView). Keeps (w.log ++ back.changes) (come t.effects w.state).log b) (sym budb) (subst (λ (l : List ℕ). Keeps (w.log ++ back.changes) l now) state.log kept_there);
            time = time ∙ ap (λ (n : ℕ). max n (database_time now.database)) fits.time ∙ ap (λ (d : Database). max w.time (database_time d)) kept_there.fold;
            config = config ∙ fits.config;
            state = state;
            slots = stays.slots ∙ fits.slots;
            present = λ k. ap (λ (p : ℕ → Bool). p k) stays.present ∙ fits.present k;
            groups = groups ∙ fits.groups;
          };
          settles = λ whole. settled_commit (encoded back.changes) w.state whole;
        })

-- ---- by the answer

-- it is so, unless the outside refused or memory ran out
pub stands_for : {Q : Type 0} (fault : LoadFault) → UnlessLoadStopped (Err fault) Q → fault ≢ Failed → fault ≢ Memory → Q
stands_for InUse is one two = is
stands_for NoSave is one two = is
stands_for (BadSave slot place) is one two = is
stands_for (LogFull n) is one two = is
stands_for Failed is one two = absurd (one refl)
stands_for Memory is one two = absurd (two refl)

-- a refusal that is told is no stop
pub told_refusal : (offset : ℕ) (fault : LoadFault) (r : Result ReplyView Stop) (Q : ReplyView → Type 0) → IfOk r (λ reply. reply.text ≡ back_text offset fault) → (fault ≡ Failed → r ≡ Err stops.Plant) → (fault ≡ Memory → r ≡ Err stops.Memory)
    → ((reply : ReplyView) → reply.text ≡ back_text offset fault → fault ≢ Failed → fault ≢ Memory → Q reply) → IfOk r Q
told_refusal offset fault (Ok reply) Q text failed memory is = is reply text (λ e. absurd (let f : Ok reply ≡ Err stops.Plant = failed e in cc)) (λ e. absurd (let f : Ok reply ≡ Err stops.Memory = memory e in cc))
told_refusal offset fault (Err stop) Q text failed memory is = tt
