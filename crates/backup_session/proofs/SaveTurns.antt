-- What a save makes of a world: one tape is another one, and all else stays. What is read back is a refusal or one commit.
use Rattle.std.proofs.Common.{◌≡◌, ◌≢◌, zero, suc, ℕ, ◌+◌, ◌≤◌, Bool, true, false, List, [], ◌∷◌, ◌++◌, length, drop, map, inl, inr, refl, sym, ◌∙◌, ap, subst, arith, length-append}
use Rattle.std.specs.Prelude.{nat_lt, if◌then◌else◌, ◌==◌, ◌||◌, Option, Some, None, Result, Ok, Err, IfOk, OnOk}
use Rattle.std.proofs.lemmas.Bool.{cases_Bool, cases_lt}
use Rattle.crash_moments.specs.Moments.{HasCauseAt}
use Rattle.plant_core.specs.declared.plant.Plant.{Ghosts as Plant}
use Rattle.plant_core.specs.Crashes.{State, IsSettled}
use Rattle.plant_core.specs.Records.{Record, mark}
use Rattle.plant_core.specs.Effects.{Effect, puts, settles, cuts, comes, come, told_by, putting_away}
use Rattle.plant_effects.specs.Runs.{Done, Leaves, Stays}
use Rattle.plant_effects.proofs.Joining.{Fits as FitsImages, nothing_left}
use Rattle.tape_frames.specs.declared.label.LabelFields.{LabelFields}
use Rattle.tape_config.specs.declared.port.PortFields.{PortFields}
use Rattle.tape_scan.specs.Looking.{HasSlots}
use Rattle.tape_choice.specs.Choice.{permanent_in}
use Rattle.budb_changes.specs.declared.change.Change.{Change}
use Rattle.budb_fold.specs.Database.{after}
use Rattle.budb.specs.Kept.{Keeps}
use Rattle.budb_save.specs.declared.choosing.Picked.{Picked}
use Rattle.budb_save.specs.declared.saving.Saved.{Saved}
use Rattle.budb_save.specs.declared.fault.SaveFault.{SaveFault}
use Rattle.budb_save.specs.declared.fault.SaveFault.TheVariants.{NoTape, TooBig, Failed, Memory}
use Rattle.budb_save.specs.Saves.{save_name, save_label, room, piece_record, piece_count, pieces_up, pieces_of}
use Rattle.budb_save.specs.Writing.{putting_front, putting_piece, putting_save}
use Rattle.budb_save.specs.Back.{is_unused}
use Rattle.budb_save.specs.ReadBack.{read_back}
use Rattle.budb_save.specs.Saving.{saved_bytes, save_pick, load_pick, is_too_big, save_answer, putting_on, save_effects, Untouched}
use Rattle.budb_save.specs.Faults.{UnlessStopped, WhereRefused}
use Rattle.budb_save.proofs.SavingLaws.{fit_few}
use Rattle.backup_replies.specs.declared.refusals.Refusal.TheVariants as refusals
use Rattle.backup_replies.specs.Texts.{refused_alone, refused_word, refused_number, refused_numbers}
use Rattle.dump_courses.specs.Ahead.{DoneAhead, LeftAhead}
use Rattle.dump_courses.proofs.Ahead.{standing_ahead, behind_loads, leaves_ahead}
use Rattle.dump_courses.proofs.Stopping.{left_none, left_whole}
use Rattle.dump_courses.proofs.Ways.{SlotLaws, has_slots}
use Rattle.backup_session.specs.declared.stops.Stop.{Stop}
use Rattle.backup_session.specs.declared.stops.Stop.TheVariants as stops
use Rattle.backup_session.specs.Views.{SessionView, ReplyView}
use Rattle.backup_session.specs.Worlds.{World, Turn, before_reply, archive_of}
use Rattle.backup_session.specs.Turns.{said, length_with}
use Rattle.backup_session.specs.Saves.{lacks_room, saved_in_slot, saved_on, saved_turn, made_back, back_from, back_on, back_turn, room_for, picked_back, port_back, save_text}
use Rattle.backup_session.specs.Dumps.{scene_of}
use Rattle.backup_session.specs.Fitting.{FitsPlant, TurnedPlant}
use Rattle.backup_session.proofs.Room.{full_true, room_false}
use Rattle.backup_session.proofs.Settling.{done_ahead, ahead_behind}

-- ---- what is put on the tape

-- the pieces, and the last mark
abbrev closing : ℕ → List (List ℕ) → List Effect
closing k ps = map (putting_piece k) ps ++ (puts k mark ∷ settles k ∷ [])

-- behind the head
abbrev fronted : ℕ → LabelFields → ℕ → State → State
fronted k a count s = come (cuts k 0 ∷ putting_front k a count) s

-- the log stays
pieces_log : (k : ℕ) (ps : List (List ℕ)) (s : State) → (come (closing k ps) s).log ≡ s.log
pieces_log k [] s = refl
pieces_log k (p ∷ ps) s = pieces_log k ps (comes (putting_piece k p) s)

pub save_log : (k : ℕ) (a : LabelFields) (bytes : List ℕ) (s : State) → (come (putting_save k a bytes) s).log ≡ s.log
save_log k a bytes s = pieces_log k (pieces_of bytes) (fronted k a (length bytes) s)

-- nothing is told
pieces_silent : (k : ℕ) (ps : List (List ℕ)) → told_by (closing k ps) ≡ []
pieces_silent k [] = refl
pieces_silent k (p ∷ ps) = pieces_silent k ps

pub save_silent : (k : ℕ) (a : LabelFields) (bytes : List ℕ) → told_by (putting_save k a bytes) ≡ []
save_silent k a bytes = pieces_silent k (pieces_of bytes)

-- all is settled but what was put on the tape of a slot
pub record IsSettledElse (k : ℕ) (s : State) : Type 0 where
  pub log : s.log_settled ≡ length s.log
  pub tapes : (j : ℕ) → (j == k) ≡ false → s.settled j ≡ length (s.tape j)

pieces_settled : (k : ℕ) (ps : List (List ℕ)) (s : State) → IsSettledElse k s → IsSettled (come (closing k ps) s)
pieces_settled k [] s is = record {
  log = is.log;
  tapes = λ j. elim (cases_Bool (j == k)) [
    | inl hit ↦ rw hit refl
    | inr miss ↦ rw miss (is.tapes j miss)
  ];
}
pieces_settled k (p ∷ ps) s is = pieces_settled k ps (comes (putting_piece k p) s) record { log = is.log; tapes = λ j miss. rw miss (is.tapes j miss) }

pub save_settled : (k : ℕ) (a : LabelFields) (bytes : List ℕ) (s : State) → IsSettled s → IsSettled (come (putting_save k a bytes) s)
save_settled k a bytes s is = pieces_settled k (pieces_of bytes) (fronted k a (length bytes) s) record { log = is.log; tapes = λ j miss. rw miss (is.tapes j) }

-- the tape has few records, and the others stay
up_count : (n : ℕ) (bytes : List ℕ) → length (pieces_up n bytes) ≡ n
up_count zero bytes = refl
up_count (suc n) bytes = ap suc (up_count n (drop room bytes))

piece_there : (k j : ℕ) → (j == k) ≡ false → (p : List ℕ) (s : State) → (comes (putting_piece k p) s).tape j ≡ s.tape j
piece_there k j miss p s = rw miss refl

pieces_there : (k j : ℕ) → (j == k) ≡ false → (ps : List (List ℕ)) (s : State) → (come (closing k ps) s).tape j ≡ s.tape j
pieces_there k j miss [] s = rw miss refl
pieces_there k j miss (p ∷ ps) s = pieces_there k j miss ps (comes (putting_piece k p) s) ∙ piece_there k j miss p s

piece_here : (k j : ℕ) → (j == k) ≡ true → (p : List ℕ) (s : State) → length ((comes (putting_piece k p) s).tape j) ≡ length (s.tape j) + 1
piece_here k j hit p s = rw hit (length-append (s.tape j) (piece_record p ∷ []))

pieces_here : (k j : ℕ) → (j == k) ≡ true → (ps : List (List ℕ)) (s : State) → length ((come (closing k ps) s).tape j) ≡ length (s.tape j) + length ps + 1
pieces_here k j hit [] s = rw hit (omega (arith, length-append (s.tape j) (mark ∷ [])))
pieces_here k j hit (p ∷ ps) s = omega (arith, pieces_here k j hit ps (comes (putting_piece k p) s), piece_here k j hit p s)

front_here : (k j : ℕ) → (j == k) ≡ true → (a : LabelFields) (count : ℕ) (s : State) → length ((fronted k a count s).tape j) ≡ 3
front_here k j hit a count s = rw hit refl

front_there : (k j : ℕ) → (j == k) ≡ false → (a : LabelFields) (count : ℕ) (s : State) → (fronted k a count s).tape j ≡ s.tape j
front_there k j miss a count s = rw miss refl

few_pieces : (bytes : List ℕ) → length bytes ≤ 4000000000 → length (pieces_of bytes) ≤ 244620
few_pieces bytes few = omega (arith, up_count (piece_count (length bytes)) bytes, few)

pub save_short : (k : ℕ) (a : LabelFields) (bytes : List ℕ) (s : State) → length bytes ≤ 4000000000 → ((j : ℕ) → length (s.tape j) ≤ 4294967295) → (j : ℕ) → length ((come (putting_save k a bytes) s).tape j) ≤ 4294967295
save_short k a bytes s few short j =
    let ps = pieces_of bytes in
    let mid = fronted k a (length bytes) s in
    elim (cases_Bool (j == k)) [
      | inl hit ↦ (let all : length ((come (closing k ps) mid).tape j) ≤ 4294967295 = omega (arith, pieces_here k j hit ps mid, front_here k j hit a (length bytes) s, few_pieces bytes few) in all)
      | inr miss ↦ subst (λ (l : List Record). length l ≤ 4294967295) (sym (pieces_there k j miss ps mid ∙ front_there k j miss a (length bytes) s)) (short j)
    ]

-- ---- a turn is a refusal, or one tape is put on

room_few : (count : ℕ) (b : Bool) → (b || nat_lt 4000000000 count) ≡ false → count ≤ 4000000000
room_few count true is = absurd (let e : true ≡ false = is in cc)
room_few count false is = elim (cases_lt 4000000000 count) [
  | inl over ↦ absurd (let e : true ≡ false = sym (full_true 4000000000 count over) ∙ is in cc)
  | inr few ↦ few
]

module _ (w : World) (Q : Turn → Type 0) (none : (text : List ℕ) → Q (said w text)) (put : (p : Picked) (bytes : List ℕ) → length bytes ≤ 4000000000 → Q (saved_in_slot w p bytes)) where
  by_room : (port : PortFields) (bytes : List ℕ) (p : Picked) (b : Bool) → lacks_room port (length bytes) ≡ b → Q (if b then said w (refused_number refusals.SaveTooBig port.offset) else saved_in_slot w p bytes)
  by_room port bytes p true is = none (refused_number refusals.SaveTooBig port.offset)
  by_room port bytes p false is = put p bytes (room_few (length bytes) (is_too_big port (length bytes)) is)

  by_pick : (port : PortFields) (bytes : List ℕ) (o : Option Picked) → Q (saved_on w port bytes o)
  by_pick port bytes None = none (refused_word refusals.NoTape save_name)
  by_pick port bytes (Some p) = by_room port bytes p (lacks_room port (length bytes)) refl

  pub by_save : (r : Result PortFields (List ℕ)) → Q (saved_turn w r)
  by_save (Err text) = none text
  by_save (Ok port) = by_pick port (saved_bytes (after w.log)) (save_pick port (archive_of w).slots)

-- ---- what is read back is a refusal, or one commit

-- These changes are read back at a port: the database isn't in use, the tape that is picked has them, and the log has room for them.
pub record ComesBack (w : World) (r : Result PortFields (List ℕ)) (changes : List Change) : Type 0 where
  pub port : PortFields
  pub is_port : r ≡ Ok port
  pub unused : is_unused (after w.log) ≡ true
  pub pick : Picked
  pub picked : load_pick port (archive_of w).slots ≡ Some pick
  pub read : read_back (w.state.tape pick.slot) ≡ Ok changes
  pub room : length_with w changes ≤ 268435456
  pub back : port_back w r ≡ Some changes

room_there : (n : ℕ) → nat_lt 268435456 n ≡ false → n ≤ 268435456
room_there n is = elim (cases_lt 268435456 n) [
  | inl over ↦ absurd (let e : true ≡ false = sym (full_true 268435456 n over) ∙ is in cc)
  | inr few ↦ few
]

module _ (w : World) (Q : Turn → Type 0) (none : (text : List ℕ) → Q (said w text)) where
  module _ (port : PortFields) (made : (changes : List Change) → ComesBack w (Ok port) changes → Q (made_back w changes)) where
    back_by_room : (p : Picked) (changes : List Change) → is_unused (after w.log) ≡ true → load_pick port (archive_of w).slots ≡ Some p → read_back (w.state.tape p.slot) ≡ Ok changes
        → (b : Bool) → nat_lt 268435456 (length_with w changes) ≡ b → Q (if b then said w (refused_number refusals.LogFull (length_with w changes)) else made_back w changes)
    back_by_room p changes unused picked read true is = none (refused_number refusals.LogFull (length_with w changes))
    back_by_room p changes unused picked read false is = made changes record {
      port = port;
      is_port = refl;
      unused = unused;
      pick = p;
      picked = picked;
      read = read;
      room = room_there (length_with w changes) is;
      back = ap (λ (b : Bool). if b then picked_back w (load_pick port (archive_of w).slots) else None) unused ∙ ap (picked_back w) picked ∙ ap (room_for w) read
          ∙ ap (λ (b : Bool). if b then None else Some changes) is;
    }

    back_by_read : (p : Picked) → is_unused (after w.log) ≡ true → load_pick port (archive_of w).slots ≡ Some p → (r : Result (List Change) ℕ) → read_back (w.state.tape p.slot) ≡ r → Q (back_from w p.slot r)
    back_by_read p unused picked (Err place) is = none (refused_numbers refusals.BadSave p.slot place)
    back_by_read p unused picked (Ok changes) is = back_by_room p changes unused picked is (nat_lt 268435456 (length_with w changes)) refl

    back_by_pick : is_unused (after w.log) ≡ true → (o : Option Picked) → load_pick port (archive_of w).slots ≡ o → Q (back_on w port o)
    back_by_pick unused None is = none (refused_number refusals.NoSave port.offset)
    back_by_pick unused (Some p) is = back_by_read p unused is (read_back (w.state.tape p.slot)) refl

    back_by_use : (b : Bool) → is_unused (after w.log) ≡ b → Q (if b then back_on w port (load_pick port (archive_of w).slots) else said w (refused_alone refusals.DatabaseInUse))
    back_by_use true is = back_by_pick is (load_pick port (archive_of w).slots) refl
    back_by_use false is = none (refused_alone refusals.DatabaseInUse)

  -- each turn of a database that is read back is a refusal, or makes the changes that come back
  pub by_back : (r : Result PortFields (List ℕ)) → ((changes : List Change) → ComesBack w r changes → Q (made_back w changes)) → Q (back_turn w r)
  by_back (Err text) made = none text
  by_back (Ok port) made = back_by_use port made (is_unused (after w.log)) refl

-- ---- a save that was done

-- no port of a configuration has more room
room_is : (port : PortFields) (count : ℕ) → port.capacity ≤ 4000000000 → is_too_big port count ≡ lacks_room port count
room_is port count within = go (is_too_big port count) refl
  where
    go : (b : Bool) → is_too_big port count ≡ b → b ≡ (b || nat_lt 4000000000 count)
    go true is = refl
    go false is = sym (room_false 4000000000 count (fit_few port count within is))

-- the tapes that a load puts away
abbrev pub away_by : Bool → ℕ → List ℕ
away_by true k = []
away_by false k = k ∷ []

abbrev pub away : Option ℕ → ℕ → List ℕ
away None slot = []
away (Some k) slot = away_by (k == slot) k

pub away_is : (loaded : Option ℕ) (slot : ℕ) → putting_away loaded slot ≡ map settles (away loaded slot)
away_is None slot = refl
away_is (Some k) slot = go (k == slot)
  where
    go : (b : Bool) → (if b then [] else settles k ∷ []) ≡ map settles (away_by b k)
    go true = refl
    go false = refl

module _ {D : Type 0} (P : Plant D) (w : World) (old new : D) (session : SessionView) (fits : FitsPlant P w old session) (sound : P.sound old) (told : P.tells) (port : PortFields) (within : port.capacity ≤ 4000000000) (loaded : Option ℕ) (bytes : List ℕ) where
  -- nothing but a reply
  nothing_put : Done P [] old new → DoneAhead P [] old new
  nothing_put done = done_ahead P [] old new w.state fits.state done

  -- loading is no effect
  one_put : (p : Picked) → Done P (putting_on p loaded bytes) old new → DoneAhead P (saved_in_slot w p bytes).effects old new
  one_put p done =
      let fs = putting_save p.slot (save_label (permanent_in p.label)) bytes in
      behind_loads P [] fs (away loaded p.slot) old old new (standing_ahead P old w.state sound (λ _. fits.state)) (subst (λ (es : List Effect). Done P (es ++ fs) old new) (away_is loaded p.slot) done)

  one_left : FitsImages P old → (p : Picked) → Leaves P (putting_on p loaded bytes) old new → Leaves P (saved_in_slot w p bytes).effects old new
  one_left images p left =
      let fs = putting_save p.slot (save_label (permanent_in p.label)) bytes in
      leaves_ahead P [] fs (away loaded p.slot) old old new (standing_ahead P old w.state sound (λ _. fits.state)) (nothing_left P [] old images) (subst (λ (es : List Effect). Leaves P (es ++ fs) old new) (away_is loaded p.slot) left)

  -- ---- by the tape that is picked

  put_by : (p : Picked) (b : Bool) → Done P (if b then [] else putting_on p loaded bytes) old new → DoneAhead P (if b then said w (refused_number refusals.SaveTooBig port.offset) else saved_in_slot w p bytes).effects old new
  put_by p true done = nothing_put done
  put_by p false done = one_put p done

  left_by : FitsImages P old → (p : Picked) (b : Bool) → Leaves P (if b then [] else putting_on p loaded bytes) old new → Leaves P (if b then said w (refused_number refusals.SaveTooBig port.offset) else saved_in_slot w p bytes).effects old new
  left_by images p true left = left
  left_by images p false left = one_left images p left

  pub save_done : (o : Option Picked) → Done P (save_effects port o loaded bytes) old new → DoneAhead P (saved_on w port bytes o).effects old new
  save_done None done = nothing_put done
  save_done (Some p) done =
      subst (λ (b : Bool). DoneAhead P (if b then said w (refused_number refusals.SaveTooBig port.offset) else saved_in_slot w p bytes).effects old new) (room_is port (length bytes) within) (put_by p (is_too_big port (length bytes)) done)

  pub save_left : FitsImages P old → (o : Option Picked) → Leaves P (save_effects port o loaded bytes) old new → Leaves P (saved_on w port bytes o).effects old new
  save_left images None left = left
  save_left images (Some p) left =
      subst (λ (b : Bool). Leaves P (if b then said w (refused_number refusals.SaveTooBig port.offset) else saved_in_slot w p bytes).effects old new) (room_is port (length bytes) within) (left_by images p (is_too_big port (length bytes)) left)

  -- what is told
  text_by : (p : Picked) (b : Bool) → save_text port.offset (if b then Err TooBig else Ok (record { bytes = length bytes; slot = p.slot })) ≡ (if b then said w (refused_number refusals.SaveTooBig port.offset) else saved_in_slot w p bytes).reply
  text_by p true = refl
  text_by p false = refl

  save_told : (o : Option Picked) → save_text port.offset (save_answer port o (length bytes)) ≡ (saved_on w port bytes o).reply
  save_told None = refl
  save_told (Some p) =
      text_by p (is_too_big port (length bytes)) ∙ ap (λ (b : Bool). (if b then said w (refused_number refusals.SaveTooBig port.offset) else saved_in_slot w p bytes).reply) (room_is port (length bytes) within)

  -- ---- the world behind it

  module _ (stays : Stays P old new) where
    abbrev LeavesWorld : Turn → Type 0
    LeavesWorld t = DoneAhead P t.effects old new → FitsPlant P (before_reply w t) new session × (IsSettled w.state → IsSettled (come t.effects w.state))

    behind_reply : (text : List ℕ) → LeavesWorld (said w text)
    behind_reply text done = (
      record {
        keeps = fits.keeps;
        time = fits.time;
        config = fits.config;
        state = ahead_behind P [] old new w.state told fits.state done;
        slots = stays.slots ∙ fits.slots;
        present = λ k. ap (λ (p : ℕ → Bool). p k) stays.present ∙ fits.present k;
        groups = fits.groups;
      },
      λ whole. whole,
    )

    behind_save : (p : Picked) (these : List ℕ) → length these ≤ 4000000000 → LeavesWorld (saved_in_slot w p these)
    behind_save p these few done =
        let a = save_label (permanent_in p.label) in
        let es = putting_save p.slot a these in (
          record {
            keeps = subst (λ (l : List ℕ). Keeps w.log l session.budb) (sym (save_log p.slot a these w.state)) fits.keeps;
            time = fits.time;
            config = fits.config;
            state = ahead_behind P es old new w.state told fits.state done;
            slots = stays.slots ∙ fits.slots;
            present = λ k. ap (λ (p : ℕ → Bool). p k) stays.present ∙ fits.present k;
            groups = fits.groups;
          },
          λ whole. save_settled p.slot a these w.state whole,
        )

    -- a save's turn is done, and its answer is told
    pub save_turned : (o : Option Picked) → Done P (save_effects port o loaded bytes) old new → (reply : ReplyView) → reply.text ≡ save_text port.offset (save_answer port o (length bytes)) → TurnedPlant P w (saved_on w port bytes o) old new session reply
    save_turned o done reply text =
        let ahead = save_done o done in
        let world = by_pick w LeavesWorld behind_reply behind_save port bytes o ahead in
        record { done = ahead; text = text ∙ save_told o; fits = world.0; settles = world.1 }

-- ---- by the answer

-- a stop that isn't the plant's is no refusal by the outside
pub not_failed : {T : Type 0} (saved : Result Saved SaveFault) (r : Result T Stop) → (saved ≡ Err Failed → r ≡ Err stops.Plant) → r ≢ Err stops.Plant → saved ≢ Err Failed
not_failed saved r failed other = λ is. other (failed is)

pub unless_map : {A B : Type 0} (saved : Result Saved SaveFault) → (A → B) → UnlessStopped saved A → UnlessStopped saved B
unless_map (Ok x) map is = map is
unless_map (Err NoTape) map is = map is
unless_map (Err TooBig) map is = map is
unless_map (Err Failed) map is = tt
unless_map (Err Memory) map is = tt

-- it is so, unless the outside refused or memory ran out
pub stands_unless : (saved : Result Saved SaveFault) (Q : Type 0) → UnlessStopped saved Q → saved ≢ Err Failed → saved ≢ Err Memory → Q
stands_unless (Ok x) Q is one two = is
stands_unless (Err NoTape) Q is one two = is
stands_unless (Err TooBig) Q is one two = is
stands_unless (Err Failed) Q is one two = absurd (one refl)
stands_unless (Err Memory) Q is one two = absurd (two refl)

-- a plant on which nothing failed is sound
pub sound_unless : {D : Type 0} (P : Plant D) (old new : D) (saved : Result Saved SaveFault) → OnOk saved (P.sound new) → WhereRefused saved (Untouched P old new) → saved ≢ Err Failed → P.sound new
sound_unless P old new (Ok x) sound refused other = sound
sound_unless P old new (Err NoTape) sound refused other = refused.done.sound
sound_unless P old new (Err TooBig) sound refused other = refused.done.sound
sound_unless P old new (Err Failed) sound refused other = absurd (other refl)
sound_unless P old new (Err Memory) sound refused other = refused.done.sound

-- What a stop leaves that isn't the plant's: nothing was done where memory ran out in front of the save, and all of it behind it.
pub left_unless : {D : Type 0} (P : Plant D) (es : List Effect) (old new : D) (saved : Result Saved SaveFault) → (Done P [] old new → DoneAhead P [] old new) → UnlessStopped saved (DoneAhead P es old new) → WhereRefused saved (Untouched P old new) → saved ≢ Err Failed → LeftAhead P es old new
left_unless P es old new (Ok x) nothing done refused other = left_whole P es old new done
left_unless P es old new (Err NoTape) nothing done refused other = left_whole P es old new done
left_unless P es old new (Err TooBig) nothing done refused other = left_whole P es old new done
left_unless P es old new (Err Failed) nothing done refused other = absurd (other refl)
left_unless P es old new (Err Memory) nothing done refused other = left_none P es old new (nothing refused.done)

-- an answer that is told is no stop
pub told_answer : (offset : ℕ) (saved : Result Saved SaveFault) (r : Result ReplyView Stop) (Q : ReplyView → Type 0) → IfOk r (λ reply. reply.text ≡ save_text offset saved) → (saved ≡ Err Failed → r ≡ Err stops.Plant) → (saved ≡ Err Memory → r ≡ Err stops.Memory)
    → ((reply : ReplyView) → reply.text ≡ save_text offset saved → saved ≢ Err Failed → saved ≢ Err Memory → Q reply) → IfOk r Q
told_answer offset saved (Ok reply) Q text failed memory is = is reply text (λ e. absurd (let f : Ok reply ≡ Err stops.Plant = failed e in cc)) (λ e. absurd (let f : Ok reply ≡ Err stops.Memory = memory e in cc))
told_answer offset saved (Err stop) Q text failed memory is = tt

pub at_ok : {T : Type 0} (r : Result T Stop) (Q : Type 0) → (r ≢ Err stops.Plant → Q) → OnOk r Q
at_ok (Ok x) Q is = is (λ e. cc)
at_ok (Err stop) Q is = tt

-- the causes of a refusal by the outside are the plant's
pub cause_of : {T : Type 0} (saved : Result Saved SaveFault) (r : Result T Stop) (before now : ℕ) → (r ≡ Err stops.Plant → saved ≡ Err Failed) → (saved ≡ Err Failed → r ≡ Err stops.Plant) → HasCauseAt Failed before now saved → HasCauseAt stops.Plant before now r
cause_of saved r before now plant failed cause = record { later = cause.later; failed = λ is. cause.failed (plant is); stays = λ other. cause.stays (λ is. other (failed is)) }

-- ---- the slots of a world

pub slots_of_world : {D : Type 0} (P : Plant D) (w : World) (old : D) (session : SessionView) → SlotLaws → FitsPlant P w old session → HasSlots P (archive_of w).slots old
slots_of_world P w old session laws fits = has_slots P laws (scene_of w) w.state.tape old fits.slots fits.present fits.state.tape
