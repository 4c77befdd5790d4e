-- Tapes that are scanned one after the other, turns in steps, and dumps that are added one after the other.
use Rattle.std.proofs.Common.{◌≡◌, ⊎_elim, zero, suc, ℕ, ◌+◌, ◌-◌, ◌<◌, ◌≤◌, Bool, true, false, List, [], ◌∷◌, ◌++◌, length, take, drop, refl, sym, ◌∙◌, ap, subst, arith, append_assoc}
use Rattle.std.specs.Prelude.{if◌then◌else◌, map, Result, Ok, Err, IfOk, IsTrue, All}
use Rattle.std.specs.List.{filter, flat_map, fold, range_with_len}
use Rattle.std.proofs.lemmas.Bool.{cases_lt}
use Rattle.std.proofs.lemmas.List.{append-nil, map-append, take-append-drop}
use Rattle.std.proofs.lemmas.List.Elements.{All-nil, All-cons, filter-append}
use Rattle.std.proofs.lemmas.Grind.{fold-append}
use Rattle.plant_core.specs.declared.plant.Plant.{Ghosts as Plant}
use Rattle.plant_core.specs.Crashes.{State, IsSettled}
use Rattle.plant_core.specs.Records.{Record}
use Rattle.plant_core.specs.Effects.{Effect, commits}
use Rattle.plant_effects.specs.Runs.{state_of, Done, Leaves, Stays}
use Rattle.plant_effects.proofs.States.{come_append}
use Rattle.plant_effects.proofs.Joining.{Fits as FitsImages, nothing_left, leaves_more}
use Rattle.tape_scan.specs.Looking.{Loads, LeavesLoads}
use Rattle.tape_scan.proofs.Looking.{loads_keep_tape, leaves_loads}
use Rattle.tape_scan.specs.declared.sections.Sections.{Sections}
use Rattle.tape_scan.specs.declared.assembling.Found.{Found}
use Rattle.tape_answers.specs.Scanning.{sections_of}
use Rattle.tape_answers.specs.Assembling.{found_in}
use Rattle.tape_config.specs.declared.port.PortFields.{PortFields}
use Rattle.tape_config.specs.Configs.{Settings}
use Rattle.budb_fold.specs.declared.database.HostPort.{HostPort}
use Rattle.budb_fold.specs.declared.database.Database.{Database}
use Rattle.budb_fold.specs.Database.{after, has_dump}
use Rattle.budb_changes.specs.declared.records.DumpRecordFields.{DumpRecordFields}
use Rattle.budb_changes.specs.declared.change.Change.{Change}
use Rattle.budb_changes.specs.declared.change.Change.TheVariants as change
use Rattle.budb_changes.specs.Bytes.{encoded}
use Rattle.budb.specs.Kept.{Keeps}
use Rattle.backup_replies.specs.declared.refusals.Refusal.TheVariants.{DumpKnown, WrongParent, LogFull}
use Rattle.backup_replies.specs.Texts.{refused_number, refused_numbers, ok_line}
use Rattle.backup_replies.specs.Scans.{found_line, added_line}
use Rattle.dump_courses.specs.Ahead.{IsAhead, DoneAhead, LeftAhead}
use Rattle.dump_courses.proofs.Stopping.{left_whole, left_more, left_behind}
use Rattle.dump_courses.proofs.Ahead.{ahead_both, standing_ahead, loads_ahead, loads_leave as loads_leave_ahead, done_ahead_both, leaves_ahead}
use Rattle.backup_session.specs.Views.{SessionView, ReplyView}
use Rattle.backup_session.specs.Worlds.{World, Turn, before_reply}
use Rattle.backup_session.specs.Turns.{said, length_with}
use Rattle.backup_session.specs.Scanning.{port_of, slots_here, scans_of, stopped_line, left_line, has_wrong_parent, Step, says, recorded, added, added_if, time_with, then_turn, with_front, with_dump, adding, dumps_turn, tapes_turn, slots_turn, scan_turn}
use Rattle.backup_session.specs.Fitting.{FitsPlant, TurnedPlant, Stepped}
use Rattle.backup_session.proofs.Room.{full_true, room_false}
use Rattle.backup_session.proofs.Settling.{settled_commit, done_ahead, ahead_behind}

-- ---- slots that are here

range_more : (a n : ℕ) → range_with_len a (suc n) ≡ range_with_len a n ++ (a + n) ∷ []
range_more a zero =
    let is : a ≡ a + 0 = omega arith in
    ap (λ (k : ℕ). k ∷ []) is
range_more a (suc n) =
    let is : a + 1 + n ≡ a + suc n = omega arith in
    ap (λ (l : List ℕ). a ∷ l) (range_more (a + 1) n ∙ ap (λ (k : ℕ). range_with_len (a + 1) n ++ k ∷ []) is)

pub here_more : (p : ℕ → Bool) (first k : ℕ) → first ≤ k → filter p (range_with_len first (k - first)) ++ filter p (k ∷ []) ≡ filter p (range_with_len first (k + 1 - first))
here_more p first k below =
    let count : k + 1 - first ≡ suc (k - first) = omega (arith, below) in
    let last : first + (k - first) ≡ k = omega (arith, below) in
    sym (ap (λ (n : ℕ). filter p (range_with_len first n)) count ∙ ap (filter p) (range_more first (k - first)) ∙ filter-append p (range_with_len first (k - first)) ((first + (k - first)) ∷ [])
    ∙ ap (λ (j : ℕ). filter p (range_with_len first (k - first)) ++ filter p (j ∷ [])) last)

-- all of them are below the number of slots
pub few_here : (p : ℕ → Bool) (m : ℕ) → ((k : ℕ) → IsTrue (p k) → k < m) → (a n : ℕ) → length (filter p (range_with_len a n)) ≤ m - a
few_here p m below a zero = omega arith
few_here p m below a (suc n) = go (p a) refl (few_here p m below (a + 1) n)
  where
    go : (b : Bool) → p a ≡ b → length (filter p (range_with_len (a + 1) n)) ≤ m - (a + 1) → length (if b then a ∷ filter p (range_with_len (a + 1) n) else filter p (range_with_len (a + 1) n)) ≤ m - a
    go true is rest = omega (arith, rest, below a is)
    go false is rest = omega (arith, rest)

pub all_here : (p : ℕ → Bool) (xs : List ℕ) → All (λ k. IsTrue (p k)) (filter p xs)
all_here p [] = All-nil (λ (k : ℕ). IsTrue (p k))
all_here p (x ∷ xs) = go (p x) refl (all_here p xs)
  where
    go : (b : Bool) → p x ≡ b → All (λ k. IsTrue (p k)) (filter p xs) → All (λ k. IsTrue (p k)) (if b then x ∷ filter p xs else filter p xs)
    go true is rest = All-cons (λ (k : ℕ). IsTrue (p k)) x (filter p xs) is rest
    go false is rest = rest

-- ---- tapes that are scanned one after the other

pub scans_more : (slots : List ℕ) (i k : ℕ) → take (i + 1) slots ≡ take i slots ++ k ∷ [] → (tape : ℕ → List Record) → scans_of tape (take i slots) ++ sections_of k (tape k) ∷ [] ≡ scans_of tape (take (i + 1) slots)
scans_more slots i k more tape = sym (ap (scans_of tape) more ∙ map-append (λ j. sections_of j (tape j)) (take i slots) (k ∷ []))

-- the scan of one tape more
pub scan_again : {D : Type 0} (P : Plant D) (old mid : D) (slots : List ℕ) (i k : ℕ) → take (i + 1) slots ≡ take i slots ++ k ∷ [] → P.tells → Loads P old mid → (tapes : List Sections) (sections : Sections)
    → tapes ≡ scans_of (state_of P old).tape (take i slots) → sections ≡ sections_of k ((state_of P mid).tape k) → tapes ++ sections ∷ [] ≡ scans_of (state_of P old).tape (take (i + 1) slots)
scan_again P old mid slots i k more told loads tapes sections tapes_are sections_are =
    (λ j. tapes_are j ++ (sections_are ∙ ap (sections_of k) (loads_keep_tape P old mid loads told k)) j ∷ []) ∙ scans_more slots i k more (state_of P old).tape

-- ---- steps

module _ {D : Type 0} (P : Plant D) (w : World) where
  pub said_stepped : (old : D) (session : SessionView) (text before after : List ℕ) → FitsPlant P w old session → P.sound old → after ≡ before ++ text → Stepped P w (said w text) old old session before after
  said_stepped old session text before after fits sound is = record { done = standing_ahead P old w.state sound (λ _. fits.state); text = is; fits = fits; settles = λ whole. whole }

  pub front_stepped : (t : Turn) (old new : D) (session : SessionView) (text before mid after : List ℕ) → mid ≡ before ++ text → Stepped P w t old new session mid after → Stepped P w (with_front text t) old new session before after
  front_stepped t old new session text before mid after is stepped = record {
    done = stepped.done;
    text = stepped.text ∙ ap (λ (l : List ℕ). l ++ t.reply) is ∙ append_assoc before text t.reply;
    fits = stepped.fits;
    settles = stepped.settles;
  }

  pub both_stepped : (s t : Turn) (old mid new : D) (one two : SessionView) (before here after : List ℕ) → Stepped P w s old mid one before here → Stepped P (before_reply w s) t mid new two here after → Stepped P w (then_turn s t) old new two before after
  both_stepped s t old mid new one two before here after first second =
      let is = sym (come_append s.effects t.effects w.state) in
      record {
        done = done_ahead_both P s.effects t.effects old mid new first.done second.done;
        text = second.text ∙ ap (λ (l : List ℕ). l ++ t.reply) first.text ∙ append_assoc before s.reply t.reply;
        fits = record {
          keeps = subst (λ (x : State). Keeps t.log x.log two.budb) is second.fits.keeps;
          time = second.fits.time;
          config = second.fits.config;
          state = subst (λ (x : State). IsAhead x (state_of P new)) is second.fits.state;
          slots = second.fits.slots;
          present = second.fits.present;
          groups = second.fits.groups;
        };
        settles = λ whole. subst IsSettled is (second.settles (first.settles whole));
      }

-- loads of tapes leave a world that fits
pub loads_fit : {D : Type 0} (P : Plant D) (w : World) (old new : D) (session : SessionView) → P.tells → FitsPlant P w old session → Loads P old new → Stays P old new → FitsPlant P w new session
loads_fit P w old new session told fits loads stays = record {
  keeps = fits.keeps;
  time = fits.time;
  config = fits.config;
  state = ahead_both w.state (state_of P old) (state_of P new) fits.state ((loads_ahead P old new w.state (λ _. fits.state) loads).state told);
  slots = stays.slots ∙ fits.slots;
  present = λ k. ap (λ (p : ℕ → Bool). p k) stays.present ∙ fits.present k;
  groups = fits.groups;
}

-- ---- one dump

module _ {D : Type 0} (P : Plant D) (w : World) (old : D) (session : SessionView) (fits : FitsPlant P w old session) (size : (P.view old).log_size ≡ length (state_of P old).log) (d : DumpRecordFields) where
  one : List Change
  one = change.Found d ∷ []

  full_step : Step
  full_step = says w true (refused_number LogFull (length_with w (change.Found d ∷ [])))

  made_step : Step
  made_step = record { turn = recorded w d; full = false }

  size_is : (P.view old).log_size ≡ length (encoded w.log)
  size_is = size ∙ ap length (fits.state.log ∙ fits.keeps.is)

  when_full : 268435456 < length_with w (change.Found d ∷ []) → added w d ≡ full_step
  unfolding full_step made_step
  when_full full = ap (λ (b : Bool). if b then full_step else made_step) (full_true 268435456 (length_with w (change.Found d ∷ [])) full)

  with_room : length_with w (change.Found d ∷ []) ≤ 268435456 → added w d ≡ made_step
  unfolding full_step made_step
  with_room room = ap (λ (b : Bool). if b then full_step else made_step) (room_false 268435456 (length_with w (change.Found d ∷ [])) room)

  -- whatever came of the commit
  pub add_leaves : (mid : D) → FitsImages P old → (268435456 < (P.view old).log_size + length (encoded (change.Found d ∷ [])) → mid ≡ old) → Leaves P (commits (encoded (change.Found d ∷ [])) ∷ []) old mid → Leaves P (added w d).turn.effects old mid
  unfolding full_step made_step
  add_leaves mid images over leaves = ⊎_elim
      (λ (full : 268435456 < length_with w (change.Found d ∷ [])). subst (λ (s : Step). Leaves P s.turn.effects old mid) (sym (when_full full))
      (subst (λ s. Leaves P [] old s) (sym (over (omega (arith, size_is, full)))) (nothing_left P [] old images)))
      (λ (room : length_with w (change.Found d ∷ []) ≤ 268435456). subst (λ (s : Step). Leaves P s.turn.effects old mid) (sym (with_room room)) leaves)
      (cases_lt 268435456 (length_with w (change.Found d ∷ [])))

  pub add_left : (changes : List Change) → changes ≡ change.Found d ∷ [] → (mid : D) → FitsImages P old → (268435456 < (P.view old).log_size + length (encoded changes) → mid ≡ old) → Leaves P (commits (encoded changes) ∷ []) old mid → Leaves P (added w d).turn.effects old mid
  add_left changes is mid images over leaves =
      add_leaves mid images (subst (λ (l : List Change). 268435456 < (P.view old).log_size + length (encoded l) → mid ≡ old) is over) (subst (λ (l : List Change). Leaves P (commits (encoded l) ∷ []) old mid) is leaves)

  -- the log had no room
  pub full_is : 268435456 < (P.view old).log_size + length (encoded (change.Found d ∷ [])) → true ≡ (added w d).full
  unfolding full_step made_step
  full_is over = sym (ap (λ (s : Step). s.full) (when_full (omega (arith, size_is, over))))

  pub full_stepped : (mid : D) (later : SessionView) (before after : List ℕ) → P.sound old → 268435456 < (P.view old).log_size + length (encoded (change.Found d ∷ [])) → mid ≡ old → later ≡ session
      → after ≡ before ++ refused_number LogFull ((P.view old).log_size + length (encoded (change.Found d ∷ []))) → Stepped P w (added w d).turn old mid later before after
  unfolding full_step made_step
  full_stepped mid later before after sound over same stays text =
      subst (λ (s : Step). Stepped P w s.turn old mid later before after) (sym (when_full (omega (arith, size_is, over))))
      (subst (λ s. Stepped P w full_step.turn old s later before after) (sym same)
      (subst (λ (v : SessionView). Stepped P w full_step.turn old old v before after) (sym stays) (record {
        done = standing_ahead P old w.state sound (λ _. fits.state);
        text = text ∙ ap (λ (n : ℕ). before ++ refused_number LogFull (n + length (encoded (change.Found d ∷ [])))) size_is;
        fits = fits;
        settles = λ whole. whole;
      })))

  -- it was added
  roomy : (268435456 < (P.view old).log_size + length (encoded (change.Found d ∷ [])) → ⊥) → length_with w (change.Found d ∷ []) ≤ 268435456
  roomy never = ⊎_elim (λ (full : 268435456 < length_with w (change.Found d ∷ [])). absurd (never (omega (arith, size_is, full)))) (λ (le : length_with w (change.Found d ∷ []) ≤ 268435456). le) (cases_lt 268435456 (length_with w (change.Found d ∷ [])))

  pub room_is : (268435456 < (P.view old).log_size + length (encoded (change.Found d ∷ [])) → ⊥) → false ≡ (added w d).full
  unfolding full_step made_step
  room_is never = sym (ap (λ (s : Step). s.full) (with_room (roomy never)))

  pub added_stepped : (mid : D) (later : SessionView) (before after : List ℕ) → P.tells → (268435456 < (P.view old).log_size + length (encoded (change.Found d ∷ [])) → ⊥) → Done P (commits (encoded (change.Found d ∷ [])) ∷ []) old mid
      → Stays P old mid → Keeps (w.log ++ change.Found d ∷ []) (state_of P mid).log later.budb → later.time ≡ time_with session.time d → later.config ≡ session.config → later.groups ≡ session.groups
      → after ≡ before ++ added_line d.id → Stepped P w (added w d).turn old mid later before after
  unfolding full_step made_step
  added_stepped mid later before after told never done stays keeps time config groups text =
      let es = commits (encoded (change.Found d ∷ [])) ∷ [] in
      let all = done_ahead P es old mid w.state fits.state done in
      let here = ahead_behind P es old mid w.state told fits.state all in
      subst (λ (s : Step). Stepped P w s.turn old mid later before after) (sym (with_room (roomy never))) (record {
        done = all;
        text = text;
        fits = record {
          keeps = subst (λ (l : List ℕ). Keeps (w.log ++ change.Found d ∷ []) l later.budb) here.log keeps;
          time = time ∙ ap (λ (t : ℕ). time_with t d) fits.time;
          config = config ∙ fits.config;
          state = here;
          slots = stays.slots ∙ fits.slots;
          present = λ k. ap (λ (p : ℕ → Bool). p k) stays.present ∙ fits.present k;
          groups = groups ∙ fits.groups;
        };
        settles = settled_commit (encoded (change.Found d ∷ [])) w.state;
      })

  -- it was added, but that couldn't be told
  pub added_stopped : (mid : D) → (268435456 < (P.view old).log_size + length (encoded (change.Found d ∷ [])) → ⊥) → Done P (commits (encoded (change.Found d ∷ [])) ∷ []) old mid → LeftAhead P (added w d).turn.effects old mid
  unfolding full_step made_step
  added_stopped mid never done =
      let es = commits (encoded (change.Found d ∷ [])) ∷ [] in
      subst (λ (s : Step). LeftAhead P s.turn.effects old mid) (sym (with_room (roomy never))) (left_whole P es old mid (done_ahead P es old mid w.state fits.state done))

-- what is done of one dump
module _ (w : World) (full : Bool) (d : DumpRecordFields) where
  pick : Bool → Bool → Bool → Step
  pick known wrong over = if known then says w full (refused_number DumpKnown d.id) else (if wrong then says w full (refused_numbers WrongParent d.id d.parent) else (if over then says w true [] else added w d))

  pub known_is : has_dump (after w.log).listed d.id ≡ true → added_if w full d ≡ says w full (refused_number DumpKnown d.id)
  unfolding pick
  known_is known = ap (λ (b : Bool). pick b (has_wrong_parent d) full) known

  pub wrong_is : has_dump (after w.log).listed d.id ≡ false → has_wrong_parent d ≡ true → added_if w full d ≡ says w full (refused_numbers WrongParent d.id d.parent)
  unfolding pick
  wrong_is known wrong = ap (λ (b : Bool). pick b (has_wrong_parent d) full) known ∙ ap (λ (b : Bool). pick false b full) wrong

  pub over_is : has_dump (after w.log).listed d.id ≡ false → has_wrong_parent d ≡ false → full ≡ true → added_if w full d ≡ says w true []
  unfolding pick
  over_is known wrong over = ap (λ (b : Bool). pick b (has_wrong_parent d) full) known ∙ ap (λ (b : Bool). pick false b full) wrong ∙ ap (pick false false) over

  pub free_is : has_dump (after w.log).listed d.id ≡ false → has_wrong_parent d ≡ false → full ≡ false → added_if w full d ≡ added w d
  unfolding pick
  free_is known wrong over = ap (λ (b : Bool). pick b (has_wrong_parent d) full) known ∙ ap (λ (b : Bool). pick false b full) wrong ∙ ap (pick false false) over

-- a dump is listed in a world as in the session that fits it
pub listed_is : {D : Type 0} (P : Plant D) (w : World) (old : D) (session : SessionView) → FitsPlant P w old session → (listed : List DumpRecordFields) (id : ℕ) (known b : Bool) → listed ≡ session.budb.database.listed → known ≡ has_dump listed id → known ≡ b → has_dump (after w.log).listed id ≡ b
listed_is P w old session fits listed id known b listed_are known_is is = sym (known_is ∙ ap (λ (l : List DumpRecordFields). has_dump l id) (listed_are ∙ ap (λ (x : Database). x.listed) fits.keeps.fold)) ∙ is

-- ---- all dumps

module _ (w : World) (dumps : List DumpRecordFields) where
  pub adding_more : (i : ℕ) (d : DumpRecordFields) → take (i + 1) dumps ≡ take i dumps ++ d ∷ [] → with_dump w (adding w (take i dumps)) d ≡ adding w (take (i + 1) dumps)
  unfolding adding
  adding_more i d more = sym (ap (fold (with_dump w) (says w false [])) more ∙ fold-append (with_dump w) (says w false []) (take i dumps) (d ∷ []))

  -- effects that are still to come
  rest_of : (s : Step) (ds : List DumpRecordFields) → (rest : List Effect) × ((fold (with_dump w) s ds).turn.effects ≡ s.turn.effects ++ rest)
  rest_of s [] = ([], sym (append-nil s.turn.effects))
  rest_of s (d ∷ ds) =
      let next = with_dump w s d in
      let r = rest_of next ds in
      let es = (added_if (before_reply w s.turn) s.full d).turn.effects in
      (es ++ r.0, r.1 ∙ append_assoc s.turn.effects es r.0)

  pub adding_rest : (n : ℕ) → (rest : List Effect) × ((adding w (take n dumps)).turn.effects ++ rest ≡ (adding w dumps).turn.effects)
  unfolding adding
  adding_rest n =
      let start = says w false [] in
      let r = rest_of (fold (with_dump w) start (take n dumps)) (drop n dumps) in
      (r.0, sym r.1 ∙ ap (λ (s : Step). s.turn.effects) (sym (fold-append (with_dump w) start (take n dumps) (drop n dumps)) ∙ ap (fold (with_dump w) start) (take-append-drop n dumps)))

pub adding_none : (w : World) → adding w [] ≡ says w false []
unfolding adding
adding_none w = refl

module _ {D : Type 0} (P : Plant D) (w : World) where
  pub start_stepped : (old : D) (session : SessionView) (lines : List ℕ) → FitsPlant P w old session → P.sound old → Stepped P w (adding w []).turn old old session lines lines
  start_stepped old session lines fits sound = subst (λ (s : Step). Stepped P w s.turn old old session lines lines) (sym (adding_none w)) (said_stepped P w old session [] lines lines fits sound (sym (append-nil lines)))

  pub start_full : false ≡ (adding w []).full
  start_full = sym (ap (λ (s : Step). s.full) (adding_none w))

  module _ (dumps : List DumpRecordFields) (i : ℕ) (d : DumpRecordFields) (more : take (i + 1) dumps ≡ take i dumps ++ d ∷ []) (full : Bool) (full_is : full ≡ (adding w (take i dumps)).full) where
    so_far : Step
    so_far = adding w (take i dumps)

    here : World
    here = before_reply w so_far.turn

    same : added_if here full d ≡ added_if here so_far.full d
    unfolding so_far
    same = ap (λ (b : Bool). added_if here b d) full_is

    pub next_stepped : (old mid new : D) (one two : SessionView) (before line front after : List ℕ) → front ≡ line ++ found_line d → Stepped P w (adding w (take i dumps)).turn old mid one before line
        → Stepped P (before_reply w (adding w (take i dumps)).turn) (added_if (before_reply w (adding w (take i dumps)).turn) full d).turn mid new two front after → Stepped P w (adding w (take (i + 1) dumps)).turn old new two before after
    unfolding so_far here
    next_stepped old mid new one two before line front after front_is first second =
        let step = subst (λ (s : Step). Stepped P here s.turn mid new two front after) same second in
        subst (λ (s : Step). Stepped P w s.turn old new two before after) (adding_more w dumps i d more)
        (both_stepped P w so_far.turn (with_front (found_line d) (added_if here so_far.full d).turn) old mid new one two before line after first
        (front_stepped P here (added_if here so_far.full d).turn mid new two (found_line d) line front after front_is step))

    pub next_full : (now : Bool) → now ≡ (added_if (before_reply w (adding w (take i dumps)).turn) full d).full → now ≡ (adding w (take (i + 1) dumps)).full
    unfolding so_far here
    next_full now is = is ∙ ap (λ (s : Step). s.full) same ∙ ap (λ (s : Step). s.full) (adding_more w dumps i d more)

    pub next_leaves : (old mid new : D) → DoneAhead P (adding w (take i dumps)).turn.effects old mid → Leaves P (adding w (take i dumps)).turn.effects old mid
        → Leaves P (added_if (before_reply w (adding w (take i dumps)).turn) full d).turn.effects mid new → Leaves P (adding w (take (i + 1) dumps)).turn.effects old new
    unfolding so_far here
    next_leaves old mid new done first second =
        let step = subst (λ (s : Step). Leaves P s.turn.effects mid new) same second in
        subst (λ (s : Step). Leaves P s.turn.effects old new) (adding_more w dumps i d more)
        (leaves_ahead P so_far.turn.effects (added_if here so_far.full d).turn.effects [] old mid new done first step)

    pub next_stopped : (old mid new : D) → DoneAhead P (adding w (take i dumps)).turn.effects old mid → LeftAhead P (added_if (before_reply w (adding w (take i dumps)).turn) full d).turn.effects mid new → LeftAhead P (adding w (take (i + 1) dumps)).turn.effects old new
    unfolding so_far here
    next_stopped old mid new done second =
        let step = subst (λ (s : Step). LeftAhead P s.turn.effects mid new) same second in
        subst (λ (s : Step). LeftAhead P s.turn.effects old new) (adding_more w dumps i d more)
        (left_behind P so_far.turn.effects (added_if here so_far.full d).turn.effects old mid new done step)

  -- the first of them alone
  pub front_leaves : (dumps : List DumpRecordFields) (n : ℕ) (old new : D) → Leaves P (adding w (take n dumps)).turn.effects old new → Leaves P (adding w dumps).turn.effects old new
  front_leaves dumps n old new leaves =
      let r = adding_rest w dumps n in
      subst (λ (es : List Effect). Leaves P es old new) r.1 (leaves_more P (adding w (take n dumps)).turn.effects r.0 old new leaves)

  pub front_stopped : (dumps : List DumpRecordFields) (n : ℕ) (old new : D) → LeftAhead P (adding w (take n dumps)).turn.effects old new → LeftAhead P (adding w dumps).turn.effects old new
  front_stopped dumps n old new left =
      let r = adding_rest w dumps n in
      subst (λ (es : List Effect). LeftAhead P es old new) r.1 (left_more P (adding w (take n dumps)).turn.effects r.0 old new left)

-- ---- the command

pub slots_cells : (w : World) (dbadd : Bool) (slots : List ℕ) → (slots_turn w dbadd slots).cells ≡ []
unfolding slots_turn
slots_cells w dbadd slots = refl

-- ---- the command as its parts

pub slots_same : (p q : ℕ → Bool) (port : PortFields) → ((k : ℕ) → p k ≡ q k) → slots_here p port ≡ slots_here q port
slots_same p q port same = ap (λ (f : ℕ → Bool). slots_here f port) (λ i k. same k i)

module _ {D : Type 0} (P : Plant D) (w : World) (old : D) (session : SessionView) (fits : FitsPlant P w old session) (dbadd : Bool) (port : PortFields) (slots : List ℕ) (slots_are : slots ≡ slots_here (P.view old).present port) where
  here_are : slots ≡ slots_here w.setting.present port
  here_are = slots_are ∙ slots_same (P.view old).present w.setting.present port fits.present

  turn_is : slots_turn w dbadd slots ≡ scan_turn w dbadd (Ok port)
  turn_is = ap (slots_turn w dbadd) here_are

  same_tapes : (state_of P old).tape ≡ w.state.tape
  same_tapes = λ i k. fits.state.tape k i

  -- an error before anything is added
  pub loads_leave : (mid : D) → LeavesLoads P old mid → Leaves P (scan_turn w dbadd (Ok port)).effects old mid
  loads_leave mid leaves = leaves_more P [] (scan_turn w dbadd (Ok port)).effects old mid (loads_leave_ahead P old mid w.state (λ _. fits.state) leaves)

  module _ (told : P.tells) (tapes : List Sections) (tapes_are : tapes ≡ scans_of (state_of P old).tape slots) (found : Found) (found_is : found ≡ found_in tapes) (mid : D) (loads : Loads P old mid) where
    scans_are : tapes ≡ scans_of w.state.tape slots
    scans_are = tapes_are ∙ ap (λ (f : ℕ → List Record). scans_of f slots) same_tapes

    parts_are : tapes_turn w dbadd tapes found ≡ scan_turn w dbadd (Ok port)
    unfolding slots_turn
    parts_are = ap (tapes_turn w dbadd tapes) found_is ∙ ap (λ (ts : List Sections). tapes_turn w dbadd ts (found_in ts)) scans_are ∙ turn_is

    pub dumps_leave : (new : D) → Leaves P (dumps_turn w dbadd found.whole).effects mid new → Leaves P (scan_turn w dbadd (Ok port)).effects old new
    dumps_leave new leaves = subst (λ (t : Turn). Leaves P t.effects old new) parts_are (leaves_ahead P [] (dumps_turn w dbadd found.whole).effects [] old mid new (loads_ahead P old mid w.state (λ _. fits.state) loads) (loads_leave_ahead P old mid w.state (λ _. fits.state) (leaves_loads P old mid loads)) leaves)

    pub dumps_stopped : (new : D) → LeftAhead P (dumps_turn w dbadd found.whole).effects mid new → LeftAhead P (scan_turn w dbadd (Ok port)).effects old new
    dumps_stopped new left = subst (λ (t : Turn). LeftAhead P t.effects old new) parts_are (left_behind P [] (dumps_turn w dbadd found.whole).effects old mid new (loads_ahead P old mid w.state (λ _. fits.state) loads) left)

    pub scan_turned : (new : D) (later : SessionView) (reply : ReplyView) (stops lines : List ℕ) → stops ≡ flat_map stopped_line tapes → Stepped P w (dumps_turn w dbadd found.whole) mid new later stops lines
        → reply.text ≡ lines ++ (flat_map left_line found.parts ++ ok_line) → TurnedPlant P w (scan_turn w dbadd (Ok port)) old new later reply
    scan_turned new later reply stops lines stops_are stepped text = subst (λ (t : Turn). TurnedPlant P w t old new later reply) parts_are (record {
      done = done_ahead_both P [] (dumps_turn w dbadd found.whole).effects old mid new (loads_ahead P old mid w.state (λ _. fits.state) loads) stepped.done;
      text = text ∙ ap (λ (l : List ℕ). l ++ (flat_map left_line found.parts ++ ok_line)) (stepped.text ∙ ap (λ (l : List ℕ). l ++ (dumps_turn w dbadd found.whole).reply) stops_are);
      fits = record {
        keeps = stepped.fits.keeps;
        time = stepped.fits.time;
        config = stepped.fits.config;
        state = stepped.fits.state;
        slots = stepped.fits.slots;
        present = stepped.fits.present;
        groups = stepped.fits.groups;
      };
      settles = stepped.settles;
    })

-- the port that a command names is that of the world
pub port_is : {D : Type 0} (P : Plant D) (w : World) (old : D) (session : SessionView) → FitsPlant P w old session → (config : Settings) (hosts : List HostPort) (offset : ℕ) (found : Result PortFields (List ℕ)) → config ≡ session.config → hosts ≡ session.budb.database.hosts
    → found ≡ port_of config hosts offset → found ≡ port_of w.setting.config (after w.log).hosts offset
port_is P w old session fits config hosts offset found config_is hosts_are is =
    is ∙ ap (λ (c : Settings). port_of c hosts offset) (config_is ∙ fits.config) ∙ ap (λ (h : List HostPort). port_of w.setting.config h offset) (hosts_are ∙ ap (λ (x : Database). x.hosts) fits.keeps.fold)

-- in an Ok
pub in_found : {A F : Type 0} (r : Result A F) (Q R : A → Type 0) → ((x : A) → Q x → R x) → IfOk r Q → IfOk r R
in_found (Ok x) Q R map is = map x is
in_found (Err e) Q R map is = tt
