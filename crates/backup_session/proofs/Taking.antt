-- How a tape is labeled, behind a commit where there is one.
use Rattle.std.proofs.Common.{◌≡◌, ⊎_elim, ℕ, ◌+◌, ◌<◌, ◌≤◌, Bool, List, [], ◌∷◌, ◌++◌, length, refl, sym, ◌∙◌, ap, subst, arith}
use Rattle.std.specs.Prelude.{if◌then◌else◌, Option, Some, None, Result, Ok, Err}
use Rattle.std.specs.Option.{unwrap_or}
use Rattle.std.proofs.lemmas.Bool.{cases_lt}
use Rattle.tape_config.specs.declared.port.PortFields.{PortFields}
use Rattle.tape_config.specs.Configs.{Settings, port_in}
use Rattle.plant_core.specs.declared.plant.Plant.{Ghosts as Plant}
use Rattle.plant_core.specs.Crashes.{State}
use Rattle.plant_core.specs.Effects.{commits, come}
use Rattle.plant_effects.specs.Runs.{state_of, Done, Leaves, SameNumbers, Stays}
use Rattle.plant_effects.proofs.Joining.{Fits as FitsImages, nothing_left, leaves_both, leaves_more}
use Rattle.budb_changes.specs.declared.change.Change.{Change}
use Rattle.budb_changes.specs.Bytes.{encoded}
use Rattle.budb_fold.specs.declared.database.HostPort.{HostPort}
use Rattle.budb_changes.specs.declared.records.DumpRecordFields.{DumpRecordFields}
use Rattle.budb_fold.specs.declared.database.Database.{Database}
use Rattle.budb_fold.specs.Database.{after, has_port}
use Rattle.dump_courses.specs.Ahead.{DoneAhead}
use Rattle.dump_courses.proofs.Ahead.{standing_ahead, done_ahead_both}
use Rattle.backup_session.specs.Labels.{label_of}
use Rattle.budb.specs.Kept.{Keeps}
use Rattle.tape_frames.specs.declared.label.LabelFields.{LabelFields}
use Rattle.backup_replies.specs.declared.refusals.Refusal.TheVariants.{NoSuchPort, LogFull}
use Rattle.backup_replies.specs.Texts.{refused_number}
use Rattle.backup_replies.specs.Labels.{labeled_lines}
use Rattle.backup_session.specs.Views.{SessionView, ReplyView}
use Rattle.backup_session.specs.Worlds.{World, Turn}
use Rattle.backup_session.specs.Turns.{said, length_with}
use Rattle.backup_session.specs.Tapes.{slot_in, slot_at, slot_of, putting_label, labeled, new_label, taken, label_turn}
use Rattle.backup_session.specs.Fitting.{FitsPlant, TurnedPlant}
use Rattle.backup_session.proofs.Room.{full_true, room_false}
use Rattle.backup_session.proofs.Settling.{settled_commit, settled_label, done_ahead, ahead_behind}

-- labeling leaves the log
log_stays : (slot : ℕ) (a : LabelFields) (s : State) → (come (putting_label slot a) s).log ≡ s.log
log_stays slot a s = refl

-- calls that only read
pub still_fits : {D : Type 0} (P : Plant D) (w : World) (old new : D) (session : SessionView) → P.tells → FitsPlant P w old session → Done P [] old new → SameNumbers P old new → Stays P old new → FitsPlant P w new session
still_fits P w old new session told fits done numbers stays = record {
  keeps = fits.keeps;
  time = fits.time;
  config = fits.config;
  state = ahead_behind P [] old new w.state told fits.state (done_ahead P [] old new w.state fits.state done);
  slots = stays.slots ∙ fits.slots;
  present = λ k. ap (λ (p : ℕ → Bool). p k) stays.present ∙ fits.present k;
  groups = fits.groups;
}

module _ {D : Type 0} (P : Plant D) (w : World) (old : D) (session : SessionView) (fits : FitsPlant P w old session) (size : (P.view old).log_size ≡ length (state_of P old).log) (slot : ℕ) (a : LabelFields) (c : Change) where
  full_turn : Turn
  full_turn = said w (refused_number LogFull (length_with w (c ∷ [])))

  made_turn : Turn
  made_turn = record (said w (labeled_lines a.afs a.permanent slot)) { effects = commits (encoded (c ∷ [])) ∷ putting_label slot a; log = w.log ++ c ∷ [] }

  size_is : (P.view old).log_size ≡ length (encoded w.log)
  size_is = size ∙ ap length (fits.state.log ∙ fits.keeps.is)

  when_full : 268435456 < length_with w (c ∷ []) → labeled w slot a (c ∷ []) ≡ full_turn
  unfolding full_turn made_turn
  when_full full = ap (λ (b : Bool). if b then full_turn else made_turn) (full_true 268435456 (length_with w (c ∷ [])) full)

  with_room : length_with w (c ∷ []) ≤ 268435456 → labeled w slot a (c ∷ []) ≡ made_turn
  unfolding full_turn made_turn
  with_room room = ap (λ (b : Bool). if b then full_turn else made_turn) (room_false 268435456 (length_with w (c ∷ [])) room)

  roomy : (268435456 < (P.view old).log_size + length (encoded (c ∷ [])) → ⊥) → length_with w (c ∷ []) ≤ 268435456
  roomy never = ⊎_elim (λ (full : 268435456 < length_with w (c ∷ [])). absurd (never (omega (arith, size_is, full)))) (λ (le : length_with w (c ∷ []) ≤ 268435456). le) (cases_lt 268435456 (length_with w (c ∷ [])))

  -- the commit alone
  pub commit_leaves : (mid : D) → FitsImages P old → (268435456 < (P.view old).log_size + length (encoded (c ∷ [])) → mid ≡ old) → Leaves P (commits (encoded (c ∷ [])) ∷ []) old mid → Leaves P (labeled w slot a (c ∷ [])).effects old mid
  unfolding full_turn made_turn
  commit_leaves mid images over leaves = ⊎_elim
      (λ (full : 268435456 < length_with w (c ∷ [])). subst (λ (t : Turn). Leaves P t.effects old mid) (sym (when_full full))
      (subst (λ s. Leaves P [] old s) (sym (over (omega (arith, size_is, full)))) (nothing_left P [] old images)))
      (λ (room : length_with w (c ∷ []) ≤ 268435456). subst (λ (t : Turn). Leaves P t.effects old mid) (sym (with_room room)) (leaves_more P (commits (encoded (c ∷ [])) ∷ []) (putting_label slot a) old mid leaves))
      (cases_lt 268435456 (length_with w (c ∷ [])))

  -- the log had no room
  pub full_turned : (mid : D) (later : SessionView) (reply : ReplyView) → P.sound old → 268435456 < (P.view old).log_size + length (encoded (c ∷ [])) → mid ≡ old → later ≡ session
      → reply.text ≡ refused_number LogFull ((P.view old).log_size + length (encoded (c ∷ []))) → TurnedPlant P w (labeled w slot a (c ∷ [])) old mid later reply
  unfolding full_turn made_turn
  full_turned mid later reply sound over same stays text =
      subst (λ (t : Turn). TurnedPlant P w t old mid later reply) (sym (when_full (omega (arith, size_is, over))))
      (subst (λ s. TurnedPlant P w full_turn old s later reply) (sym same)
      (subst (λ (v : SessionView). TurnedPlant P w full_turn old old v reply) (sym stays) (record {
        done = standing_ahead P old w.state sound (λ _. fits.state);
        text = text ∙ ap (λ (n : ℕ). refused_number LogFull (n + length (encoded (c ∷ [])))) size_is;
        fits = fits;
        settles = λ whole. whole;
      })))

  module _ (mid new : D) (never : 268435456 < (P.view old).log_size + length (encoded (c ∷ [])) → ⊥) (done : Done P (commits (encoded (c ∷ [])) ∷ []) old mid) where
    -- and the label
    pub both_leave : Leaves P (commits (encoded (c ∷ [])) ∷ []) old mid → Leaves P (putting_label slot a) mid new → Leaves P (labeled w slot a (c ∷ [])).effects old new
    unfolding full_turn made_turn
    both_leave first second = subst (λ (t : Turn). Leaves P t.effects old new) (sym (with_room (roomy never)))
        (leaves_both P (commits (encoded (c ∷ [])) ∷ []) (putting_label slot a) old mid new done first second)

    pub both_turned : (later : SessionView) (reply : ReplyView) → P.tells → DoneAhead P (putting_label slot a) mid new → Stays P old new
        → Keeps (w.log ++ c ∷ []) (state_of P mid).log later.budb → later.time ≡ session.time → later.config ≡ session.config → later.groups ≡ session.groups → reply.text ≡ labeled_lines a.afs a.permanent slot → TurnedPlant P w (labeled w slot a (c ∷ [])) old new later reply
    unfolding full_turn made_turn
    both_turned later reply told second stays keeps time config groups text =
        let first = done_ahead P (commits (encoded (c ∷ [])) ∷ []) old mid w.state fits.state done in
        let all = done_ahead_both P (commits (encoded (c ∷ [])) ∷ []) (putting_label slot a) old mid new first second in
        let here = ahead_behind P (commits (encoded (c ∷ [])) ∷ []) old mid w.state told fits.state first in
        let log_is : (come (commits (encoded (c ∷ [])) ∷ putting_label slot a) w.state).log ≡ (state_of P mid).log = log_stays slot a (come (commits (encoded (c ∷ [])) ∷ []) w.state) ∙ sym here.log in
        subst (λ (t : Turn). TurnedPlant P w t old new later reply) (sym (with_room (roomy never))) (record {
          done = all;
          text = text;
          fits = record {
            keeps = subst (λ (l : List ℕ). Keeps (w.log ++ c ∷ []) l later.budb) (sym log_is) keeps;
            time = time ∙ fits.time;
            config = config ∙ fits.config;
            state = ahead_behind P (commits (encoded (c ∷ [])) ∷ putting_label slot a) old new w.state told fits.state all;
            slots = stays.slots ∙ fits.slots;
            present = λ k. ap (λ (p : ℕ → Bool). p k) stays.present ∙ fits.present k;
            groups = groups ∙ fits.groups;
          };
          settles = λ whole. settled_label slot a (come (commits (encoded (c ∷ [])) ∷ []) w.state) (settled_commit (encoded (c ∷ [])) w.state whole);
        })

-- ---- where a tape is

-- only the slot itself is looked at
pub slot_same : (config : Settings) (m n : ℕ) (p q : ℕ → Bool) (hosts : List HostPort) (offset : ℕ) (slot : Option ℕ) → ((k : ℕ) → p k ≡ q k) → slot_of (record { config = config; slots = m; present = p }) hosts offset slot ≡ slot_of (record { config = config; slots = n; present = q }) hosts offset slot
slot_same config m n p q hosts offset slot same = ap (λ (r : Result ℕ (List ℕ)). if has_port hosts offset then r else Err (refused_number NoSuchPort offset)) (at_port (port_in offset config.entries))
  where
    in_port : (port : PortFields) (k : ℕ) → slot_in p port k ≡ slot_in q port k
    in_port port k = ap (λ (b : Bool). slot_in (λ j. b) port k) (same k)

    at_port : (o : Option PortFields) → slot_at p offset o slot ≡ slot_at q offset o slot
    at_port None = refl
    at_port (Some port) = in_port port (unwrap_or slot port.first)

-- ---- one after the other

pub front_turned : {D : Type 0} (P : Plant D) (w : World) (t : Turn) (old mid new : D) (session later : SessionView) (reply : ReplyView) → FitsPlant P w old session → Done P [] old mid → TurnedPlant P w t mid new later reply → TurnedPlant P w t old new later reply
front_turned P w t old mid new session later reply fits first turned = record { done = done_ahead_both P [] t.effects old mid new (done_ahead P [] old mid w.state fits.state first) turned.done; text = turned.text; fits = turned.fits; settles = turned.settles }

-- the turn of a tape whose label was read
pub labels_are : {D : Type 0} (P : Plant D) (w : World) (old : D) (session : SessionView) → FitsPlant P w old session → (slot : ℕ) (name pname : Option (List ℕ)) (label : Option LabelFields) (l : LabelFields) (listed : List DumpRecordFields) (changes : List Change)
    → label ≡ label_of ((state_of P old).tape slot) → l ≡ new_label label name pname → listed ≡ session.budb.database.listed → taken listed label ≡ changes → labeled w slot l changes ≡ label_turn w name pname (Ok slot)
labels_are P w old session fits slot name pname label l listed changes label_is l_is listed_is changes_are =
    let here : label ≡ label_of (w.state.tape slot) = label_is ∙ ap label_of (fits.state.tape slot) in
    let all : listed ≡ (after w.log).listed = listed_is ∙ ap (λ (d : Database). d.listed) fits.keeps.fold in
    (λ i. labeled w slot (l_is i) (sym changes_are i)) ∙ (λ i. labeled w slot (new_label (here i) name pname) (taken (all i) (here i)))

-- the slot that a command names is that of the world
pub slot_is : {D : Type 0} (P : Plant D) (w : World) (old : D) (session : SessionView) → FitsPlant P w old session → (config : Settings) (hosts : List HostPort) (offset : ℕ) (slot : Option ℕ) (found : Result ℕ (List ℕ)) → config ≡ session.config → hosts ≡ session.budb.database.hosts
    → found ≡ slot_of (record { config = config; slots = (P.view old).slots; present = (P.view old).present }) hosts offset slot → found ≡ slot_of w.setting (after w.log).hosts offset slot
slot_is P w old session fits config hosts offset slot found config_is hosts_are is =
    is ∙ slot_same config (P.view old).slots w.setting.slots (P.view old).present w.setting.present hosts offset slot fits.present
    ∙ ap (λ (c : Settings). slot_of (record { config = c; slots = w.setting.slots; present = w.setting.present }) hosts offset slot) (config_is ∙ fits.config)
    ∙ ap (λ (h : List HostPort). slot_of w.setting h offset slot) (hosts_are ∙ ap (λ (d : Database). d.hosts) fits.keeps.fold)

-- nothing but a reply
pub only_said : {D : Type 0} (P : Plant D) (w : World) (old : D) (session : SessionView) → FitsPlant P w old session → (reply : ReplyView) (text : List ℕ) → P.sound old → reply.text ≡ text → TurnedPlant P w (said w text) old old session reply
only_said P w old session fits reply text sound is = record { done = standing_ahead P old w.state sound (λ _. fits.state); text = is; fits = fits; settles = λ whole. whole }
