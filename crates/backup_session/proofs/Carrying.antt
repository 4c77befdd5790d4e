-- How changes are made, and what a command leaves.
use Rattle.std.proofs.Common.{◌≡◌, ⊎_elim, ℕ, ◌+◌, ◌<◌, ◌≤◌, Bool, true, false, List, [], ◌∷◌, length, refl, sym, ◌∙◌, ap, subst, arith}
use Rattle.std.specs.Prelude.{nat_lt, if◌then◌else◌, min, max, Result, Ok, Err, IfOk}
use Rattle.std.proofs.lemmas.Bool.{cases_lt}
use Rattle.plant_core.specs.declared.plant.Plant.{Ghosts as Plant}
use Rattle.plant_core.specs.Effects.{commits}
use Rattle.plant_effects.specs.Runs.{state_of, Leaves}
use Rattle.plant_effects.proofs.Joining.{Fits as FitsImages, nothing_left}
use Rattle.budb_changes.specs.declared.change.Change.{Change}
use Rattle.budb_changes.specs.Bytes.{encoded}
use Rattle.budb_fold.specs.Database.{after}
use Rattle.budb_fold.specs.Checkpoints.{checkpoint}
use Rattle.cell_core.specs.declared.cell.Cell.{Ghosts as Cell}
use Rattle.cell_core.specs.declared.stored.Stored.{Stored}
use Rattle.backup_words.specs.declared.command.Command.{Command}
use Rattle.backup_words.specs.declared.command.TapeCommand.{TapeCommand}
use Rattle.backup_words.specs.declared.command.TapeCommand.TheVariants.{Labeltape, Readlabel, Scantape, Savedb, Restoredb}
use Rattle.backup_words.specs.declared.command.CellCommand.{CellCommand}
use Rattle.backup_replies.specs.declared.refusals.Refusal.TheVariants.{LogFull}
use Rattle.backup_replies.specs.Texts.{refused_number}
use Rattle.dump_courses.proofs.Ahead.{standing_ahead}
use Rattle.backup_session.specs.declared.verdict.Verdict.{Verdict}
use Rattle.backup_session.specs.declared.verdict.Verdict.TheVariants.{Refuses, Makes, Shortens, Shows}
use Rattle.backup_session.specs.Views.{SessionView, ReplyView}
use Rattle.backup_session.specs.Worlds.{World, Turn, at_moment, last_cell}
use Rattle.backup_session.specs.Cells.{CellAnswer, cell_answer, IsAnswer}
use Rattle.backup_session.specs.Turns.{said, length_with}
use Rattle.tape_frames.specs.declared.label.LabelFields.{LabelFields}
use Rattle.backup_session.specs.Labels.{label_of}
use Rattle.tape_config.specs.declared.port.PortFields.{PortFields}
use Rattle.backup_session.specs.Scanning.{port_of, scan_turn, slots_here}
use Rattle.backup_session.proofs.Room.{full_true, room_false}
use Rattle.backup_session.proofs.ScanLaws.{slots_cells}
use Rattle.backup_session.proofs.SaveTurns.{by_save, by_back}
use Rattle.backup_session.specs.Tapes.{slot_of, new_label, taken, labeled, label_turn, read_turn, tape_turn}
use Rattle.backup_session.specs.Machine.{committed, replaced, carried, on_cell, done, turn}
use Rattle.backup_session.specs.Fitting.{Stands, TurnDone, SomeTurnDone, OnTheWay, FitsPlant, TurnedPlant}

choice : World → List Change → List ℕ → Bool → Turn
choice w changes text b = if b then said w (refused_number LogFull (length_with w changes)) else committed w changes text

-- whatever came of a commit
pub made_leaves : {D : Type 0} (P : Plant D) (w : World) (changes : List Change) (text : List ℕ) (old new : D) (session : SessionView) → FitsPlant P w old session → (P.view old).log_size ≡ length (state_of P old).log → FitsImages P old
    → (268435456 < (P.view old).log_size + length (encoded changes) → new ≡ old) → Leaves P (commits (encoded changes) ∷ []) old new → Leaves P (carried w (Makes changes text)).effects old new
unfolding choice
made_leaves P w changes text old new session fits size images over leaves =
    let is : (P.view old).log_size ≡ length (encoded w.log) = size ∙ ap length (fits.state.log ∙ fits.keeps.is) in
    ⊎_elim
    (λ (full : 268435456 < length_with w changes). subst (λ (b : Bool). Leaves P (choice w changes text b).effects old new) (sym (full_true 268435456 (length_with w changes) full))
    (subst (λ s. Leaves P [] old s) (sym (over (omega (arith, is, full)))) (nothing_left P [] old images)))
    (λ (room : length_with w changes ≤ 268435456). subst (λ (b : Bool). Leaves P (choice w changes text b).effects old new) (sym (room_false 268435456 (length_with w changes) room)) leaves)
    (cases_lt 268435456 (length_with w changes))

-- ---- what a turn is

pub turn_done : (w : World) (now : ℕ) (command : Command) → turn w now command ≡ done (at_moment w now) command
unfolding turn
turn_done w now command = refl

-- a verdict leaves the cell alone
pub carried_cells : (w : World) (v : Verdict) → (carried w v).cells ≡ []
carried_cells w (Refuses text) = refl
carried_cells w (Shows text) = refl
carried_cells w (Makes changes text) = go (nat_lt 268435456 (length_with w changes))
  where
    go : (b : Bool) → (if b then said w (refused_number LogFull (length_with w changes)) else committed w changes text).cells ≡ []
    go true = refl
    go false = refl
carried_cells w Shortens = go (nat_lt 268435456 (length (encoded (checkpoint (after w.log)))))
  where
    go : (b : Bool) → (if b then said w (refused_number LogFull (length (encoded (checkpoint (after w.log))))) else replaced w (checkpoint (after w.log))).cells ≡ []
    go true = refl
    go false = refl

-- neither does a command on a label
pub tape_cells : (w : World) (command : TapeCommand) → (tape_turn w command).cells ≡ []
tape_cells w (Labeltape name pname offset slot) = go (slot_of w.setting (after w.log).hosts offset slot)
  where
    full : (b : Bool) (x y : Turn) → x.cells ≡ [] → y.cells ≡ [] → (if b then x else y).cells ≡ []
    full true x y p q = p
    full false x y p q = q

    lists : (slot : ℕ) (a : LabelFields) (changes : List Change) → (labeled w slot a changes).cells ≡ []
    lists slot a [] = refl
    lists slot a (c ∷ cs) = full (nat_lt 268435456 (length_with w (c ∷ cs))) _ _ refl refl

    go : (r : Result ℕ (List ℕ)) → (label_turn w name pname r).cells ≡ []
    go (Err text) = refl
    go (Ok k) = lists k (new_label (label_of (w.state.tape k)) name pname) (taken (after w.log).listed (label_of (w.state.tape k)))
tape_cells w (Readlabel offset slot) = go (slot_of w.setting (after w.log).hosts offset slot)
  where
    go : (r : Result ℕ (List ℕ)) → (read_turn w r).cells ≡ []
    go (Err text) = refl
    go (Ok k) = refl
tape_cells w (Scantape dbadd offset) = go (port_of w.setting.config (after w.log).hosts offset)
  where
    go : (r : Result PortFields (List ℕ)) → (scan_turn w dbadd r).cells ≡ []
    go (Err text) = refl
    go (Ok port) = slots_cells w dbadd (slots_here w.setting.present port)
tape_cells w (Savedb offset) = by_save w (λ (t : Turn). t.cells ≡ []) (λ text. refl) (λ p bytes few. refl) (port_of w.setting.config (after w.log).hosts offset)
tape_cells w (Restoredb offset) = by_back w (λ (t : Turn). t.cells ≡ []) (λ text. refl) (port_of w.setting.config (after w.log).hosts offset) (λ changes comes. refl)

-- ---- what fits

module _ {D E : Type 0} (P : Plant D) (C : Cell E) (w : World) (old : D) (site : E) (session : SessionView) (stands : Stands P C w old site session) where
  -- the same at a moment of the clock
  pub stands_at : (now : ℕ) (later : SessionView) → later.budb ≡ session.budb → later.config ≡ session.config → later.groups ≡ session.groups → later.time ≡ max session.time (min now 4294967295) → Stands P C (at_moment w now) old site later
  stands_at now later budb config groups time = record {
    keeps = record { form = stands.keeps.form; is = stands.keeps.is; fold = ap (λ b. b.database) budb ∙ stands.keeps.fold };
    time = time ∙ ap (λ (t : ℕ). max t (min now 4294967295)) stands.time;
    config = config ∙ stands.config;
    state = stands.state;
    slots = stands.slots;
    present = stands.present;
    groups = groups ∙ stands.groups;
    cell = stands.cell;
  }

  -- the same without the cell
  pub fits_plant : FitsPlant P w old session
  fits_plant = record {
    keeps = stands.keeps;
    time = stands.time;
    config = stands.config;
    state = stands.state;
    slots = stands.slots;
    present = stands.present;
    groups = stands.groups;
  }

  -- a turn that leaves the cell alone
  pub turned_by : (t : Turn) (new : D) (later : SessionView) (reply : ReplyView) → t.cells ≡ [] → TurnedPlant P w t old new later reply → TurnDone P C w t old new site later reply
  turned_by t new later reply cells turned = record {
    done = turned.done;
    text = turned.text;
    stands = record {
      keeps = turned.fits.keeps;
      time = turned.fits.time;
      config = turned.fits.config;
      state = turned.fits.state;
      slots = turned.fits.slots;
      present = turned.fits.present;
      groups = turned.fits.groups;
      cell = stands.cell ∙ sym (ap (last_cell w.cell) cells);
    };
    settles = turned.settles;
  }

  -- where the cell is then
  pub list_stays : (cells : List (List Stored)) (new : List Stored) → new ≡ C.list site → OnTheWay w.cell cells new
  list_stays cells new is = subst (λ (l : List Stored). OnTheWay w.cell cells l) (sym (is ∙ stands.cell)) (0, omega arith, refl)

  -- a turn of the cell alone
  pub turned_cell : (new : E) (reply : ReplyView) (command : CellCommand) → P.sound old → IsAnswer (cell_answer (C.list site) session.time command) reply (C.list site) (C.list new)
      → TurnDone P C w (on_cell w (cell_answer w.cell w.time command)) old old new session reply
  turned_cell new reply command sound answer =
      let same : cell_answer (C.list site) session.time command ≡ cell_answer w.cell w.time command = λ i. cell_answer (stands.cell i) (stands.time i) command in
      record {
        done = standing_ahead P old w.state sound (λ _. stands.state);
        text = answer.text ∙ ap (λ (a : CellAnswer). a.reply) same;
        stands = record {
          keeps = stands.keeps;
          time = stands.time;
          config = stands.config;
          state = stands.state;
          slots = stands.slots;
          present = stands.present;
          groups = stands.groups;
          cell = answer.list ∙ (λ i. last_cell (stands.cell i) (same i).cells);
        };
        settles = λ whole. whole;
      }

  -- the cell on the way
  pub cell_way : (new : List Stored) (command : CellCommand) → OnTheWay (C.list site) (cell_answer (C.list site) session.time command).cells new → OnTheWay w.cell (cell_answer w.cell w.time command).cells new
  cell_way new command way =
      subst (λ (l : List Stored). OnTheWay l (cell_answer l w.time command).cells new) stands.cell
      (subst (λ (t : ℕ). OnTheWay (C.list site) (cell_answer (C.list site) t command).cells new) stands.time way)

-- a turn at a moment is one of the world before it
pub turned_at : {D E : Type 0} (P : Plant D) (C : Cell E) (w : World) (now : ℕ) (t : Turn) (old new : D) (site : E) (session : SessionView) (reply : ReplyView) → TurnDone P C (at_moment w now) t old new site session reply → TurnDone P C w t old new site session reply
turned_at P C w now t old new site session reply turned = record { done = turned.done; text = turned.text; stands = turned.stands; settles = turned.settles }

-- the same of some turn
pub some_at : {D E F : Type 0} (P : Plant D) (C : Cell E) (w : World) (now : ℕ) (old new : D) (site : E) (session : SessionView) (r : Result ReplyView F) → IfOk r (λ reply. SomeTurnDone P C (at_moment w now) old new site session reply)
    → IfOk r (λ reply. SomeTurnDone P C w old new site session reply)
some_at P C w now old new site session (Ok reply) some = record { turn = some.turn; turned = turned_at P C w now some.turn old new site session reply some.turned; silent = some.silent }
some_at P C w now old new site session (Err stop) some = tt

-- in an Ok
pub in_ok : {A F : Type 0} (r : Result A F) (Q R : A → Type 0) → ((x : A) → Q x → R x) → IfOk r Q → IfOk r R
in_ok (Ok x) Q R map is = map x is
in_ok (Err e) Q R map is = tt

-- what holds at each answer
pub ok_anyway : {A F : Type 0} (r : Result A F) (X : Type 0) → X → IfOk r (λ x. X)
ok_anyway (Ok x) X holds = holds
ok_anyway (Err e) X holds = tt
