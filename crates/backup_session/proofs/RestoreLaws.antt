-- How a restore is a turn: the archive of a world stands on the plant, and by loads of tapes no more is done than that more may be settled.
use Rattle.std.proofs.Common.{◌≡◌, ℕ, Bool, List, [], ◌∷◌, length, refl, sym, ◌∙◌, ap, subst}
use Rattle.std.specs.Prelude.{slice_get, Some}
use Rattle.plant_core.specs.declared.plant.Plant.{Ghosts as Plant}
use Rattle.plant_core.specs.Crashes.{seen_in}
use Rattle.plant_core.specs.Records.{Record}
use Rattle.plant_effects.specs.Runs.{state_of, Leaves, Stays}
use Rattle.tape_text.specs.Items.{Read}
use Rattle.tape_scan.specs.Slots.{Slot}
use Rattle.tape_scan.specs.Looking.{Loads, LeavesLoads}
use Rattle.tape_answers.specs.Slots.{slots_of}
use Rattle.budb.specs.Views.{BudbView}
use Rattle.budb_fold.specs.declared.database.Database.{Database}
use Rattle.budb_fold.specs.Database.{after}
use Rattle.cell_core.specs.declared.cell.Cell.{Ghosts as Cell}
use Rattle.cell_core.specs.declared.stored.Stored.{Stored}
use Rattle.backup_words.specs.declared.command.RestoreCommand.{RestoreCommand}
use Rattle.backup_words.specs.declared.command.RestoredVolumes.{RestoredVolumes}
use Rattle.volume_sets.specs.declared.sets.VolumeSet.{VolumeSet}
use Rattle.archive_model.specs.Archives.{Archive}
use Rattle.dump_courses.proofs.Ahead.{ahead_both, loads_ahead, loads_leave}
use Rattle.restore_commands.specs.Answers.{Manner, RestoreAnswer, last_cell as last_of}
use Rattle.restore_commands.specs.Leaving.{IsArchiveOf, IsAnswer}
use Rattle.backup_session.specs.Views.{SessionView, ReplyView}
use Rattle.backup_session.specs.Worlds.{World, archive_of, last_cell}
use Rattle.backup_session.specs.Held.{HoldsArchive}
use Rattle.backup_session.specs.Restores.{manner_at, volumes_answer, restore_answer, restored, archive_turn, MayPutVolumes, MayRestore}
use Rattle.backup_session.specs.Fitting.{Stands, TurnDone, SomeTurnDone, SomeRestore, OnTheWay}

-- a cell's last list is one thing in both words
lists_same : (cell : List Stored) (cells : List (List Stored)) → last_of cell cells ≡ last_cell cell cells
lists_same cell [] = refl
lists_same cell (c ∷ cs) = lists_same c cs

module _ {D E : Type 0} (P : Plant D) (C : Cell E) (w : World) (old : D) (site : E) (session : SessionView) (stands : Stands P C w old site session) where
  -- loads leave nothing
  pub restore_leaves : (new : D) → LeavesLoads P old new → Leaves P [] old new
  restore_leaves new leaves = loads_leave P old new w.state (λ _. stands.state) leaves

  -- it was answered, whatever the archive holds: the cell was left with some list
  abbrev left_with : E → ReplyView → RestoreAnswer
  left_with there reply = record { reply = reply.text; cells = C.list there ∷ [] }

  restored_any : (new : D) (there : E) (reply : ReplyView) → P.tells → Loads P old new → Stays P old new → TurnDone P C w (restored w (left_with there reply)) old new there session reply
  restored_any new there reply told loads stays =
      let done = loads_ahead P old new w.state (λ _. stands.state) loads in
      record {
        done = done;
        text = refl;
        stands = record {
          keeps = stands.keeps;
          time = stands.time;
          config = stands.config;
          state = ahead_both w.state (state_of P old) (state_of P new) stands.state (done.state told);
          slots = stays.slots ∙ stands.slots;
          present = λ k. ap (λ (p : ℕ → Bool). p k) stays.present ∙ stands.present k;
          groups = stands.groups;
          cell = refl;
        };
        settles = λ whole. whole;
      }

  pub some_restore : (new : D) (there : E) (reply : ReplyView) → P.tells → Loads P old new → Stays P old new → SomeRestore P C w old new there session reply
  some_restore new there reply told loads stays = record { answer = left_with there reply; turned = restored_any new there reply told loads stays }

  pub restored_somehow : (new : D) (there : E) (reply : ReplyView) → P.tells → Loads P old new → Stays P old new → SomeTurnDone P C w old new there session reply
  restored_somehow new there reply told loads stays = record { turn = restored w (left_with there reply); turned = restored_any new there reply told loads stays; silent = refl }

  -- the archive of the world stands on the plant
  pub archive_stands : (budb : BudbView) → budb ≡ session.budb → HoldsArchive w → length (slots_of w.setting.slots w.setting.present w.state.tape) ≡ w.setting.slots
      → ((k : ℕ) (s : Slot) → slice_get (slots_of w.setting.slots w.setting.present w.state.tape) k ≡ Some s → s.here ≡ w.setting.present k)
      → ((k : ℕ) (s : Slot) → slice_get (slots_of w.setting.slots w.setting.present w.state.tape) k ≡ Some s → Read (w.state.tape k) s.items) → IsArchiveOf P budb.database.listed (archive_of w) old
  archive_stands budb is held count here items = record {
    stock = seen_in w.state;
    records = held.0;
    holds = held.1;
    slots = record {
      count = count ∙ sym stands.slots;
      each = λ k s at. record {
        here = here k s at ∙ sym (stands.present k);
        items = subst (λ (t : List Record). Read t s.items) (sym (stands.state.tape k)) (items k s at);
      };
    };
    lists = ap (λ (d : Database). d.listed) (sym (ap (λ (b : BudbView). b.database) is ∙ stands.keeps.fold));
  }

  -- the answer over the world's database, cell and time
  module _ (budb : BudbView) (time : ℕ) (command : RestoreCommand) (budb_is : budb ≡ session.budb) (time_is : time ≡ session.time) where
    sets_are : budb.database ≡ after w.log
    sets_are = ap (λ (b : BudbView). b.database) budb_is ∙ stands.keeps.fold

    now_is : time ≡ w.time
    now_is = time_is ∙ stands.time

    answer_same : restore_answer (archive_of w) budb.database.sets (C.list site) time command ≡ restore_answer (archive_of w) (after w.log).sets w.cell w.time command
    answer_same = λ i. restore_answer (archive_of w) (sets_are i).sets (stands.cell i) (now_is i) command

    -- it was answered
    pub restore_turned : (new : D) (there : E) (text : List ℕ) (reply : ReplyView) → P.tells → Loads P old new → Stays P old new → reply.text ≡ text
        → IsAnswer (restore_answer (archive_of w) budb.database.sets (C.list site) time command) text (C.list site) (C.list there) → TurnDone P C w (archive_turn w command) old new there session reply
    restore_turned new there text reply told loads stays is answer =
        let done = loads_ahead P old new w.state (λ _. stands.state) loads in
        let cells = (restore_answer (archive_of w) (after w.log).sets w.cell w.time command).cells in
        record {
          done = done;
          text = is ∙ answer.reply_is ∙ (λ i. (answer_same i).reply);
          stands = record {
            keeps = stands.keeps;
            time = stands.time;
            config = stands.config;
            state = ahead_both w.state (state_of P old) (state_of P new) stands.state (done.state told);
            slots = stays.slots ∙ stands.slots;
            present = λ k. ap (λ (p : ℕ → Bool). p k) stays.present ∙ stands.present k;
            groups = stands.groups;
            cell = answer.list ∙ (λ i. last_of (stands.cell i) (answer_same i).cells) ∙ lists_same w.cell cells;
          };
          settles = λ whole. whole;
        }

    -- how the cell may be left
    pub may_here : (new : List Stored) → MayRestore budb.database time command (C.list site) new → MayRestore (after w.log) w.time command w.cell new
    may_here new may =
        subst (λ (l : List Stored). MayRestore (after w.log) w.time command l new) stands.cell
        (subst (λ (n : ℕ). MayRestore (after w.log) n command (C.list site) new) now_is (subst (λ (db : Database). MayRestore db time command (C.list site) new) sets_are may))

    -- the cell on the way
    pub restore_way : (new : List Stored) → OnTheWay (C.list site) (restore_answer (archive_of w) budb.database.sets (C.list site) time command).cells new → OnTheWay w.cell (archive_turn w command).cells new
    restore_way new way =
        subst (λ (l : List Stored). OnTheWay l (restore_answer (archive_of w) (after w.log).sets w.cell w.time command).cells new) stands.cell
        (subst (λ (cs : List (List Stored)). OnTheWay (C.list site) cs new) (λ i. (answer_same i).cells) way)

-- ---- what each command's volumes are answered

module _ (a : Archive) (sets : List VolumeSet) (cell : List Stored) (time : ℕ) (command : RestoreCommand) (volumes : RestoredVolumes) (manner : Manner) where
  pub volumes_are : command.volumes ≡ volumes → manner ≡ manner_at time command → volumes_answer a sets cell manner volumes ≡ restore_answer a sets cell time command
  volumes_are is so = λ i. volumes_answer a sets cell (so i) (sym is i)

-- ---- how each command may leave the cell

module _ (db : Database) (time : ℕ) (command : RestoreCommand) (volumes : RestoredVolumes) (manner : Manner) (old new : List Stored) where
  pub may_volumes : command.volumes ≡ volumes → manner ≡ manner_at time command → MayPutVolumes db manner volumes old new → MayRestore db time command old new
  may_volumes is so may = subst (λ (v : RestoredVolumes). MayPutVolumes db (manner_at time command) v old new) (sym is) (subst (λ (m : Manner). MayPutVolumes db m volumes old new) so may)
