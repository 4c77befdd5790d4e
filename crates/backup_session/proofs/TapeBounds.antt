-- Each turn keeps what is so of a world's tapes: a scan changes none of them, a tape that is labeled has two records, a save is as long
-- as a tape has room for, and one that is read back is one commit.
use Rattle.std.proofs.Common.{◌≡◌, inl, inr, ℕ, ◌<◌, ◌≤◌, Bool, true, false, List, [], ◌∷◌, ◌++◌, length, refl, sym, ◌∙◌, ap, subst, arith, Option, Some, None}
use Rattle.std.specs.Prelude.{nat_lt, if◌then◌else◌, ◌==◌, Result, Ok, Err, IsTrue}
use Rattle.std.specs.List.{fold}
use Rattle.std.proofs.lemmas.Bool.{cases_Bool}
use Rattle.plant_core.specs.declared.plant.Plant.{Ghosts as Plant}
use Rattle.plant_core.specs.Crashes.{State}
use Rattle.plant_core.specs.Records.{Record}
use Rattle.plant_core.specs.Effects.{Effect, commits, come}
use Rattle.plant_effects.specs.Runs.{state_of}
use Rattle.plant_effects.proofs.States.{come_append}
use Rattle.cell_core.specs.declared.cell.Cell.{Ghosts as Cell}
use Rattle.tape_frames.specs.declared.label.LabelFields.{LabelFields}
use Rattle.tape_config.specs.declared.port.PortFields.{PortFields}
use Rattle.tape_answers.specs.Assembling.{found_in}
use Rattle.tape_choice.specs.Choice.{permanent_in}
use Rattle.budb_save.specs.declared.choosing.Picked.{Picked}
use Rattle.budb_save.specs.Saves.{save_label}
use Rattle.budb_changes.specs.declared.records.DumpRecordFields.{DumpRecordFields}
use Rattle.budb_changes.specs.declared.change.Change.{Change}
use Rattle.budb_changes.specs.declared.change.Change.TheVariants as change
use Rattle.budb_changes.specs.Bytes.{encoded}
use Rattle.budb_fold.specs.Database.{after, has_dump}
use Rattle.budb_fold.specs.Checkpoints.{checkpoint}
use Rattle.backup_words.specs.declared.command.Command.{Command}
use Rattle.backup_words.specs.declared.command.Command.TheVariants as commands
use Rattle.backup_words.specs.declared.command.GroupCommand.{GroupCommand}
use Rattle.backup_words.specs.declared.command.GroupCommand.TheVariants as groups
use Rattle.backup_words.specs.declared.command.TapeCommand.{TapeCommand}
use Rattle.backup_words.specs.declared.command.TapeCommand.TheVariants.{Labeltape, Readlabel, Scantape, Savedb, Restoredb}
use Rattle.backup_words.specs.declared.command.DumpCommand.{DumpCommand}
use Rattle.backup_session.specs.declared.verdict.Verdict.{Verdict}
use Rattle.backup_session.specs.declared.verdict.Verdict.TheVariants.{Refuses, Makes, Shortens, Shows}
use Rattle.backup_session.specs.Worlds.{World, Turn, before_reply, with_told, after_turn, at_moment}
use Rattle.backup_session.specs.Turns.{length_with}
use Rattle.backup_session.specs.Verdicts.{verdict}
use Rattle.backup_session.specs.Labels.{label_of}
use Rattle.backup_session.specs.Scanning.{port_of, slots_here, scans_of, Step, says, has_wrong_parent, added, added_if, with_dump, adding, dumps_turn, slots_turn, scan_turn}
use Rattle.backup_session.specs.Saves.{saved_in_slot, saved_turn, back_turn}
use Rattle.backup_session.specs.Tapes.{slot_of, read_turn, new_label, taken, putting_label, labeled, label_turn, tape_turn}
use Rattle.group_commands.specs.Groups.{GroupView}
use Rattle.group_commands.specs.Answers.{group_answer}
use Rattle.backup_session.specs.Dumps.{scene_of, dump_turn}
use Rattle.backup_session.specs.Groups.{ended_turn, group_in, in_group, group_alone}
use Rattle.backup_session.specs.Machine.{carried, alone, done_in, turn}
use Rattle.backup_session.specs.Bounded.{HasTapes}
use Rattle.backup_session.specs.Views.{SessionView}
use Rattle.backup_session.specs.Fitting.{Stands}
use Rattle.backup_session.proofs.SaveTurns.{save_short, by_save, by_back}

-- ---- effects that change no tape

abbrev LeavesTapes : List Effect → Type 0
LeavesTapes es = (s : State) (k : ℕ) → (come es s).tape k ≡ s.tape k

nothing_done : LeavesTapes []
nothing_done s k = refl

a_commit : (bytes : List ℕ) → LeavesTapes (commits bytes ∷ [])
a_commit bytes s k = refl

both : (es fs : List Effect) → LeavesTapes es → LeavesTapes fs → LeavesTapes (es ++ fs)
both es fs first second s k = ap (λ (x : State). x.tape k) (come_append es fs s) ∙ second (come es s) k ∙ first s k

picked_step : (b : Bool) (s t : Step) → LeavesTapes s.turn.effects → LeavesTapes t.turn.effects → LeavesTapes (if b then s else t).turn.effects
picked_step true s t is_s is_t = is_s
picked_step false s t is_s is_t = is_t

added_leaves : (w : World) (d : DumpRecordFields) → LeavesTapes (added w d).turn.effects
added_leaves w d = picked_step (nat_lt 268435456 (length_with w (change.Found d ∷ []))) _ _ nothing_done (a_commit (encoded (change.Found d ∷ [])))

one_leaves : (w : World) (full : Bool) (d : DumpRecordFields) → LeavesTapes (added_if w full d).turn.effects
one_leaves w full d = picked_step (has_dump (after w.log).listed d.id) _ _ nothing_done (picked_step (has_wrong_parent d) _ _ nothing_done (picked_step full _ _ nothing_done (added_leaves w d)))

steps_leave : (w : World) (s : Step) (ds : List DumpRecordFields) → LeavesTapes s.turn.effects → LeavesTapes (fold (with_dump w) s ds).turn.effects
steps_leave w s [] so_far = so_far
steps_leave w s (d ∷ ds) so_far =
    let here = before_reply w s.turn in
    steps_leave w (with_dump w s d) ds (both s.turn.effects (added_if here s.full d).turn.effects so_far (one_leaves here s.full d))

adding_leaves : (w : World) (ds : List DumpRecordFields) → LeavesTapes (adding w ds).turn.effects
unfolding adding
adding_leaves w ds = steps_leave w (says w false []) ds nothing_done

dumps_leave : (w : World) (dbadd : Bool) (ds : List DumpRecordFields) → LeavesTapes (dumps_turn w dbadd ds).effects
dumps_leave w true ds = adding_leaves w ds
dumps_leave w false ds = nothing_done

slots_leave : (w : World) (dbadd : Bool) (slots : List ℕ) → LeavesTapes (slots_turn w dbadd slots).effects
unfolding slots_turn
slots_leave w dbadd slots = dumps_leave w dbadd (found_in (scans_of w.state.tape slots)).whole

pub scan_leaves : (w : World) (dbadd : Bool) (port : Result PortFields (List ℕ)) → LeavesTapes (scan_turn w dbadd port).effects
scan_leaves w dbadd (Err text) = nothing_done
scan_leaves w dbadd (Ok port) = slots_leave w dbadd (slots_here w.setting.present port)

-- ---- tapes with few records

abbrev pub AreShort : (ℕ → List Record) → Type 0
AreShort tape = (k : ℕ) → length (tape k) ≤ 4294967295

still_short : (es : List Effect) (s : State) → LeavesTapes es → AreShort s.tape → AreShort (come es s).tape
still_short es s same short k = subst (λ (l : List Record). length l ≤ 4294967295) (sym (same s k)) (short k)

label_short : (slot : ℕ) (a : LabelFields) (s : State) → AreShort s.tape → AreShort (come (putting_label slot a) s).tape
label_short slot a s short k = elim (cases_Bool (k == slot)) [
  | inl hit ↦ rw hit (omega arith)
  | inr miss ↦ rw miss (short k)
]

module _ (w : World) (short : AreShort w.state.tape) where
  abbrev Stays : Turn → Type 0
  Stays t = AreShort (come t.effects w.state).tape

  picked : (b : Bool) (s t : Turn) → Stays s → Stays t → Stays (if b then s else t)
  picked true s t is_s is_t = is_s
  picked false s t is_s is_t = is_t

  labeled_stays : (slot : ℕ) (a : LabelFields) (changes : List Change) → Stays (labeled w slot a changes)
  labeled_stays slot a [] = label_short slot a w.state short
  labeled_stays slot a (change ∷ changes) =
      picked (nat_lt 268435456 (length_with w (change ∷ changes))) _ _ short (label_short slot a (come (commits (encoded (change ∷ changes)) ∷ []) w.state) short)

  label_stays : (name pname : Option (List ℕ)) (r : Result ℕ (List ℕ)) → Stays (label_turn w name pname r)
  label_stays name pname (Err text) = short
  label_stays name pname (Ok slot) = labeled_stays slot (new_label (label_of (w.state.tape slot)) name pname) (taken (after w.log).listed (label_of (w.state.tape slot)))

  read_stays : (r : Result ℕ (List ℕ)) → Stays (read_turn w r)
  read_stays (Err text) = short
  read_stays (Ok slot) = short

  put_stays : (p : Picked) (bytes : List ℕ) → length bytes ≤ 4000000000 → Stays (saved_in_slot w p bytes)
  put_stays p bytes few = save_short p.slot (save_label (permanent_in p.label)) bytes w.state few short

  saved_stays : (port : Result PortFields (List ℕ)) → Stays (saved_turn w port)
  saved_stays port = by_save w Stays (λ text. short) put_stays port

  back_stays : (port : Result PortFields (List ℕ)) → Stays (back_turn w port)
  back_stays port = by_back w Stays (λ text. short) port (λ changes comes. short)

  tape_stays : (command : TapeCommand) → Stays (tape_turn w command)
  tape_stays (Labeltape name pname offset slot) = label_stays name pname (slot_of w.setting (after w.log).hosts offset slot)
  tape_stays (Readlabel offset slot) = read_stays (slot_of w.setting (after w.log).hosts offset slot)
  tape_stays (Scantape dbadd offset) =
      let port = port_of w.setting.config (after w.log).hosts offset in
      still_short (scan_turn w dbadd port).effects w.state (scan_leaves w dbadd port) short
  tape_stays (Savedb offset) = saved_stays (port_of w.setting.config (after w.log).hosts offset)
  tape_stays (Restoredb offset) = back_stays (port_of w.setting.config (after w.log).hosts offset)

  carried_stays : (v : Verdict) → Stays (carried w v)
  carried_stays (Refuses text) = short
  carried_stays (Shows text) = short
  carried_stays (Makes changes text) = picked (nat_lt 268435456 (length_with w changes)) _ _ short short
  carried_stays Shortens = picked (nat_lt 268435456 (length (encoded (checkpoint (after w.log))))) _ _ short short

  group_alone_stays : (command : GroupCommand) → Stays (group_alone w command)
  group_alone_stays (groups.Together schedule) = short
  group_alone_stays (groups.Kill job after) = short
  group_alone_stays groups.End = short
  group_alone_stays groups.Jobs = short

  alone_stays : (command : Command) → ((dump : DumpCommand) → command ≡ commands.Dump dump → Stays (dump_turn w dump)) → Stays (alone w command)
  alone_stays (commands.Database command) dumps = carried_stays (verdict (after w.log) command)
  alone_stays (commands.Tape command) dumps = tape_stays command
  alone_stays (commands.Cell command) dumps = short
  alone_stays (commands.Dump command) dumps = dumps command refl
  alone_stays (commands.Group command) dumps = group_alone_stays command
  alone_stays (commands.Restore command) dumps = short

  group_in_stays : (g : GroupView) (command : GroupCommand) → (command ≡ groups.End → Stays (ended_turn w (group_answer (scene_of w) g))) → Stays (group_in w g command)
  group_in_stays g (groups.Together schedule) ends = short
  group_in_stays g (groups.Kill job after) ends = short
  group_in_stays g groups.End ends = ends refl
  group_in_stays g groups.Jobs ends = short

  in_group_stays : (g : GroupView) (command : Command) → (command ≡ commands.Group groups.End → Stays (ended_turn w (group_answer (scene_of w) g))) → Stays (in_group w g command)
  in_group_stays g (commands.Database command) ends = short
  in_group_stays g (commands.Tape command) ends = short
  in_group_stays g (commands.Cell command) ends = short
  in_group_stays g (commands.Dump command) ends = short
  in_group_stays g (commands.Group command) ends = group_in_stays g command (λ is. ends (ap (λ (c : GroupCommand). commands.Group c) is))
  in_group_stays g (commands.Restore command) ends = short

  in_stays : (opened : Option GroupView) (command : Command) → ((dump : DumpCommand) → command ≡ commands.Dump dump → Stays (dump_turn w dump))
      → ((g : GroupView) → opened ≡ Some g → command ≡ commands.Group groups.End → Stays (ended_turn w (group_answer (scene_of w) g))) → Stays (done_in w opened command)
  in_stays None command dumps ends = alone_stays command dumps
  in_stays (Some g) command dumps ends = in_group_stays g command (ends g refl)

-- what is asked of a dump, which only one that dumps is
abbrev pub DumpStaysShort : World → ℕ → Command → Type 0
DumpStaysShort w now command = (dump : DumpCommand) → command ≡ commands.Dump dump → AreShort (come (dump_turn (at_moment w now) dump).effects w.state).tape

-- what is asked of the end of a group, which only one that is open has
abbrev pub EndStaysShort : World → ℕ → Command → Type 0
EndStaysShort w now command = (g : GroupView) → w.groups.open ≡ Some g → command ≡ commands.Group groups.End → AreShort (come (group_answer (scene_of (at_moment w now)) g).answer.effects w.state).tape

turn_short : (w : World) (now : ℕ) (command : Command) → AreShort w.state.tape → DumpStaysShort w now command → EndStaysShort w now command → AreShort (come (turn w now command).effects w.state).tape
unfolding turn
turn_short w now command short dumps ends = in_stays (at_moment w now) short w.groups.open command dumps ends

-- ---- worlds

-- behind a turn, and its reply told, where a dump and the end of a group keep them
pub turn_has_tapes : (w : World) (now : ℕ) (command : Command) → HasTapes w → DumpStaysShort w now command → EndStaysShort w now command → HasTapes (after_turn w (turn w now command))
turn_has_tapes w now command has dumps ends = record { slots = has.slots; records = turn_short w now command has.records dumps ends }

pub told_has_tapes : (w : World) (text : List ℕ) → HasTapes w → HasTapes (with_told w text)
told_has_tapes w text has = record { slots = has.slots; records = has.records }

-- a world that stands on a plant has slots and tapes as each plant has them
pub stands_tapes : {D E : Type 0} (P : Plant D) (C : Cell E) (w : World) (plant : D) (site : E) (session : SessionView) → Stands P C w plant site session
    → (P.view plant).slots ≤ 65535 → ((k : ℕ) → IsTrue ((P.view plant).present k) → k < (P.view plant).slots) → ((k : ℕ) → length ((state_of P plant).tape k) ≤ 4294967295)
    → HasTapes w × ((k : ℕ) → IsTrue (w.setting.present k) → k < w.setting.slots)
stands_tapes P C w plant site session stands few below short =
    let here : (k : ℕ) → IsTrue (w.setting.present k) → k < (P.view plant).slots = λ k is. below k (subst (λ (b : Bool). IsTrue b) (sym (stands.present k)) is) in (
      record { slots = λ k is. omega (arith, here k is, few); records = λ k. subst (λ (l : List Record). length l ≤ 4294967295) (stands.state.tape k) (short k) },
      λ k is. omega (arith, here k is, stands.slots),
    )
