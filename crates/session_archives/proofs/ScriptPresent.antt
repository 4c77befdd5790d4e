-- The effects of a script are on tapes in slots that are here: the others stay.
use Rattle.std.proofs.Common.{◌≡◌, ℕ, Bool, true, false, IsTrue, Option, Some, None, List, [], ◌∷◌, length, refl, subst}
use Rattle.std.specs.Prelude.{nat_lt, if◌then◌else◌, Result, Ok, Err, IfOk}
use Rattle.std.specs.List.{fold}
use Rattle.plant_core.specs.Effects.{tells, come}
use Rattle.tape_config.specs.declared.port.PortFields.{PortFields}
use Rattle.tape_frames.specs.declared.label.LabelFields.{LabelFields}
use Rattle.tape_answers.specs.Assembling.{found_in}
use Rattle.budb_changes.specs.declared.records.DumpRecordFields.{DumpRecordFields}
use Rattle.budb_changes.specs.declared.change.Change.{Change}
use Rattle.budb_changes.specs.declared.change.Change.TheVariants as change
use Rattle.budb_changes.specs.Bytes.{encoded}
use Rattle.budb_fold.specs.Database.{after, has_dump}
use Rattle.budb_fold.specs.Checkpoints.{checkpoint}
use Rattle.backup_words.specs.declared.command.Command.{Command}
use Rattle.backup_words.specs.declared.command.Command.TheVariants as commands
use Rattle.backup_words.specs.declared.command.GroupCommand.{GroupCommand}
use Rattle.backup_words.specs.declared.command.GroupCommand.TheVariants.{Together, Kill, End, Jobs}
use Rattle.backup_words.specs.declared.command.TapeCommand.{TapeCommand}
use Rattle.group_commands.specs.Groups.{GroupView}
use Rattle.backup_words.specs.declared.command.TapeCommand.TheVariants.{Labeltape, Readlabel, Scantape, Savedb, Restoredb}
use Rattle.backup_session.specs.declared.verdict.Verdict.{Verdict}
use Rattle.backup_session.specs.declared.verdict.Verdict.TheVariants.{Refuses, Makes, Shortens, Shows}
use Rattle.backup_session.specs.Worlds.{Setting, World, Turn, before_reply, at_moment}
use Rattle.backup_session.specs.Turns.{length_with}
use Rattle.backup_session.specs.Verdicts.{verdict}
use Rattle.backup_session.specs.Labels.{label_of}
use Rattle.backup_session.specs.Scanning.{port_of, slots_here, scans_of, Step, says, has_wrong_parent, added, added_if, with_dump, adding, dumps_turn, slots_turn, scan_turn}
use Rattle.backup_session.specs.Tapes.{slot_of, read_turn, new_label, taken, labeled, label_turn, tape_turn}
use Rattle.backup_session.specs.Dumps.{scene_of}
use Rattle.backup_session.specs.Groups.{group_in, in_group, group_alone}
use Rattle.backup_session.specs.Machine.{carried, alone, done_in, turn}
use Rattle.backup_script.specs.declared.item.Item.{Item}
use Rattle.backup_script.specs.declared.item.Item.TheVariants.{Silent, Quit, Runs, Refused}
use Rattle.backup_script.specs.Items.{item_of}
use Rattle.backup_script.specs.Scripts.{Outcome, first_of, one_line, then_outcome, script}
use Rattle.session_archives.proofs.Labels.{slot_is_here}
use Rattle.session_archives.proofs.Present.{picked, TouchesHere, both, stays, answer_here}
use Rattle.session_archives.proofs.GroupPresent.{group_here}
use Rattle.session_archives.proofs.SavedTurns.{saved_here}
use Rattle.session_archives.proofs.ReadingBack.{back_here}

-- ---- the turns of the other commands

module _ (present : ℕ → Bool) where
  one_turn : (b : Bool) (s t : Turn) → TouchesHere present s.effects → TouchesHere present t.effects → TouchesHere present (if b then s else t).effects
  one_turn = picked (λ (t : Turn). TouchesHere present t.effects)

  one_step : (b : Bool) (s t : Step) → TouchesHere present s.turn.effects → TouchesHere present t.turn.effects → TouchesHere present (if b then s else t).turn.effects
  one_step = picked (λ (s : Step). TouchesHere present s.turn.effects)

  added_here : (w : World) (d : DumpRecordFields) → TouchesHere present (added w d).turn.effects
  added_here w d = one_step (nat_lt 268435456 (length_with w (change.Found d ∷ []))) _ _ tt tt

  one_here : (w : World) (full : Bool) (d : DumpRecordFields) → TouchesHere present (added_if w full d).turn.effects
  one_here w full d = one_step (has_dump (after w.log).listed d.id) _ _ tt (one_step (has_wrong_parent d) _ _ tt (one_step full _ _ tt (added_here w d)))

  steps_here : (w : World) (s : Step) (ds : List DumpRecordFields) → TouchesHere present s.turn.effects → TouchesHere present (fold (with_dump w) s ds).turn.effects
  steps_here w s [] so_far = so_far
  steps_here w s (d ∷ ds) so_far =
      let now = before_reply w s.turn in
      steps_here w (with_dump w s d) ds (both present s.turn.effects (added_if now s.full d).turn.effects so_far (one_here now s.full d))

  adding_here : (w : World) (ds : List DumpRecordFields) → TouchesHere present (adding w ds).turn.effects
  unfolding adding
  adding_here w ds = steps_here w (says w false []) ds tt

  dumps_here : (w : World) (dbadd : Bool) (ds : List DumpRecordFields) → TouchesHere present (dumps_turn w dbadd ds).effects
  dumps_here w true ds = adding_here w ds
  dumps_here w false ds = tt

  scanned_here : (w : World) (dbadd : Bool) (slots : List ℕ) → TouchesHere present (slots_turn w dbadd slots).effects
  unfolding slots_turn
  scanned_here w dbadd slots = dumps_here w dbadd (found_in (scans_of w.state.tape slots)).whole

  scan_here : (w : World) (dbadd : Bool) (port : Result PortFields (List ℕ)) → TouchesHere present (scan_turn w dbadd port).effects
  scan_here w dbadd (Err text) = tt
  scan_here w dbadd (Ok port) = scanned_here w dbadd (slots_here w.setting.present port)

  labeled_here : (w : World) (slot : ℕ) → IsTrue (present slot) → (a : LabelFields) (changes : List Change) → TouchesHere present (labeled w slot a changes).effects
  labeled_here w slot here a [] = (here, (here, (here, (here, tt))))
  labeled_here w slot here a (c ∷ cs) = one_turn (nat_lt 268435456 (length_with w (c ∷ cs))) _ _ tt (here, (here, (here, (here, tt))))

  label_here : (w : World) (name pname : Option (List ℕ)) (r : Result ℕ (List ℕ)) → IfOk r (λ k. IsTrue (present k)) → TouchesHere present (label_turn w name pname r).effects
  label_here w name pname (Err text) here = tt
  label_here w name pname (Ok slot) here = labeled_here w slot here (new_label (label_of (w.state.tape slot)) name pname) (taken (after w.log).listed (label_of (w.state.tape slot)))

  read_here : (w : World) (r : Result ℕ (List ℕ)) → TouchesHere present (read_turn w r).effects
  read_here w (Err text) = tt
  read_here w (Ok slot) = tt

  carried_here : (w : World) (v : Verdict) → TouchesHere present (carried w v).effects
  carried_here w (Refuses text) = tt
  carried_here w (Shows text) = tt
  carried_here w (Makes changes text) = one_turn (nat_lt 268435456 (length_with w changes)) _ _ tt tt
  carried_here w Shortens = one_turn (nat_lt 268435456 (length (encoded (checkpoint (after w.log))))) _ _ tt tt

-- ---- the commands

module _ (w : World) where
  tape_turn_here : (command : TapeCommand) → TouchesHere w.setting.present (tape_turn w command).effects
  tape_turn_here (Labeltape name pname offset slot) = label_here w.setting.present w name pname (slot_of w.setting (after w.log).hosts offset slot) (slot_is_here w.setting (after w.log).hosts offset slot)
  tape_turn_here (Readlabel offset slot) = read_here w.setting.present w (slot_of w.setting (after w.log).hosts offset slot)
  tape_turn_here (Scantape dbadd offset) = scan_here w.setting.present w dbadd (port_of w.setting.config (after w.log).hosts offset)
  tape_turn_here (Savedb offset) = saved_here w (port_of w.setting.config (after w.log).hosts offset)
  tape_turn_here (Restoredb offset) = back_here w (port_of w.setting.config (after w.log).hosts offset)

  group_alone_here : (command : GroupCommand) → TouchesHere w.setting.present (group_alone w command).effects
  group_alone_here (Together schedule) = tt
  group_alone_here (Kill job after) = tt
  group_alone_here End = tt
  group_alone_here Jobs = tt

  alone_here : (command : Command) → TouchesHere w.setting.present (alone w command).effects
  alone_here (commands.Database command) = carried_here w.setting.present w (verdict (after w.log) command)
  alone_here (commands.Tape command) = tape_turn_here command
  alone_here (commands.Cell command) = tt
  alone_here (commands.Dump command) = answer_here (scene_of w) command
  alone_here (commands.Group command) = group_alone_here command
  alone_here (commands.Restore command) = tt

  group_in_here : (g : GroupView) (command : GroupCommand) → TouchesHere w.setting.present (group_in w g command).effects
  group_in_here g (Together schedule) = tt
  group_in_here g (Kill job after) = tt
  group_in_here g End = group_here (scene_of w) g
  group_in_here g Jobs = tt

  in_here : (g : GroupView) (command : Command) → TouchesHere w.setting.present (in_group w g command).effects
  in_here g (commands.Database command) = tt
  in_here g (commands.Tape command) = tt
  in_here g (commands.Cell command) = tt
  in_here g (commands.Dump command) = tt
  in_here g (commands.Group command) = group_in_here g command
  in_here g (commands.Restore command) = tt

  done_here : (o : Option GroupView) (command : Command) → TouchesHere w.setting.present (done_in w o command).effects
  done_here None command = alone_here command
  done_here (Some g) command = in_here g command

turn_here : (w : World) (now : ℕ) (command : Command) → TouchesHere w.setting.present (turn w now command).effects
unfolding turn
turn_here w now command = done_here (at_moment w now) w.groups.open command

-- ---- scripts

line_here : (w : World) (ms : List ℕ) (item : Item) → TouchesHere w.setting.present (one_line w ms item).effects
line_here w ms Silent = tt
line_here w ms Quit = tt
line_here w ms (Refused text) = tt
line_here w ms (Runs command) = both w.setting.present (turn w (first_of ms) command).effects (tells (turn w (first_of ms) command).reply ∷ []) (turn_here w (first_of ms) command) tt

line_setting : (w : World) (ms : List ℕ) (item : Item) → (one_line w ms item).world.setting ≡ w.setting
line_setting w ms Silent = refl
line_setting w ms Quit = refl
line_setting w ms (Refused text) = refl
line_setting w ms (Runs command) = refl

lines_here : (present : ℕ → Bool) (goes : Bool) (s t : Outcome) → TouchesHere present s.effects → TouchesHere present t.effects → TouchesHere present (if goes then then_outcome s t else s).effects
lines_here present true s t first others = both present s.effects t.effects first others
lines_here present false s t first others = first

script_here : (w : World) (ms : List ℕ) (lines : List (List ℕ)) → TouchesHere w.setting.present (script w ms lines).effects
unfolding script
script_here w ms [] = tt
script_here w ms (line ∷ lines) =
    let s : Outcome = one_line w ms (item_of line) in
    let rest : TouchesHere w.setting.present (script s.world s.moments lines).effects =
    subst (λ (x : Setting). TouchesHere x.present (script s.world s.moments lines).effects) (line_setting w ms (item_of line)) (script_here s.world s.moments lines) in
    lines_here w.setting.present s.goes s (script s.world s.moments lines) (line_here w ms (item_of line)) rest

pub absent_tapes_stay : (w : World) (moments : List ℕ) (lines : List (List ℕ)) (k : ℕ) → (IsTrue (w.setting.present k) → ⊥) → let s = come (script w moments lines).effects w.state in (s.tape k ≡ w.state.tape k) × (s.settled k ≡ w.state.settled k)
absent_tapes_stay w moments lines k absent = stays w.setting.present k absent (script w moments lines).effects w.state (script_here w moments lines)
