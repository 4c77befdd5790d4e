-- The journal of a turn, and the forms of the world behind it.
use Rattle.std.proofs.Common.{◌≡◌, ℕ, Bool, true, false, List, [], ◌∷◌, ◌++◌, length, map, refl, ap, subst, arith}
use Rattle.std.specs.Prelude.{◌↔◌, nat_lt, if◌then◌else◌, IsTrue, Option, Some, None, Result, Ok, Err}
use Rattle.bk_text.specs.Alphabets.{IsName}
use Rattle.bk_text.specs.Tests.{name_test}
use Rattle.plant_core.specs.Records.{mark}
use Rattle.plant_core.specs.Effects.{puts, settles, come}
use Rattle.tape_config.specs.declared.port.PortFields.{PortFields}
use Rattle.tape_frames.specs.declared.label.LabelFields.{LabelFields}
use Rattle.budb_changes.specs.declared.change.Change.{Change}
use Rattle.budb_changes.specs.Bytes.{encoded}
use Rattle.budb_changes.specs.Forms.{AreChanges}
use Rattle.budb_fold.specs.Database.{after}
use Rattle.budb_fold.specs.Checkpoints.{checkpoint}
use Rattle.budb.proofs.FoldForms.{forms_after, checkpoint_form}
use Rattle.budb_save.specs.Saves.{pieces_of}
use Rattle.budb_save.specs.Writing.{putting_piece}
use Rattle.budb_save.proofs.ReadLaws.{saves_whole}
use Rattle.backup_words.specs.declared.command.Command.{Command}
use Rattle.backup_words.specs.declared.command.Command.TheVariants.{Database, Tape, Cell, Dump, Group, Restore}
use Rattle.backup_words.specs.declared.command.DatabaseCommand.{DatabaseCommand}
use Rattle.backup_words.specs.declared.command.TapeCommand.{TapeCommand}
use Rattle.backup_words.specs.declared.command.TapeCommand.TheVariants.{Labeltape, Readlabel, Scantape, Savedb, Restoredb}
use Rattle.backup_words.specs.declared.command.DumpCommand.{DumpCommand}
use Rattle.backup_words.specs.declared.command.GroupCommand.{GroupCommand}
use Rattle.backup_words.specs.declared.command.GroupCommand.TheVariants.{Together, Kill, End, Jobs}
use Rattle.backup_session.specs.Asks.{asks_dump}
use Rattle.backup_session.specs.declared.verdict.Verdict.{Verdict}
use Rattle.backup_session.specs.declared.verdict.Verdict.TheVariants.{Refuses, Makes, Shortens, Shows}
use Rattle.backup_session.specs.Worlds.{World, Turn, at_moment, after_turn, with_told}
use Rattle.backup_session.specs.Turns.{length_with}
use Rattle.backup_session.specs.Verdicts.{verdict}
use Rattle.backup_session.specs.Bounded.{HasTapes}
use Rattle.backup_session.specs.Labels.{label_of}
use Rattle.backup_session.specs.Scanning.{port_of, slots_here, scan_turn}
use Rattle.backup_session.specs.Saves.{saved_turn, back_turn}
use Rattle.backup_session.specs.Tapes.{slot_of, new_label, taken, labeled, label_turn, read_turn, tape_turn}
use Rattle.backup_session.specs.Dumps.{scene_of, dump_turn}
use Rattle.backup_session.specs.Groups.{ended_turn, group_in, in_group, group_alone}
use Rattle.backup_session.specs.Machine.{carried, alone, done_in, done, turn}
use Rattle.backup_session.proofs.SaveTurns.{by_save, by_back}
use Rattle.backup_session.proofs.TapeBounds.{turn_has_tapes, told_has_tapes}
use Rattle.command_forms.specs.Forms.{DatabaseForms, HasForms}
use Rattle.dump_forms.specs.Journals.{IsJournalAfter}
use Rattle.dump_commands.specs.Forms.{AreShort}
use Rattle.dump_commands.proofs.FormLaws.{answer_journaled}
use Rattle.dump_commands.proofs.OrderForms.{order_form}
use Rattle.dump_commands.proofs.ShortTapes.{answer_short}
use Rattle.script_journals.proofs.Following.{own_bytes, journal_form}
use Rattle.backup_session.proofs.FoundForms.{found_forms}
use Rattle.group_commands.specs.Groups.{GroupView}
use Rattle.group_commands.specs.Answers.{group_answer}
use Rattle.group_laws.specs.Forms.{IsGroupForm}
use Rattle.script_journals.specs.Worlds.{HasGroupForm, IsWorldForm}
use Rattle.script_journals.proofs.CellForms.{last_form}
use Rattle.script_journals.proofs.Groups.{turn_group}
use Rattle.script_journals.proofs.TurnForms.{EndForms, LeavesForms, scene_form, done_forms}
use Rattle.script_journals.proofs.Scans.{slots_follow}
use Rattle.script_journals.proofs.Verdicts.{HasBytes, verdict_form, initial_form, taken_form}

-- a save commits nothing
pieces_follow : (log : List Change) (k : ℕ) (ps : List (List ℕ)) → IsJournalAfter log (map (putting_piece k) ps ++ (puts k mark ∷ settles k ∷ [])) log
pieces_follow log k [] = refl
pieces_follow log k (p ∷ ps) = pieces_follow log k ps

module _ (w : World) (has : HasTapes w) (log : AreChanges w.log) where
  abbrev Follows : Turn → Type 0
  Follows t = IsJournalAfter w.log t.effects t.log

  picked : (b : Bool) (s t : Turn) → Follows s → Follows t → Follows (if b then s else t)
  picked true s t is_s is_t = is_s
  picked false s t is_s is_t = is_t

  carried_follows : (v : Verdict) → HasBytes v → Follows (carried w v)
  carried_follows (Refuses text) form = refl
  carried_follows (Shows text) form = refl
  carried_follows (Makes changes text) form = picked (nat_lt 268435456 (length_with w changes)) _ _ refl (changes, own_bytes changes form, refl)
  carried_follows Shortens form =
      let short = checkpoint (after w.log) in
      picked (nat_lt 268435456 (length (encoded short))) _ _ refl (short, own_bytes short (checkpoint_form (after w.log) (forms_after w.log log)), refl)

  labeled_follows : (slot : ℕ) (a : LabelFields) (changes : List Change) → AreChanges changes → Follows (labeled w slot a changes)
  labeled_follows slot a [] form = refl
  labeled_follows slot a (change ∷ changes) form =
      picked (nat_lt 268435456 (length_with w (change ∷ changes))) _ _ refl (change ∷ changes, own_bytes (change ∷ changes) form, refl)

  label_follows : (name pname : Option (List ℕ)) (r : Result ℕ (List ℕ)) → Follows (label_turn w name pname r)
  label_follows name pname (Err text) = refl
  label_follows name pname (Ok slot) =
      labeled_follows slot (new_label (label_of (w.state.tape slot)) name pname) (taken (after w.log).listed (label_of (w.state.tape slot))) (taken_form (after w.log).listed (label_of (w.state.tape slot)) (initial_form (w.state.tape slot)))

  read_follows : (r : Result ℕ (List ℕ)) → Follows (read_turn w r)
  read_follows (Err text) = refl
  read_follows (Ok slot) = refl

  scan_follows : (dbadd : Bool) (port : Result PortFields (List ℕ)) → Follows (scan_turn w dbadd port)
  scan_follows dbadd (Err text) = refl
  scan_follows dbadd (Ok port) = slots_follow w dbadd (slots_here w.setting.present port) (found_forms w has port)

  save_follows : (port : Result PortFields (List ℕ)) → Follows (saved_turn w port)
  save_follows port = by_save w Follows (λ text. refl) (λ p bytes few. pieces_follow w.log p.slot (pieces_of bytes)) port

  -- what is read back is of changes
  back_follows : (port : Result PortFields (List ℕ)) → Follows (back_turn w port)
  back_follows port = by_back w Follows (λ text. refl) port (λ changes comes. (changes, own_bytes changes (saves_whole (w.state.tape comes.pick.slot) changes comes.read).form, refl))

  pub tape_follows : (command : TapeCommand) → Follows (tape_turn w command)
  tape_follows (Labeltape name pname offset slot) = label_follows name pname (slot_of w.setting (after w.log).hosts offset slot)
  tape_follows (Readlabel offset slot) = read_follows (slot_of w.setting (after w.log).hosts offset slot)
  tape_follows (Scantape dbadd offset) = scan_follows dbadd (port_of w.setting.config (after w.log).hosts offset)
  tape_follows (Savedb offset) = save_follows (port_of w.setting.config (after w.log).hosts offset)
  tape_follows (Restoredb offset) = back_follows (port_of w.setting.config (after w.log).hosts offset)

  pub database_follows : (command : DatabaseCommand) → DatabaseForms command → Follows (carried w (verdict (after w.log) command))
  database_follows command form = carried_follows (verdict (after w.log) command) (verdict_form (after w.log) (forms_after w.log log).listed command form)

-- what a dump commits has bytes
pub dump_follows : (w : World) → IsWorldForm w → (command : DumpCommand) → HasForms (Dump command) → IsJournalAfter w.log (dump_turn w command).effects (dump_turn w command).log
dump_follows w world command form =
    let scene = scene_form w world in
    answer_journaled (scene_of w) command scene.log scene.cell (λ port is. order_form (scene_of w) command port scene (record { set = form.0; level = form.1 }) is)

-- so has what the end of a group commits
end_follows : EndForms → (w : World) → IsWorldForm w → (g : GroupView) → IsGroupForm g → let t = ended_turn w (group_answer (scene_of w) g) in IsJournalAfter w.log t.effects t.log
end_follows ends w world g group = ends.bytes (scene_of w) g (scene_form w world) group.commands

-- where a command dumps the world has its forms
abbrev pub FormedForCommand : World → Command → Type 0
FormedForCommand w command = asks_dump command ≡ true → IsWorldForm w

module _ (ends : EndForms) (w : World) (has : HasTapes w) (log : AreChanges w.log) where
  group_alone_follows : (command : GroupCommand) → Follows w has log (group_alone w command)
  group_alone_follows (Together schedule) = refl
  group_alone_follows (Kill job after) = refl
  group_alone_follows End = refl
  group_alone_follows Jobs = refl

  alone_follows : (command : Command) → HasForms command → FormedForCommand w command → Follows w has log (alone w command)
  alone_follows (Database command) form formed = database_follows w has log command form
  alone_follows (Tape command) form formed = tape_follows w has log command
  alone_follows (Cell command) form formed = refl
  alone_follows (Dump command) form formed = dump_follows w (formed refl) command form
  alone_follows (Group command) form formed = group_alone_follows command
  alone_follows (Restore command) form formed = refl

  group_in_follows : (g : GroupView) (command : GroupCommand) → FormedForCommand w (Group command) → (asks_dump (Group command) ≡ true → IsGroupForm g) → Follows w has log (group_in w g command)
  group_in_follows g (Together schedule) formed group = refl
  group_in_follows g (Kill job after) formed group = refl
  group_in_follows g End formed group = end_follows ends w (formed refl) g (group refl)
  group_in_follows g Jobs formed group = refl

  in_follows : (g : GroupView) (command : Command) → FormedForCommand w command → (asks_dump command ≡ true → IsGroupForm g) → Follows w has log (in_group w g command)
  in_follows g (Database command) formed group = refl
  in_follows g (Tape command) formed group = refl
  in_follows g (Cell command) formed group = refl
  in_follows g (Dump command) formed group = refl
  in_follows g (Group command) formed group = group_in_follows g command formed group
  in_follows g (Restore command) formed group = refl

  by_group : (o : Option GroupView) (command : Command) → HasForms command → FormedForCommand w command → (asks_dump command ≡ true → HasGroupForm o) → Follows w has log (done_in w o command)
  by_group None command form formed group = alone_follows command form formed
  by_group (Some g) command form formed group = in_follows g command formed group

  done_follows : (command : Command) → HasForms command → FormedForCommand w command → Follows w has log (done w command)
  done_follows command form formed = by_group w.groups.open command form formed (λ asks. (formed asks).group)

-- the same world at a moment of the clock
pub form_at : (w : World) (now : ℕ) → IsWorldForm w → IsWorldForm (at_moment w now)
form_at w now form = record {
  tapes = record { slots = form.tapes.slots; records = form.tapes.records };
  log = form.log;
  cell = form.cell;
  contents = form.contents;
  time = omega (arith, form.time);
  name = form.name;
  ports = form.ports;
  group = form.group;
}

has_at : (w : World) (now : ℕ) → HasTapes w → HasTapes (at_moment w now)
has_at w now has = record { slots = has.slots; records = has.records }

pub turn_follows : EndForms → (w : World) (now : ℕ) → HasTapes w → AreChanges w.log → (command : Command) → HasForms command → FormedForCommand w command → IsJournalAfter w.log (turn w now command).effects (turn w now command).log
unfolding turn
turn_follows ends w now has log command form formed = done_follows ends (at_moment w now) (has_at w now has) log command form (λ asks. form_at w now (formed asks))

-- ---- the world behind it

dump_short : (w : World) → IsWorldForm w → (command : DumpCommand) → HasForms (Dump command) → AreShort (come (dump_turn w command).effects w.state).tape
dump_short w world command form =
    let scene = scene_form w world in
    answer_short (scene_of w) scene.log scene.cell world.tapes.records command (λ port is. order_form (scene_of w) command port scene (record { set = form.0; level = form.1 }) is)

end_short : EndForms → (w : World) → IsWorldForm w → (g : GroupView) → IsGroupForm g → AreShort (come (group_answer (scene_of w) g).answer.effects w.state).tape
end_short ends w world g group = ends.tapes (scene_of w) g (scene_form w world) group.commands group.group.few world.tapes.records

-- where a command dumps the world has its forms; then its tapes stay as long as a plant's are
pub turn_tapes : EndForms → (w : World) (now : ℕ) → HasTapes w → (command : Command) → HasForms command → FormedForCommand w command → HasTapes (after_turn w (turn w now command))
turn_tapes ends w now has command form formed =
    turn_has_tapes w now command has
    (λ dump is. dump_short (at_moment w now) (form_at w now (formed (ap asks_dump is))) dump (subst HasForms is form))
    (λ g opened is. (let world : IsWorldForm w = formed (ap asks_dump is) in end_short ends (at_moment w now) (form_at w now world) g (subst HasGroupForm opened world.group)))

turn_leaves : EndForms → (tests : (text : List ℕ) → IsTrue (name_test text) ↔ IsName text) (w : World) (now : ℕ) (command : Command) → IsWorldForm w → HasForms command → LeavesForms (turn w now command)
unfolding turn
turn_leaves ends tests w now command world form = done_forms ends tests (at_moment w now) (form_at w now world) command form

pub turn_form : EndForms → (tests : (text : List ℕ) → IsTrue (name_test text) ↔ IsName text) (w : World) (now : ℕ) (command : Command) → IsWorldForm w → HasForms command → IsWorldForm (after_turn w (turn w now command))
turn_form ends tests w now command world form =
    let t : Turn = turn w now command in
    let leaves : LeavesForms t = turn_leaves ends tests w now command world form in
    record {
      tapes = turn_tapes ends w now world.tapes command form (λ asks. world);
      log = journal_form t.effects w.log t.log world.log (turn_follows ends w now world.tapes world.log command form (λ asks. world));
      cell = last_form w.cell t.cells world.cell leaves.cells;
      contents = leaves.contents;
      time = leaves.time;
      name = world.name;
      ports = world.ports;
      group = turn_group w now command form world.group;
    }

pub told_form : (w : World) (text : List ℕ) → IsWorldForm w → IsWorldForm (with_told w text)
told_form w text world = record {
  tapes = told_has_tapes w text world.tapes;
  log = world.log;
  cell = world.cell;
  contents = world.contents;
  time = world.time;
  name = world.name;
  ports = world.ports;
  group = world.group;
}
