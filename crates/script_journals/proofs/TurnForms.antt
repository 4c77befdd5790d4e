-- What a turn leaves of a world has its forms: the session's time, what dumps have of volumes, and the cell's lists.
use Rattle.std.proofs.Common.{ℕ, ◌≤◌, Bool, true, false, List, [], ◌∷◌, ◌++◌, length, arith}
use Rattle.std.specs.Prelude.{◌↔◌, All, max, nat_lt, if◌then◌else◌, IsTrue, Option, Some, None, Result, Ok, Err}
use Rattle.std.specs.List.{fold}
use Rattle.std.proofs.lemmas.List.Elements.{All-nil, All-head, All-tail, All-append}
use Rattle.bk_text.specs.Alphabets.{IsName}
use Rattle.bk_text.specs.Tests.{name_test}
use Rattle.byte_formats.specs.Forms.{IsFour}
use Rattle.plant_core.specs.Effects.{come}
use Rattle.tape_config.specs.declared.port.PortFields.{PortFields}
use Rattle.tape_frames.specs.declared.label.LabelFields.{LabelFields}
use Rattle.tape_answers.specs.Assembling.{found_in}
use Rattle.budb_changes.specs.declared.records.VolRecordFields.{VolRecordFields}
use Rattle.budb_changes.specs.declared.records.DumpRecordFields.{DumpRecordFields}
use Rattle.budb_changes.specs.declared.change.Change.{Change}
use Rattle.budb_changes.specs.declared.change.Change.TheVariants as change
use Rattle.budb_changes.specs.Bytes.{encoded}
use Rattle.budb_changes.specs.Forms.{IsVolRecord, IsDumpRecord, IsChange, AreChanges}
use Rattle.budb_fold.specs.Database.{after, has_dump}
use Rattle.budb_fold.specs.Checkpoints.{checkpoint}
use Rattle.budb.proofs.FoldForms.{forms_after}
use Rattle.budb_save.proofs.ReadLaws.{saves_whole}
use Rattle.backup_words.specs.declared.command.Command.{Command}
use Rattle.backup_words.specs.declared.command.Command.TheVariants.{Database, Tape, Cell, Dump, Group, Restore}
use Rattle.backup_words.specs.declared.command.TapeCommand.{TapeCommand}
use Rattle.backup_words.specs.declared.command.TapeCommand.TheVariants.{Labeltape, Readlabel, Scantape, Savedb, Restoredb}
use Rattle.backup_words.specs.declared.command.DumpCommand.{DumpCommand}
use Rattle.backup_words.specs.declared.command.GroupCommand.{GroupCommand}
use Rattle.backup_words.specs.declared.command.GroupCommand.TheVariants.{Together, Kill, End, Jobs}
use Rattle.dump_courses.specs.Scenes.{Scene}
use Rattle.dump_forms.specs.Journals.{IsJournalAfter}
use Rattle.dump_commands.specs.Forms.{IsSceneForm, IsCommandForm, AreShort, AreVolumes}
use Rattle.dump_commands.specs.Answers.{Contents}
use Rattle.dump_commands.proofs.LeftForms.{answer_time, answer_contents}
use Rattle.group_commands.specs.Groups.{GroupView}
use Rattle.group_commands.specs.Answers.{group_answer}
use Rattle.cell_forms.specs.Forms.{IsCellForm}
use Rattle.backup_session.specs.declared.verdict.Verdict.{Verdict}
use Rattle.backup_session.specs.declared.verdict.Verdict.TheVariants.{Refuses, Makes, Shortens, Shows}
use Rattle.backup_session.specs.Opening.{with_clone, with_clones, database_time}
use Rattle.backup_session.specs.Worlds.{World, Turn, before_reply, archive_of}
use Rattle.backup_session.specs.Turns.{said, length_with}
use Rattle.backup_session.specs.Verdicts.{verdict}
use Rattle.backup_session.specs.Labels.{label_of}
use Rattle.backup_session.specs.Scanning.{port_of, slots_here, scans_of, has_wrong_parent, time_with, Step, says, added_if, with_dump, adding, dumps_turn, slots_turn, scan_turn}
use Rattle.backup_session.specs.Saves.{time_back, saved_turn, back_turn}
use Rattle.backup_session.specs.Tapes.{slot_of, read_turn, new_label, taken, labeled, label_turn, tape_turn}
use Rattle.backup_session.specs.Dumps.{scene_of, dump_turn}
use Rattle.backup_session.specs.Groups.{ended_turn, group_in, in_group, group_alone}
use Rattle.backup_session.specs.Machine.{carried, alone, done_in, done}
use Rattle.command_forms.specs.Forms.{HasForms}
use Rattle.backup_session.proofs.SaveTurns.{by_save, by_back}
use Rattle.backup_session.proofs.FoundForms.{found_forms}
use Rattle.script_journals.specs.Worlds.{IsWorldForm}
use Rattle.script_journals.proofs.CellForms.{cell_answer_form}
use Rattle.script_journals.proofs.RestoreForms.{restore_form}

-- what is so of the end of each group: the laws of the crate below
pub record EndForms : Type 0 where
  pub bytes : (s : Scene) (g : GroupView) → IsSceneForm s → All IsCommandForm g.held → IsJournalAfter s.log (group_answer s g).answer.effects (group_answer s g).answer.log
  pub time : (s : Scene) (g : GroupView) → IsSceneForm s → IsFour (group_answer s g).answer.time
  pub tapes : (s : Scene) (g : GroupView) → IsSceneForm s → All IsCommandForm g.held → length g.held ≤ 16 → AreShort s.state.tape → AreShort (come (group_answer s g).answer.effects s.state).tape
  pub contents : (s : Scene) (g : GroupView) (contents : Contents) → IsSceneForm s → AreVolumes contents → AreVolumes ((group_answer s g).answer.contents contents)

-- what a turn leaves, but for the journal and the tapes
pub record LeavesForms (t : Turn) : Type 0 where
  pub time : IsFour t.time
  pub contents : AreVolumes t.contents
  pub cells : All IsCellForm t.cells

picked : (b : Bool) (s t : Turn) → LeavesForms s → LeavesForms t → LeavesForms (if b then s else t)
picked true s t is_s is_t = is_s
picked false s t is_s is_t = is_t

module _ (w : World) (time : IsFour w.time) (contents : AreVolumes w.contents) where
  -- ---- commands on the database, and labels

  carried_forms : (v : Verdict) → LeavesForms (carried w v)
  carried_forms (Refuses text) = record { time = time; contents = contents; cells = All-nil IsCellForm }
  carried_forms (Shows text) = record { time = time; contents = contents; cells = All-nil IsCellForm }
  carried_forms (Makes changes text) = picked (nat_lt 268435456 (length_with w changes)) _ _ (record { time = time; contents = contents; cells = All-nil IsCellForm }) (record { time = time; contents = contents; cells = All-nil IsCellForm })
  carried_forms Shortens = picked (nat_lt 268435456 (length (encoded (checkpoint (after w.log))))) _ _ (record { time = time; contents = contents; cells = All-nil IsCellForm }) (record { time = time; contents = contents; cells = All-nil IsCellForm })

  labeled_forms : (slot : ℕ) (a : LabelFields) (changes : List Change) → LeavesForms (labeled w slot a changes)
  labeled_forms slot a [] = record { time = time; contents = contents; cells = All-nil IsCellForm }
  labeled_forms slot a (c ∷ cs) = picked (nat_lt 268435456 (length_with w (c ∷ cs))) _ _ (record { time = time; contents = contents; cells = All-nil IsCellForm }) (record { time = time; contents = contents; cells = All-nil IsCellForm })

  label_forms : (name pname : Option (List ℕ)) (r : Result ℕ (List ℕ)) → LeavesForms (label_turn w name pname r)
  label_forms name pname (Err text) = record { time = time; contents = contents; cells = All-nil IsCellForm }
  label_forms name pname (Ok slot) = labeled_forms slot (new_label (label_of (w.state.tape slot)) name pname) (taken (after w.log).listed (label_of (w.state.tape slot)))

  read_forms : (r : Result ℕ (List ℕ)) → LeavesForms (read_turn w r)
  read_forms (Err text) = record { time = time; contents = contents; cells = All-nil IsCellForm }
  read_forms (Ok slot) = record { time = time; contents = contents; cells = All-nil IsCellForm }

  -- ---- saves

  save_forms : (port : Result PortFields (List ℕ)) → LeavesForms (saved_turn w port)
  save_forms port = by_save w LeavesForms (λ text. record { time = time; contents = contents; cells = All-nil IsCellForm }) (λ p bytes few. record { time = time; contents = contents; cells = All-nil IsCellForm }) port

-- ---- scans

clones_form : (time : ℕ) (volumes : List VolRecordFields) → IsFour time → All IsVolRecord volumes → IsFour (fold with_clone time volumes)
clones_form time [] form all = form
clones_form time (v ∷ vs) form all =
    let clone : IsFour v.clone = (All-head IsVolRecord v vs all).clone in
    clones_form (max time v.clone) vs (omega (arith, form, clone)) (All-tail IsVolRecord v vs all)

time_form : (time : ℕ) (d : DumpRecordFields) → IsFour time → IsDumpRecord d → IsFour (time_with time d)
time_form time d form record_form = clones_form (max time d.id) d.volumes (omega (arith, form, record_form.id)) record_form.each_volume

picked_step : (b : Bool) (s t : Step) → LeavesForms s.turn → LeavesForms t.turn → LeavesForms (if b then s else t).turn
picked_step true s t is_s is_t = is_s
picked_step false s t is_s is_t = is_t

added_forms : (w : World) (full : Bool) (d : DumpRecordFields) → IsFour w.time → AreVolumes w.contents → IsDumpRecord d → LeavesForms (added_if w full d).turn
added_forms w full d time contents form =
    let told : LeavesForms (said w []) = record { time = time; contents = contents; cells = All-nil IsCellForm } in
    picked_step (has_dump (after w.log).listed d.id) _ _ (record { time = time; contents = contents; cells = All-nil IsCellForm })
    (picked_step (has_wrong_parent d) _ _ (record { time = time; contents = contents; cells = All-nil IsCellForm })
    (picked_step full _ _ told
    (picked_step (nat_lt 268435456 (length_with w (change.Found d ∷ []))) _ _ (record { time = time; contents = contents; cells = All-nil IsCellForm })
    (record { time = time_form w.time d time form; contents = contents; cells = All-nil IsCellForm }))))

steps_forms : (w : World) (s : Step) (ds : List DumpRecordFields) → LeavesForms s.turn → All IsDumpRecord ds → LeavesForms (fold (with_dump w) s ds).turn
steps_forms w s [] so_far forms = so_far
steps_forms w s (d ∷ ds) so_far forms =
    let one = added_forms (before_reply w s.turn) s.full d so_far.time so_far.contents (All-head IsDumpRecord d ds forms) in
    steps_forms w (with_dump w s d) ds (record { time = one.time; contents = one.contents; cells = All-nil IsCellForm }) (All-tail IsDumpRecord d ds forms)

module _ (w : World) (time : IsFour w.time) (contents : AreVolumes w.contents) where
  adding_forms : (ds : List DumpRecordFields) → All IsDumpRecord ds → LeavesForms (adding w ds).turn
  unfolding adding
  adding_forms ds forms = steps_forms w (says w false []) ds (record { time = time; contents = contents; cells = All-nil IsCellForm }) forms

  dumps_forms : (dbadd : Bool) (ds : List DumpRecordFields) → All IsDumpRecord ds → LeavesForms (dumps_turn w dbadd ds)
  dumps_forms true ds forms = adding_forms ds forms
  dumps_forms false ds forms = record { time = time; contents = contents; cells = All-nil IsCellForm }

  slots_forms : (dbadd : Bool) (slots : List ℕ) → All IsDumpRecord (found_in (scans_of w.state.tape slots)).whole → LeavesForms (slots_turn w dbadd slots)
  unfolding slots_turn
  slots_forms dbadd slots forms = let one = dumps_forms dbadd (found_in (scans_of w.state.tape slots)).whole forms in record { time = one.time; contents = one.contents; cells = All-nil IsCellForm }

-- ---- a database that is read back

dumps_form : (time : ℕ) (dumps : List DumpRecordFields) → IsFour time → All IsDumpRecord dumps → IsFour (fold with_clones time dumps)
dumps_form time [] form all = form
dumps_form time (d ∷ ds) form all = dumps_form (with_clones time d) ds (clones_form time d.volumes form (All-head IsDumpRecord d ds all).each_volume) (All-tail IsDumpRecord d ds all)

pub back_four : (w : World) (changes : List Change) → IsFour w.time → AreChanges (w.log ++ changes) → IsFour (time_back w changes)
back_four w changes time all =
    let forms = forms_after (w.log ++ changes) all in
    let read : IsFour (database_time (after (w.log ++ changes))) = dumps_form (after (w.log ++ changes)).greatest (after (w.log ++ changes)).listed forms.greatest forms.listed in
    omega (arith, time, read)

-- ---- dumps

pub scene_form : (w : World) → IsWorldForm w → IsSceneForm (scene_of w)
scene_form w form = record {
  log = form.log;
  cell = form.cell.volumes;
  few = omega (arith, form.cell.list.few);
  time = form.time;
  name = form.name;
  ports = form.ports;
}

dump_forms : (w : World) → IsWorldForm w → (command : DumpCommand) → LeavesForms (dump_turn w command)
dump_forms w form command = record {
  time = answer_time (scene_of w) command form.time;
  contents = answer_contents (scene_of w) command w.contents form.cell.volumes form.contents;
  cells = All-nil IsCellForm;
}

-- ---- the end of a group

end_forms : EndForms → (w : World) → IsWorldForm w → (g : GroupView) → LeavesForms (ended_turn w (group_answer (scene_of w) g))
end_forms ends w form g = record {
  time = ends.time (scene_of w) g (scene_form w form);
  contents = ends.contents (scene_of w) g w.contents (scene_form w form) form.contents;
  cells = All-nil IsCellForm;
}

-- ---- a command

module _ (ends : EndForms) (tests : (text : List ℕ) → IsTrue (name_test text) ↔ IsName text) (w : World) (form : IsWorldForm w) where
  scan_forms : (dbadd : Bool) (port : Result PortFields (List ℕ)) → LeavesForms (scan_turn w dbadd port)
  scan_forms dbadd (Err text) = record { time = form.time; contents = form.contents; cells = All-nil IsCellForm }
  scan_forms dbadd (Ok port) = slots_forms w form.time form.contents dbadd (slots_here w.setting.present port) (found_forms w form.tapes port)

  back_forms : (port : Result PortFields (List ℕ)) → LeavesForms (back_turn w port)
  back_forms port =
      by_back w LeavesForms (λ text. record { time = form.time; contents = form.contents; cells = All-nil IsCellForm }) port (λ changes comes. record {
        time = back_four w changes form.time (All-append IsChange w.log changes form.log (saves_whole (w.state.tape comes.pick.slot) changes comes.read).form);
        contents = form.contents;
        cells = All-nil IsCellForm;
      })

  tape_forms : (command : TapeCommand) → LeavesForms (tape_turn w command)
  tape_forms (Labeltape name pname offset slot) = label_forms w form.time form.contents name pname (slot_of w.setting (after w.log).hosts offset slot)
  tape_forms (Readlabel offset slot) = read_forms w form.time form.contents (slot_of w.setting (after w.log).hosts offset slot)
  tape_forms (Scantape dbadd offset) = scan_forms dbadd (port_of w.setting.config (after w.log).hosts offset)
  tape_forms (Savedb offset) = save_forms w form.time form.contents (port_of w.setting.config (after w.log).hosts offset)
  tape_forms (Restoredb offset) = back_forms (port_of w.setting.config (after w.log).hosts offset)

  group_alone_forms : (command : GroupCommand) → LeavesForms (group_alone w command)
  group_alone_forms (Together schedule) = record { time = form.time; contents = form.contents; cells = All-nil IsCellForm }
  group_alone_forms (Kill job after) = record { time = form.time; contents = form.contents; cells = All-nil IsCellForm }
  group_alone_forms End = record { time = form.time; contents = form.contents; cells = All-nil IsCellForm }
  group_alone_forms Jobs = record { time = form.time; contents = form.contents; cells = All-nil IsCellForm }

  alone_forms : (command : Command) → HasForms command → LeavesForms (alone w command)
  alone_forms (Database command) has = carried_forms w form.time form.contents (verdict (after w.log) command)
  alone_forms (Tape command) has = tape_forms command
  alone_forms (Cell command) has = record { time = form.time; contents = form.contents; cells = cell_answer_form w.cell w.time command has form.time form.cell }
  alone_forms (Dump command) has = dump_forms w form command
  alone_forms (Group command) has = group_alone_forms command
  alone_forms (Restore command) has = record {
    time = form.time;
    contents = form.contents;
    cells = restore_form tests (archive_of w) (after w.log).sets w.cell w.time command has form.contents (forms_after w.log form.log).listed form.time form.cell;
  }

  group_in_forms : (g : GroupView) (command : GroupCommand) → LeavesForms (group_in w g command)
  group_in_forms g (Together schedule) = record { time = form.time; contents = form.contents; cells = All-nil IsCellForm }
  group_in_forms g (Kill job after) = record { time = form.time; contents = form.contents; cells = All-nil IsCellForm }
  group_in_forms g End = end_forms ends w form g
  group_in_forms g Jobs = record { time = form.time; contents = form.contents; cells = All-nil IsCellForm }

  in_forms : (g : GroupView) (command : Command) → LeavesForms (in_group w g command)
  in_forms g (Database command) = record { time = form.time; contents = form.contents; cells = All-nil IsCellForm }
  in_forms g (Tape command) = record { time = form.time; contents = form.contents; cells = All-nil IsCellForm }
  in_forms g (Cell command) = record { time = form.time; contents = form.contents; cells = All-nil IsCellForm }
  in_forms g (Dump command) = record { time = form.time; contents = form.contents; cells = All-nil IsCellForm }
  in_forms g (Group command) = group_in_forms g command
  in_forms g (Restore command) = record { time = form.time; contents = form.contents; cells = All-nil IsCellForm }

  by_group : (o : Option GroupView) (command : Command) → HasForms command → LeavesForms (done_in w o command)
  by_group None command has = alone_forms command has
  by_group (Some g) command has = in_forms g command

  pub done_forms : (command : Command) → HasForms command → LeavesForms (done w command)
  done_forms command has = by_group w.groups.open command has
