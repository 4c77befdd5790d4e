-- What the archive came of it comes of behind each command.
use Rattle.std.proofs.Common.{ℕ, ◌≤◌, max, List, ◌++◌, refl, arith}
use Rattle.std.specs.Prelude.{Result, Option, Some, None}
use Rattle.budb_changes.specs.declared.change.Change.{Change}
use Rattle.budb_fold.specs.Database.{after}
use Rattle.tape_config.specs.declared.port.PortFields.{PortFields}
use Rattle.backup_words.specs.declared.command.Command.{Command}
use Rattle.backup_words.specs.declared.command.Command.TheVariants.{Database, Tape, Cell, Dump, Group, Restore}
use Rattle.backup_words.specs.declared.command.DatabaseCommand.{DatabaseCommand}
use Rattle.backup_words.specs.declared.command.TapeCommand.{TapeCommand}
use Rattle.backup_words.specs.declared.command.TapeCommand.TheVariants.{Labeltape, Readlabel, Scantape, Savedb, Restoredb}
use Rattle.backup_words.specs.declared.command.GroupCommand.{GroupCommand}
use Rattle.backup_words.specs.declared.command.GroupCommand.TheVariants.{Together, Kill, End, Jobs}
use Rattle.group_commands.specs.Groups.{GroupView, Told, hold, kill}
use Rattle.group_laws.specs.Forms.{IsGroupForm}
use Rattle.saved_archives.specs.Since.{ComesOf}
use Rattle.dump_archives.specs.Keeping.{IsKnownId}
use Rattle.dump_archives.proofs.Growing.{greatest_more}
use Rattle.dump_archives.proofs.Sinces.{comes_as}
use Rattle.backup_session.specs.Bounded.{HasTapes}
use Rattle.backup_session.specs.Opening.{database_time}
use Rattle.backup_session.specs.Scanning.{port_of}
use Rattle.backup_session.specs.Tapes.{slot_of, tape_turn}
use Rattle.backup_session.specs.Turns.{said}
use Rattle.backup_session.specs.Saves.{time_back, made_back, back_turn}
use Rattle.backup_session.proofs.SaveTurns.{by_back}
use Rattle.backup_session.specs.Verdicts.{verdict}
use Rattle.backup_session.specs.Worlds.{World, Turn, archive_of, before_reply, after_turn, at_moment}
use Rattle.backup_session.specs.Groups.{left_open, barred, group_in, in_group, group_alone}
use Rattle.backup_session.specs.Machine.{carried, alone, done_in, turn}
use Rattle.command_forms.specs.Forms.{DatabaseForms, TapeForms, HasForms}
use Rattle.script_journals.specs.Worlds.{HasGroupForm}
use Rattle.session_archives.specs.Held.{HoldsWorld}
use Rattle.session_archives.specs.Since.{CameSince}
use Rattle.session_archives.specs.Ready.{FitsBackFor, IsReadyForCommand}
use Rattle.session_archives.proofs.Kept.{Finds}
use Rattle.session_archives.proofs.Turns.{forms_found, tape_keeps, database_keeps}
use Rattle.session_archives.proofs.Verdicts.{verdict_mild}
use Rattle.session_archives.proofs.ReadyTapes.{KeepsOrder, carried_orders, label_orders, read_orders}
use Rattle.session_archives.proofs.ReadyScans.{scan_orders}
use Rattle.session_archives.proofs.SavedTurns.{save_orders}
use Rattle.session_archives.proofs.DumpTurns.{SinceLaws, dump_came, end_came}
use Rattle.session_archives.proofs.Orders.{moment_later}
use Rattle.session_archives.proofs.Sinces.{known_more, same_came, order_came}
use Rattle.session_archives.proofs.TurnLeads.{Lower, finds_of, has_later, finds_later}

-- behind a turn, before its reply is told
abbrev CameBehind : World → Turn → Type 0
CameBehind w t = CameSince w (before_reply w t)

said_came : (w : World) (text : List ℕ) → CameBehind w (said w text)
said_came w text = same_came w (before_reply w (said w text)) refl refl refl

time_grows : (time other : ℕ) → time ≤ max time other
time_grows time other = omega arith

-- a database that is read back: no tape is another one
made_came : (w : World) (changes : List Change) → CameBehind w (made_back w changes)
made_came w changes = record {
  known = λ id known. known_more w.time (time_back w changes) (after w.log).greatest (after (w.log ++ changes)).greatest id (time_grows w.time (database_time (after (w.log ++ changes)))) (greatest_more w.log changes) known;
  comes = λ greatest before known comes. comes_as greatest before (archive_of w) (archive_of (before_reply w (made_back w changes))) refl refl comes;
}

back_came : (w : World) (port : Result PortFields (List ℕ)) → CameBehind w (back_turn w port)
back_came w port = by_back w (CameBehind w) (said_came w) port (λ changes comes. made_came w changes)

module _ (laws : Lower) (since : SinceLaws) (w : World) (has : HasTapes w) (finds : Finds w) (group : HasGroupForm w.groups.open) where
  tape_brought : (command : TapeCommand) → TapeForms command → FitsBackFor w (Tape command) → KeepsOrder w (tape_turn w command) → CameBehind w (tape_turn w command)
  tape_brought command form back orders = order_came w (tape_turn w command) finds (tape_keeps laws.reads laws.assembles laws.same w has finds command form back).contents orders

  tape_came : (command : TapeCommand) → TapeForms command → FitsBackFor w (Tape command) → CameBehind w (tape_turn w command)
  tape_came (Labeltape name pname offset slot) form back =
      tape_brought (Labeltape name pname offset slot) form back (label_orders laws.reads w finds name pname form.0 form.1 (slot_of w.setting (after w.log).hosts offset slot))
  tape_came (Readlabel offset slot) form back = tape_brought (Readlabel offset slot) form back (read_orders w (slot_of w.setting (after w.log).hosts offset slot))
  tape_came (Scantape dbadd offset) form back =
      let port = port_of w.setting.config (after w.log).hosts offset in
      tape_brought (Scantape dbadd offset) form back (scan_orders laws.assembles w dbadd port finds (forms_found w has port))
  tape_came (Savedb offset) form back = tape_brought (Savedb offset) form back (save_orders laws.reads w finds (port_of w.setting.config (after w.log).hosts offset))
  tape_came (Restoredb offset) form back = back_came w (port_of w.setting.config (after w.log).hosts offset)

  database_came : (command : DatabaseCommand) → DatabaseForms command → CameBehind w (carried w (verdict (after w.log) command))
  database_came command form =
      order_came w (carried w (verdict (after w.log) command)) finds (database_keeps laws.reads laws.assembles laws.same w has finds command form).contents
      (carried_orders w finds laws.same (verdict (after w.log) command) (verdict_mild (after w.log) command))

  group_alone_came : (command : GroupCommand) → CameBehind w (group_alone w command)
  group_alone_came (Together schedule) = same_came w (before_reply w (group_alone w (Together schedule))) refl refl refl
  group_alone_came (Kill job after) = same_came w (before_reply w (group_alone w (Kill job after))) refl refl refl
  group_alone_came End = same_came w (before_reply w (group_alone w End)) refl refl refl
  group_alone_came Jobs = same_came w (before_reply w (group_alone w Jobs)) refl refl refl

  alone_came : (command : Command) → HasForms command → IsReadyForCommand w command → CameBehind w (alone w command)
  alone_came (Database command) form ready = database_came command form
  alone_came (Tape command) form ready = tape_came command form ready.back
  alone_came (Cell command) form ready = same_came w (before_reply w (alone w (Cell command))) refl refl refl
  alone_came (Dump command) form ready = dump_came since w has finds group (ready.ready refl) command form
  alone_came (Group command) form ready = group_alone_came command
  alone_came (Restore command) form ready = same_came w (before_reply w (alone w (Restore command))) refl refl refl

  barred_came : (command : Command) → CameBehind w (barred w command)
  barred_came command = same_came w (before_reply w (barred w command)) refl refl refl

  left_came : (told : Told) → CameBehind w (left_open w told)
  left_came told = same_came w (before_reply w (left_open w told)) refl refl refl

  module _ (g : GroupView) (its : IsGroupForm g) where
    group_in_came : (command : GroupCommand) → IsReadyForCommand w (Group command) → CameBehind w (group_in w g command)
    group_in_came (Together schedule) ready = barred_came (Group (Together schedule))
    group_in_came (Kill job after) ready = left_came (kill g job after)
    group_in_came End ready = end_came since w has finds group (ready.ready refl) g its
    group_in_came Jobs ready = barred_came (Group Jobs)

    in_came : (command : Command) → IsReadyForCommand w command → CameBehind w (in_group w g command)
    in_came (Database command) ready = barred_came (Database command)
    in_came (Tape command) ready = barred_came (Tape command)
    in_came (Cell command) ready = barred_came (Cell command)
    in_came (Dump command) ready = left_came (hold g command)
    in_came (Group command) ready = group_in_came command ready
    in_came (Restore command) ready = barred_came (Restore command)

  done_came : (o : Option GroupView) → HasGroupForm o → (command : Command) → HasForms command → IsReadyForCommand w command → CameBehind w (done_in w o command)
  done_came None its command form ready = alone_came command form ready
  done_came (Some g) its command form ready = in_came g its command ready

-- ---- at a moment of the clock

came_later : (w : World) (now : ℕ) (t : Turn) → CameBehind (at_moment w now) t → CameSince w (after_turn w t)
came_later w now t came =
    let known_now : (id : ℕ) → IsKnownId w.time (after w.log).greatest id → IsKnownId (at_moment w now).time (after w.log).greatest id =
    λ id known. known_more w.time (at_moment w now).time (after w.log).greatest (after w.log).greatest id (moment_later w.time now) (omega arith) known in
    record {
      known = λ id known. came.known id (known_now id known);
      comes = λ greatest before known comes.
          (let first : ComesOf greatest before (archive_of (at_moment w now)) = comes_as greatest before (archive_of w) (archive_of (at_moment w now)) refl refl comes in
          comes_as greatest before (archive_of (before_reply (at_moment w now) t)) (archive_of (after_turn w t)) refl refl (came.comes greatest before (known_now greatest known) first));
    }

module _ (laws : Lower) (since : SinceLaws) (w : World) (now : ℕ) (held : HoldsWorld w) (command : Command) (form : HasForms command) (ready : IsReadyForCommand (at_moment w now) command) where
  done_now : CameBehind (at_moment w now) (turn w now command)
  unfolding turn
  done_now = done_came laws since (at_moment w now) (has_later w now held.tapes) (finds_later w now (finds_of w held)) held.group w.groups.open held.group command form ready

  pub turn_came : CameSince w (after_turn w (turn w now command))
  turn_came = came_later w now (turn w now command) done_now
