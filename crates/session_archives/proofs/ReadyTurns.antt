-- A command's turn leaves a ready world ready.
use Rattle.std.proofs.Common.{◌≡◌, ℕ, List, sym, subst}
use Rattle.std.specs.Prelude.{All, Option, Some, None}
use Rattle.cell_core.specs.declared.stored.Stored.{Stored}
use Rattle.budb_changes.specs.Forms.{IsDumpRecord}
use Rattle.budb_fold.specs.Database.{after}
use Rattle.budb.proofs.FoldForms.{forms_after}
use Rattle.backup_words.specs.declared.command.Command.{Command}
use Rattle.backup_words.specs.declared.command.Command.TheVariants.{Database, Tape, Cell, Dump, Group, Restore}
use Rattle.backup_words.specs.declared.command.DatabaseCommand.{DatabaseCommand}
use Rattle.backup_words.specs.declared.command.TapeCommand.{TapeCommand}
use Rattle.backup_words.specs.declared.command.TapeCommand.TheVariants.{Labeltape, Readlabel, Scantape, Savedb, Restoredb}
use Rattle.backup_words.specs.declared.command.CellCommand.{CellCommand}
use Rattle.backup_words.specs.declared.command.GroupCommand.{GroupCommand}
use Rattle.backup_words.specs.declared.command.GroupCommand.TheVariants.{Together, Kill, End, Jobs}
use Rattle.backup_words.specs.declared.command.RestoreCommand.{RestoreCommand}
use Rattle.group_commands.specs.Groups.{GroupView}
use Rattle.group_laws.specs.Forms.{IsGroupForm}
use Rattle.backup_session.specs.Bounded.{HasTapes}
use Rattle.backup_session.specs.Cells.{cell_answer}
use Rattle.backup_session.specs.Restores.{restore_answer, archive_turn}
use Rattle.backup_session.specs.Scanning.{port_of}
use Rattle.backup_session.specs.Tapes.{slot_of, tape_turn}
use Rattle.backup_session.specs.Verdicts.{verdict}
use Rattle.backup_session.specs.Worlds.{World, Turn, archive_of, last_cell, before_reply, after_turn, at_moment}
use Rattle.backup_session.specs.Groups.{group_in, in_group, group_alone}
use Rattle.backup_session.specs.Machine.{carried, on_cell, alone, done_in, turn}
use Rattle.command_forms.specs.Forms.{DatabaseForms, TapeForms, CellForms, RestoredForms, HasForms}
use Rattle.command_forms.specs.NewNames.{CellNamesApart, NamesApart}
use Rattle.script_journals.specs.Worlds.{HasGroupForm}
use Rattle.session_archives.specs.Held.{HoldsWorld}
use Rattle.session_archives.specs.Ready.{IsInOrder, IsReady, RestoresApart, FitsBackFor}
use Rattle.session_archives.proofs.Kept.{Finds}
use Rattle.session_archives.proofs.Turns.{forms_found, tape_keeps, database_keeps}
use Rattle.session_archives.proofs.Verdicts.{verdict_mild}
use Rattle.session_archives.proofs.Orders.{DumpedBy, good_cell, order_later, order_brought, order_of}
use Rattle.session_archives.proofs.ReadyTapes.{KeepsOrder, carried_orders, label_orders, read_orders}
use Rattle.session_archives.proofs.ReadyScans.{scan_orders}
use Rattle.session_archives.proofs.SavedTurns.{save_orders}
use Rattle.session_archives.proofs.ReadingBack.{back_order}
use Rattle.session_archives.proofs.ReadyCells.{command_good, restored_in_order}
use Rattle.session_archives.proofs.DumpTurns.{dump_order, end_order}
use Rattle.session_archives.proofs.TurnLeads.{Lower, finds_of, has_later, finds_later}

-- behind a turn, before its reply is told, the cell is in order
abbrev pub LeavesOrder : World → Turn → Type 0
LeavesOrder w t = IsInOrder (last_cell w.cell t.cells) t.time (archive_of (before_reply w t))

module _ (laws : Lower) (w : World) (has : HasTapes w) (finds : Finds w) (group : HasGroupForm w.groups.open) (ready : IsReady w) where
  -- what brings no dump leaves it
  brought : (t : Turn) → t.contents ≡ w.contents → KeepsOrder w t → LeavesOrder w t
  brought t contents keeps =
      subst (λ (cell : List Stored). IsInOrder cell t.time (archive_of (before_reply w t))) (sym keeps.cell)
      (order_brought w.cell t.time (archive_of w) (archive_of (before_reply w t)) finds.holds.0 finds.holds.1.seen.kept.dumps contents keeps.brings
      (order_later w.cell w.time t.time (archive_of w) ready.order keeps.later (keeps.four ready.order.four)))

  listed_forms : All IsDumpRecord (after w.log).listed
  listed_forms = (forms_after w.log finds.holds.1.seen.changes).listed

  tape_brought : (command : TapeCommand) → TapeForms command → FitsBackFor w (Tape command) → KeepsOrder w (tape_turn w command) → LeavesOrder w (tape_turn w command)
  tape_brought command form back orders = brought (tape_turn w command) (tape_keeps laws.reads laws.assembles laws.same w has finds command form back).contents orders

  tape_leaves : (command : TapeCommand) → TapeForms command → FitsBackFor w (Tape command) → LeavesOrder w (tape_turn w command)
  tape_leaves (Labeltape name pname offset slot) form back =
      tape_brought (Labeltape name pname offset slot) form back (label_orders laws.reads w finds name pname form.0 form.1 (slot_of w.setting (after w.log).hosts offset slot))
  tape_leaves (Readlabel offset slot) form back = tape_brought (Readlabel offset slot) form back (read_orders w (slot_of w.setting (after w.log).hosts offset slot))
  tape_leaves (Scantape dbadd offset) form back =
      let port = port_of w.setting.config (after w.log).hosts offset in
      tape_brought (Scantape dbadd offset) form back (scan_orders laws.assembles w dbadd port finds (forms_found w has port))
  tape_leaves (Savedb offset) form back = tape_brought (Savedb offset) form back (save_orders laws.reads w finds (port_of w.setting.config (after w.log).hosts offset))
  tape_leaves (Restoredb offset) form back = back_order w ready.order (port_of w.setting.config (after w.log).hosts offset) back

  database_leaves : (command : DatabaseCommand) → DatabaseForms command → LeavesOrder w (carried w (verdict (after w.log) command))
  database_leaves command form =
      brought (carried w (verdict (after w.log) command)) (database_keeps laws.reads laws.assembles laws.same w has finds command form).contents
      (carried_orders w finds laws.same (verdict (after w.log) command) (verdict_mild (after w.log) command))

  cell_leaves : (command : CellCommand) → CellForms command → CellNamesApart command → LeavesOrder w (on_cell w (cell_answer w.cell w.time command))
  cell_leaves command form apart =
      order_of w.cell (last_cell w.cell (cell_answer w.cell w.time command).cells) w.time (archive_of w) ready.order
      (command_good (DumpedBy (archive_of w)) w.time ready.order.four w.cell (good_cell w.cell w.time (archive_of w) ready.order) command form apart)

  restore_leaves : (command : RestoreCommand) → RestoredForms command.volumes → RestoresApart w (Restore command) → LeavesOrder w (archive_turn w command)
  restore_leaves command form apart =
      order_of w.cell (last_cell w.cell (restore_answer (archive_of w) (after w.log).sets w.cell w.time command).cells) w.time (archive_of w) ready.order
      (restored_in_order laws.names w ready.order listed_forms command form apart)

  group_alone_leaves : (command : GroupCommand) → LeavesOrder w (group_alone w command)
  group_alone_leaves (Together schedule) = ready.order
  group_alone_leaves (Kill job after) = ready.order
  group_alone_leaves End = ready.order
  group_alone_leaves Jobs = ready.order

  alone_leaves : (command : Command) → HasForms command → NamesApart command → RestoresApart w command → FitsBackFor w command → LeavesOrder w (alone w command)
  alone_leaves (Database command) form named apart back = database_leaves command form
  alone_leaves (Tape command) form named apart back = tape_leaves command form back
  alone_leaves (Cell command) form named apart back = cell_leaves command form named
  alone_leaves (Dump command) form named apart back = dump_order laws.dumps w has finds group ready command form
  alone_leaves (Group command) form named apart back = group_alone_leaves command
  alone_leaves (Restore command) form named apart back = restore_leaves command form apart

  group_in_leaves : (g : GroupView) → IsGroupForm g → (command : GroupCommand) → LeavesOrder w (group_in w g command)
  group_in_leaves g its (Together schedule) = ready.order
  group_in_leaves g its (Kill job after) = ready.order
  group_in_leaves g its End = end_order laws.ends w has finds group ready g its
  group_in_leaves g its Jobs = ready.order

  in_leaves : (g : GroupView) → IsGroupForm g → (command : Command) → LeavesOrder w (in_group w g command)
  in_leaves g its (Database command) = ready.order
  in_leaves g its (Tape command) = ready.order
  in_leaves g its (Cell command) = ready.order
  in_leaves g its (Dump command) = ready.order
  in_leaves g its (Group command) = group_in_leaves g its command
  in_leaves g its (Restore command) = ready.order

  done_leaves : (o : Option GroupView) → HasGroupForm o → (command : Command) → HasForms command → NamesApart command → RestoresApart w command → FitsBackFor w command → LeavesOrder w (done_in w o command)
  done_leaves None its command form named apart back = alone_leaves command form named apart back
  done_leaves (Some g) its command form named apart back = in_leaves g its command

-- ---- at a moment of the clock

module _ (laws : Lower) (w : World) (now : ℕ) (held : HoldsWorld w) (ready : IsReady (at_moment w now)) where
  turn_leaves : (command : Command) → HasForms command → NamesApart command → RestoresApart w command → FitsBackFor (at_moment w now) command → LeavesOrder w (turn w now command)
  unfolding turn
  turn_leaves command form named apart back = done_leaves laws (at_moment w now) (has_later w now held.tapes) (finds_later w now (finds_of w held)) held.group ready w.groups.open held.group command form named apart back

  pub turn_ready : (command : Command) → HasForms command → NamesApart command → RestoresApart w command → FitsBackFor (at_moment w now) command → IsReady (after_turn w (turn w now command))
  turn_ready command form named apart back = record { order = turn_leaves command form named apart back; name = ready.name; ports = ready.ports; apart = ready.apart }
