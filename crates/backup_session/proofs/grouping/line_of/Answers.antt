use Rattle.std.proofs.Common.{sym, subst, IfOk}
use Rattle.backup_words.specs.declared.command.Command.{Command}
use Rattle.backup_session.specs.Worlds.{Turn}
use Rattle.backup_session.specs.Groups.{in_group, LeavesGroups}
use Rattle.backup_session.proofs.GroupLaws.{barred_left, bars_database, bars_tape, bars_cell, bars_restore}
use Rattle.backup_session.proofs.grouping.line_of.Goals as goal

pub returns-in-Dump : goal.returns-in-Dump
returns-in-Dump c = λ w v same opened.
    subst (λ (x : Command). IfOk c.hold_in.result (LeavesGroups (in_group w v x) c.hold_in.new.groups)) (sym c.in-Dump.is) (c.hold_in.ensures w v same opened)

pub returns-in-Group : goal.returns-in-Group
returns-in-Group c = λ w v same opened.
    subst (λ (x : Command). IfOk c.group_line.result (LeavesGroups (in_group w v x) c.group_line.new.groups)) (sym c.in-Group.is) (c.group_line.ensures w v same opened)

pub returns-in-Database : goal.returns-in-Database
returns-in-Database c = λ w v same opened.
    subst (λ (t : Turn). IfOk c.barred.result (LeavesGroups t c.args.groups.now)) (sym (bars_database w v c.args.command.now _ c.in-Database.is)) (barred_left w c.args.command.now c.args.groups.now c.barred.result same c.barred.ensures)

pub returns-in-Tape : goal.returns-in-Tape
returns-in-Tape c = λ w v same opened.
    subst (λ (t : Turn). IfOk c.barred-in-Tape.result (LeavesGroups t c.args.groups.now)) (sym (bars_tape w v c.args.command.now _ c.in-Tape.is)) (barred_left w c.args.command.now c.args.groups.now c.barred-in-Tape.result same c.barred-in-Tape.ensures)

pub returns-in-Cell : goal.returns-in-Cell
returns-in-Cell c = λ w v same opened.
    subst (λ (t : Turn). IfOk c.barred-in-Cell.result (LeavesGroups t c.args.groups.now)) (sym (bars_cell w v c.args.command.now _ c.in-Cell.is)) (barred_left w c.args.command.now c.args.groups.now c.barred-in-Cell.result same c.barred-in-Cell.ensures)

pub returns-in-Restore : goal.returns-in-Restore
returns-in-Restore c = λ w v same opened.
    subst (λ (t : Turn). IfOk c.barred-in-Restore.result (LeavesGroups t c.args.groups.now)) (sym (bars_restore w v c.args.command.now _ c.in-Restore.is)) (barred_left w c.args.command.now c.args.groups.now c.barred-in-Restore.result same c.barred-in-Restore.ensures)
