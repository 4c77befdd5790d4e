-- THE MACHINE: what a command makes of a world.
use Rattle.std.specs.Prelude.{ℕ, List, [], ◌∷◌, ◌++◌, length, nat_lt, if◌then◌else◌, Option, Some, None}
use Rattle.plant_core.specs.Effects.{commits, replaces}
use Rattle.budb_changes.specs.declared.change.Change.{Change}
use Rattle.budb_changes.specs.Bytes.{encoded}
use Rattle.budb_fold.specs.Database.{after}
use Rattle.budb_fold.specs.Checkpoints.{checkpoint}
use Rattle.backup_words.specs.declared.command.Command.{Command}
use Rattle.backup_words.specs.declared.command.Command.TheVariants.{Database, Tape, Cell, Dump, Group, Restore}
use Rattle.backup_replies.specs.declared.refusals.Refusal.TheVariants.{LogFull}
use Rattle.backup_replies.specs.Texts.{refused_number, ok_line}
use Rattle.backup_session.specs.declared.verdict.Verdict.{Verdict}
use Rattle.backup_session.specs.declared.verdict.Verdict.TheVariants.{Refuses, Makes, Shortens, Shows}
use Rattle.group_commands.specs.Groups.{GroupView}
use Rattle.backup_session.specs.Cells.{CellAnswer, cell_answer}
use Rattle.backup_session.specs.Verdicts.{verdict}
use Rattle.backup_session.specs.Worlds.{World, Turn, at_moment}
use Rattle.backup_session.specs.Turns.{said, length_with}
use Rattle.backup_session.specs.Tapes.{tape_turn}
use Rattle.backup_session.specs.Restores.{archive_turn}
use Rattle.backup_session.specs.Dumps.{dump_turn}
use Rattle.backup_session.specs.Groups.{group_alone, in_group}

-- changes are made by one commit
abbrev pub committed : World → List Change → List ℕ → Turn
committed w changes text = record (said w text) { effects = commits (encoded changes) ∷ []; log = w.log ++ changes }

-- these changes become the whole log, as one effect
abbrev pub replaced : World → List Change → Turn
replaced w changes = record (said w ok_line) { effects = replaces (encoded changes) ∷ []; log = changes }

-- where they have room
abbrev pub shortened : World → List Change → Turn
shortened w changes = if nat_lt 268435456 (length (encoded changes)) then said w (refused_number LogFull (length (encoded changes))) else replaced w changes

-- A verdict carried out: changes are one commit, where the log has room for them. A log that is made short is the list of a checkpoint.
abbrev pub carried : World → Verdict → Turn
carried w (Refuses text) = said w text
carried w (Shows text) = said w text
carried w (Makes changes text) = if nat_lt 268435456 (length_with w changes) then said w (refused_number LogFull (length_with w changes)) else committed w changes text
carried w Shortens = shortened w (checkpoint (after w.log))

-- What a command on the cell is answered: no effect on the plant.
abbrev pub on_cell : World → CellAnswer → Turn
on_cell w answer = record (said w answer.reply) { cells = answer.cells }

-- A COMMAND outside of a group.
abbrev pub alone : World → Command → Turn
alone w (Database command) = carried w (verdict (after w.log) command)
alone w (Tape command) = tape_turn w command
alone w (Cell command) = on_cell w (cell_answer w.cell w.time command)
alone w (Dump command) = dump_turn w command
alone w (Group command) = group_alone w command
alone w (Restore command) = archive_turn w command

-- a command, by the group that is open
abbrev pub done_in : World → Option GroupView → Command → Turn
done_in w None command = alone w command
done_in w (Some g) command = in_group w g command

-- A COMMAND at the session's time.
abbrev pub done : World → Command → Turn
done w command = done_in w w.groups.open command

-- ONE COMMAND at a moment of the clock.
unfoldable pub turn : World → ℕ → Command → Turn
turn w now command = done (at_moment w now) command
