-- WHAT COMMANDS MAKE OF A WORLD WHERE A GROUP IS OPEN, and what commands on groups make of one where none is.
use Rattle.std.specs.Prelude.{◌≡◌, ℕ, List, Bool, true, false, Some, None}
use Rattle.backup_words.specs.declared.command.Command.{Command}
use Rattle.backup_words.specs.declared.command.Command.TheVariants.{Database, Tape, Cell, Dump, Group, Restore}
use Rattle.backup_words.specs.declared.command.GroupCommand.{GroupCommand}
use Rattle.backup_words.specs.declared.command.GroupCommand.TheVariants.{Together, Kill, End, Jobs}
use Rattle.backup_words.specs.FirstWords.{command_word}
use Rattle.backup_replies.specs.declared.refusals.Refusal.TheVariants.{InGroup, NoGroup}
use Rattle.backup_replies.specs.Texts.{refused_word, ok_line}
use Rattle.group_commands.specs.Groups.{GroupView, Told, opened, hold, kill}
use Rattle.group_commands.specs.Lines.{jobs_lines}
use Rattle.group_commands.specs.Answers.{GroupAnswer, group_answer}
use Rattle.backup_session.specs.declared.groups.Groups.{Groups}
use Rattle.backup_session.specs.Worlds.{World, Turn}
use Rattle.backup_session.specs.Turns.{said}
use Rattle.backup_session.specs.Dumps.{scene_of, answered}

-- the groups with this one open
abbrev pub with_open : GroupView → Groups → Groups
with_open g groups = record groups { «open» = Some g }

-- ---- in a group

-- a line leaves the group so, and tells this
abbrev pub left_open : World → Told → Turn
left_open w told = record (said w told.text) { groups = with_open told.group w.groups }

-- a line that a group doesn't take is refused by the first word of its command
abbrev pub barred : World → Command → Turn
barred w command = said w (refused_word InGroup (command_word command))

-- the group has ended: none is open, and the dumps that it began are those that are told from then on
abbrev pub ended_turn : World → GroupAnswer → Turn
ended_turn w g = record (answered w g.answer) { groups = record { «open» = None; jobs = g.jobs } }

-- a command on groups, in a group
abbrev pub group_in : World → GroupView → GroupCommand → Turn
group_in w g (Together schedule) = barred w (Group (Together schedule))
group_in w g (Kill job after) = left_open w (kill g job after)
group_in w g End = ended_turn w (group_answer (scene_of w) g)
group_in w g Jobs = barred w (Group Jobs)

-- A COMMAND IN A GROUP: a dump is held, a kill is noted, the end makes the dumps, and all others are refused.
abbrev pub in_group : World → GroupView → Command → Turn
in_group w g (Database command) = barred w (Database command)
in_group w g (Tape command) = barred w (Tape command)
in_group w g (Cell command) = barred w (Cell command)
in_group w g (Dump command) = left_open w (hold g command)
in_group w g (Group command) = group_in w g command
in_group w g (Restore command) = barred w (Restore command)

-- ---- outside of one

-- it is refused where no group is open, by its word
abbrev pub no_group : World → GroupCommand → Turn
no_group w command = said w (refused_word NoGroup (command_word (Group command)))

-- A COMMAND ON GROUPS where none is open: one is opened, or the dumps of the last one are told; all others are refused.
abbrev pub group_alone : World → GroupCommand → Turn
group_alone w (Together schedule) = record (said w ok_line) { groups = with_open (opened schedule) w.groups }
group_alone w (Kill job after) = no_group w (Kill job after)
group_alone w End = no_group w End
group_alone w Jobs = said w (jobs_lines w.groups.jobs)

-- ---- inside the crate

-- it ends a group
abbrev pub is_end : GroupCommand → Bool
is_end (Together schedule) = false
is_end (Kill job after) = false
is_end End = true
is_end Jobs = false

-- it is the command that ends a group
abbrev pub ends_group : Command → Bool
ends_group (Database command) = false
ends_group (Tape command) = false
ends_group (Cell command) = false
ends_group (Dump command) = false
ends_group (Group command) = is_end command
ends_group (Restore command) = false

-- the groups are left as a turn leaves them, and its reply is told
pub record LeavesGroups (t : Turn) (later : Groups) (text : List ℕ) : Type 0 where
  pub groups : later ≡ t.groups
  pub reply : text ≡ t.reply
