-- Each command's turn keeps the archive: on the way of its effects, and behind it.
use Rattle.std.proofs.Common.{ℕ, List, IsTrue, refl, ap, subst}
use Rattle.std.specs.Prelude.{◌↔◌, Option, Some, None}
use Rattle.bk_text.specs.Alphabets.{IsName}
use Rattle.bk_text.specs.Tests.{name_test}
use Rattle.budb_fold.specs.Database.{after}
use Rattle.backup_words.specs.declared.command.Command.{Command}
use Rattle.backup_words.specs.declared.command.Command.TheVariants.{Database, Tape, Cell, Dump, Group, Restore}
use Rattle.backup_words.specs.declared.command.GroupCommand.{GroupCommand}
use Rattle.backup_words.specs.declared.command.GroupCommand.TheVariants.{Together, Kill, End, Jobs}
use Rattle.backup_replies.specs.Texts.{ok_line}
use Rattle.group_commands.specs.Groups.{GroupView, Told, opened, hold, kill}
use Rattle.group_laws.specs.Forms.{IsGroupForm}
use Rattle.backup_session.specs.Asks.{asks_dump}
use Rattle.backup_session.specs.Bounded.{HasTapes}
use Rattle.backup_session.specs.Cells.{cell_answer}
use Rattle.backup_session.specs.Restores.{restore_answer, archive_turn}
use Rattle.backup_session.specs.Tapes.{tape_turn}
use Rattle.backup_session.specs.Verdicts.{verdict}
use Rattle.backup_session.specs.Worlds.{World, archive_of, after_turn, at_moment}
use Rattle.backup_session.specs.Groups.{with_open, left_open, barred, group_in, in_group, group_alone}
use Rattle.backup_session.specs.Machine.{carried, on_cell, alone, done_in, done, turn}
use Rattle.backup_session.proofs.TapeBounds.{turn_has_tapes}
use Rattle.command_forms.specs.Forms.{HasForms}
use Rattle.script_journals.specs.Worlds.{HasGroupForm}
use Rattle.script_journals.proofs.Groups.{turn_group}
use Rattle.session_archives.specs.Held.{HoldsWorld}
use Rattle.session_archives.specs.Ready.{IsReady, IsReadyForCommand}
use Rattle.session_archives.proofs.Kept.{Reads, Finds, said_keeps, left_keeps}
use Rattle.session_archives.proofs.Leading.{LeadsTurn, leads_turn, leads_replied, leads_later}
use Rattle.session_archives.proofs.Orders.{moment_four, moment_later, order_later}
use Rattle.session_archives.proofs.Scans.{Assembles}
use Rattle.session_archives.proofs.Turns.{MakesSame, cell_keeps, restore_keeps, tape_keeps, database_keeps}
use Rattle.session_archives.proofs.DumpTurns.{DumpLaws, EndLaws, dump_leads, dump_short, end_leads, end_short}

-- the laws of the crates below that sessions stand on
pub record Lower : Type 0 where
  pub reads : Reads
  pub assembles : Assembles
  pub same : MakesSame
  pub names : (text : List ℕ) → IsTrue (name_test text) ↔ IsName text
  pub dumps : DumpLaws
  pub ends : EndLaws

-- ---- in the words of the contracts

pub finds_of : (w : World) → HoldsWorld w → Finds w
finds_of w held = record { holds = (held.records, held.holds); settled = held.settled; within = held.within }

pub world_of : (w : World) → HasTapes w → Finds w → HasGroupForm w.groups.open → HoldsWorld w
world_of w has finds group = record { records = finds.holds.0; holds = finds.holds.1; settled = finds.settled; within = finds.within; tapes = has; group = group }

-- ---- at a moment of the clock

pub has_later : (w : World) (now : ℕ) → HasTapes w → HasTapes (at_moment w now)
has_later w now has = record { slots = has.slots; records = has.records }

pub finds_later : (w : World) (now : ℕ) → Finds w → Finds (at_moment w now)
finds_later w now finds = record { holds = finds.holds; settled = finds.settled; within = finds.within }

pub ready_later : (w : World) (now : ℕ) → IsReady w → IsReady (at_moment w now)
ready_later w now ready = record {
  order = order_later w.cell w.time (at_moment w now).time (archive_of w) ready.order (moment_later w.time now) (moment_four w.time now ready.order.four);
  name = ready.name;
  ports = ready.ports;
  apart = ready.apart;
}

-- ---- turns

module _ (w : World) (finds : Finds w) where
  -- commands on groups where none is open, and all but the end of one where one is
  group_alone_leads : (command : GroupCommand) → LeadsTurn w (group_alone w command)
  group_alone_leads (Together schedule) = leads_turn w (group_alone w (Together schedule)) finds (left_keeps w finds ok_line (with_open (opened schedule) w.groups))
  group_alone_leads (Kill job after) = leads_turn w (group_alone w (Kill job after)) finds (said_keeps w finds _)
  group_alone_leads End = leads_turn w (group_alone w End) finds (said_keeps w finds _)
  group_alone_leads Jobs = leads_turn w (group_alone w Jobs) finds (said_keeps w finds _)

  barred_leads : (command : Command) → LeadsTurn w (barred w command)
  barred_leads command = leads_turn w (barred w command) finds (said_keeps w finds _)

  left_leads : (told : Told) → LeadsTurn w (left_open w told)
  left_leads told = leads_turn w (left_open w told) finds (left_keeps w finds told.text (with_open told.group w.groups))

module _ (laws : Lower) (w : World) (has : HasTapes w) (finds : Finds w) (group : HasGroupForm w.groups.open) where
  alone_leads : (command : Command) → HasForms command → IsReadyForCommand w command → LeadsTurn w (alone w command)
  alone_leads (Database command) form ready = leads_turn w (carried w (verdict (after w.log) command)) finds (database_keeps laws.reads laws.assembles laws.same w has finds command form)
  alone_leads (Tape command) form ready = leads_turn w (tape_turn w command) finds (tape_keeps laws.reads laws.assembles laws.same w has finds command form ready.back)
  alone_leads (Cell command) form ready = leads_turn w (on_cell w (cell_answer w.cell w.time command)) finds (cell_keeps w finds (cell_answer w.cell w.time command))
  alone_leads (Dump command) form ready = dump_leads laws.dumps w has finds group (ready.ready refl) command form
  alone_leads (Group command) form ready = group_alone_leads w finds command
  alone_leads (Restore command) form ready = leads_turn w (archive_turn w command) finds (restore_keeps w finds (restore_answer (archive_of w) (after w.log).sets w.cell w.time command))

  module _ (g : GroupView) (its : IsGroupForm g) where
    group_in_leads : (command : GroupCommand) → IsReadyForCommand w (Group command) → LeadsTurn w (group_in w g command)
    group_in_leads (Together schedule) ready = barred_leads w finds (Group (Together schedule))
    group_in_leads (Kill job after) ready = left_leads w finds (kill g job after)
    group_in_leads End ready = end_leads laws.ends w has finds group (ready.ready refl) g its
    group_in_leads Jobs ready = barred_leads w finds (Group Jobs)

    in_leads : (command : Command) → IsReadyForCommand w command → LeadsTurn w (in_group w g command)
    in_leads (Database command) ready = barred_leads w finds (Database command)
    in_leads (Tape command) ready = barred_leads w finds (Tape command)
    in_leads (Cell command) ready = barred_leads w finds (Cell command)
    in_leads (Dump command) ready = left_leads w finds (hold g command)
    in_leads (Group command) ready = group_in_leads command ready
    in_leads (Restore command) ready = barred_leads w finds (Restore command)

  done_leads : (o : Option GroupView) → HasGroupForm o → (command : Command) → HasForms command → IsReadyForCommand w command → LeadsTurn w (done_in w o command)
  done_leads None its command form ready = alone_leads command form ready
  done_leads (Some g) its command form ready = in_leads g its command ready

-- ---- at a moment of the clock

module _ (laws : Lower) (w : World) (now : ℕ) (held : HoldsWorld w) (command : Command) (form : HasForms command) (ready : IsReadyForCommand (at_moment w now) command) where
  pub turn_leads : LeadsTurn w (turn w now command)
  unfolding turn
  turn_leads =
      leads_later w now (done (at_moment w now) command)
      (done_leads laws (at_moment w now) (has_later w now held.tapes) (finds_later w now (finds_of w held)) held.group w.groups.open held.group command form ready)

  pub turn_tapes : HasTapes (after_turn w (turn w now command))
  turn_tapes =
      let here : HasTapes (at_moment w now) = has_later w now held.tapes in
      let finds : Finds (at_moment w now) = finds_later w now (finds_of w held) in
      turn_has_tapes w now command held.tapes
      (λ dump is. dump_short laws.dumps (at_moment w now) here finds held.group (ready.ready (ap asks_dump is)) dump (subst HasForms is form))
      (λ g opened is. end_short laws.ends (at_moment w now) here finds held.group (ready.ready (ap asks_dump is)) g (subst HasGroupForm opened held.group))

  -- behind the command, with its reply told
  pub turn_holds : HoldsWorld (after_turn w (turn w now command))
  turn_holds = world_of (after_turn w (turn w now command)) turn_tapes (leads_replied w (turn w now command) turn_leads).finds (turn_group w now command form held.group)
