-- What restores and scans are on the lines of a script.
use Rattle.std.proofs.Common.{◌≡◌, ℕ, List, ap}
use Rattle.std.specs.Prelude.{Option, None}
use Rattle.restore_chain.proofs.AnswerLaws.{looked_up_is, looked_up_only}
use Rattle.restore_commands.proofs.FoundLaws.{below}
use Rattle.backup_words.specs.declared.command.RestoreCommand.{RestoreCommand}
use Rattle.backup_words.specs.declared.command.Command.{Command}
use Rattle.backup_words.specs.declared.command.Command.TheVariants.{Restore}
use Rattle.group_commands.specs.Groups.{GroupView}
use Rattle.backup_session.specs.Worlds.{World, archive_of, at_moment}
use Rattle.backup_session.specs.Machine.{alone, done_in, turn}
use Rattle.backup_session.proofs.AgainLaws.{OneReading, found_again}
use Rattle.backup_session.proofs.TurnLaws.{scan_lists, listed_again}
use Rattle.session_archives.specs.OnLines.{world_behind, moment_behind, IsLookedUp, RestoresLookUp, ScansListWhole}

-- outside of a group
turn_alone : (w : World) (now : ℕ) (command : Command) → w.groups.open ≡ None → turn w now command ≡ alone (at_moment w now) command
unfolding turn
turn_alone w now command none = ap (λ (o : Option GroupView). done_in (at_moment w now) o command) none

is_looked_up : (w : World) (now : ℕ) (command : RestoreCommand) → w.groups.open ≡ None → IsLookedUp w now command
is_looked_up w now command none = record {
  answered = turn_alone w now (Restore command) none;
  looks_up = λ name before. looked_up_is (archive_of w) name before (below (archive_of w));
  only = λ name before outcome. looked_up_only (archive_of w) name before outcome (below (archive_of w));
}

pub restores_look_up : (w : World) (moments : List ℕ) (lines : List (List ℕ)) → RestoresLookUp w moments lines
restores_look_up w moments lines before command on = is_looked_up (world_behind w moments before) (moment_behind w moments before) command on.alone

pub scans_list_whole : OneReading → (w : World) (moments : List ℕ) (lines : List (List ℕ)) → ScansListWhole w moments lines
scans_list_whole reading w moments lines before offset port on is =
    let v = world_behind w moments before in
    let lists = scan_lists v on.alone (moment_behind w moments before) offset port is in
    record {
      lists = lists;
      among = λ stock a records held these. found_again reading v stock a records held these port lists.whole lists.left lists.scanned;
      again = listed_again reading v on.alone (moment_behind w moments before) offset port is;
    }
