use Rattle.std.specs.Prelude.{true}
use Rattle.backup_session.specs.Worlds.{archive_of, after_turn}
use Rattle.backup_session.specs.Machine.{turn}
use Rattle.backup_words.specs.declared.command.Command.TheVariants.{Tape}
use Rattle.backup_words.specs.declared.command.TapeCommand.TheVariants.{Scantape}
use Rattle.lost_journals.proofs.Alike.{restored_alike}
use Rattle.lost_journals.proofs.Restored.{same_list, same_contents, here_too}
use Rattle.lost_journals.proofs.worlds.what_is_scanned_again_is_restored_again.Goals as goal

pub returns : goal.returns
returns c = λ w v now offset port held has lost is known room.
    let again = c.recorded_dumps_are_listed_again.ensures in
    let lists = c.a_scan_lists_what_is_whole.ensures v has.alone now offset port is in
    restored_alike (archive_of w) (archive_of (after_turn v (turn v now (Tape (Scantape true offset)))))
    (same_list w v held has now offset port is lost.none again lists known room) (same_contents w v held has now offset port is lost.none again lists known room) (here_too w v held has now offset port is lost.none again lists known room)
