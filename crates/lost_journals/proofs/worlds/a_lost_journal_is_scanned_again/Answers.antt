use Rattle.backup_script.specs.Scripts.{script}
use Rattle.lost_journals.proofs.Standing.{under_no_dump}
use Rattle.lost_journals.proofs.Again.{listed_again, was_dump}
use Rattle.lost_journals.proofs.worlds.a_lost_journal_is_scanned_again.Goals as goal

pub returns-clause-listed : goal.returns-clause-listed
returns-clause-listed c = λ w v now offset port held has lost is. listed_again w v held has now offset port is lost.none c.recorded_dumps_are_listed_again.ensures

pub returns-clause-own : goal.returns-clause-own
returns-clause-own c = λ w v now offset port held has lost is. was_dump w v held has now offset port is lost.none (c.a_scan_lists_what_is_whole.ensures v has.alone now offset port is)

pub returns-clause-throughout : goal.returns-clause-throughout
returns-clause-throughout c = λ w v moments lines held has lost ready. c.scripts_keep_the_archive.ensures.throughout v moments lines (under_no_dump w v held has lost.changes lost.log lost.none) ready

pub returns-clause-after_a_script : goal.returns-clause-after_a_script
returns-clause-after_a_script c = λ w v moments later lines more held ready has lost ready_later.
    c.scripts_keep_the_archive.ensures.throughout v later more (under_no_dump (script w moments lines).world v (c.scripts_keep_the_archive.ensures.behind w moments lines held ready) has lost.changes lost.log lost.none) ready_later

pub returns-clause-behind : goal.returns-clause-behind
returns-clause-behind c = λ w v moments lines held has lost ready. c.scripts_keep_the_archive.ensures.behind v moments lines (under_no_dump w v held has lost.changes lost.log lost.none) ready
