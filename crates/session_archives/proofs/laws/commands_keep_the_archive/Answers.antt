use Rattle.backup_session.specs.Machine.{turn}
use Rattle.session_archives.proofs.Leading.{leads_replied}
use Rattle.session_archives.proofs.TurnLeads.{Lower, turn_leads, turn_holds}
use Rattle.session_archives.proofs.DumpTurns.{SinceLaws}
use Rattle.session_archives.proofs.SinceTurns.{turn_came}
use Rattle.session_archives.proofs.laws.commands_keep_the_archive.Goals as goal

pub returns-clause-behind : goal.returns-clause-behind
returns-clause-behind c = λ w now command form held ready.
    let laws : Lower = record { reads = record { tests = c.form_tests.ensures.tape_name; one = c.one_frame.ensures; frame = c.a_block_is_read.ensures.frame; none = c.a_block_is_read.ensures.none; once = c.a_tape_is_read.ensures.one }; assembles = record { scans = c.the_slots_are_scanned.ensures.scans; found = c.the_tapes_are_assembled.ensures.found }; same = c.checkpoint_makes_the_same_database.ensures; names = c.form_tests.ensures.name; dumps = record { bytes = c.what_a_dump_commits_has_bytes.ensures; volumes = c.what_a_dump_leaves_has_forms.ensures.contents; way = c.a_dump_keeps_the_archive.ensures.on_the_way; listed = c.a_dump_keeps_the_archive.ensures.listed; behind = c.what_a_dump_asks_is_so_behind_it.ensures }; ends = record { bytes = c.what_an_end_commits_has_bytes.ensures; volumes = c.what_an_end_leaves_has_forms.ensures.contents; way = c.an_end_keeps_the_archive.ensures.on_the_way; listed = c.an_end_keeps_the_archive.ensures.listed; behind = c.what_a_dump_asks_is_so_behind_an_end.ensures } } in
    turn_holds laws w now held command form ready

pub returns-clause-on_the_way : goal.returns-clause-on_the_way
returns-clause-on_the_way c = λ w now command form held ready.
    let laws : Lower = record { reads = record { tests = c.form_tests.ensures.tape_name; one = c.one_frame.ensures; frame = c.a_block_is_read.ensures.frame; none = c.a_block_is_read.ensures.none; once = c.a_tape_is_read.ensures.one }; assembles = record { scans = c.the_slots_are_scanned.ensures.scans; found = c.the_tapes_are_assembled.ensures.found }; same = c.checkpoint_makes_the_same_database.ensures; names = c.form_tests.ensures.name; dumps = record { bytes = c.what_a_dump_commits_has_bytes.ensures; volumes = c.what_a_dump_leaves_has_forms.ensures.contents; way = c.a_dump_keeps_the_archive.ensures.on_the_way; listed = c.a_dump_keeps_the_archive.ensures.listed; behind = c.what_a_dump_asks_is_so_behind_it.ensures }; ends = record { bytes = c.what_an_end_commits_has_bytes.ensures; volumes = c.what_an_end_leaves_has_forms.ensures.contents; way = c.an_end_keeps_the_archive.ensures.on_the_way; listed = c.an_end_keeps_the_archive.ensures.listed; behind = c.what_a_dump_asks_is_so_behind_an_end.ensures } } in
    (leads_replied w (turn w now command) (turn_leads laws w now held command form ready)).way

pub returns-clause-listed : goal.returns-clause-listed
returns-clause-listed c = λ w now command form held ready.
    let laws : Lower = record { reads = record { tests = c.form_tests.ensures.tape_name; one = c.one_frame.ensures; frame = c.a_block_is_read.ensures.frame; none = c.a_block_is_read.ensures.none; once = c.a_tape_is_read.ensures.one }; assembles = record { scans = c.the_slots_are_scanned.ensures.scans; found = c.the_tapes_are_assembled.ensures.found }; same = c.checkpoint_makes_the_same_database.ensures; names = c.form_tests.ensures.name; dumps = record { bytes = c.what_a_dump_commits_has_bytes.ensures; volumes = c.what_a_dump_leaves_has_forms.ensures.contents; way = c.a_dump_keeps_the_archive.ensures.on_the_way; listed = c.a_dump_keeps_the_archive.ensures.listed; behind = c.what_a_dump_asks_is_so_behind_it.ensures }; ends = record { bytes = c.what_an_end_commits_has_bytes.ensures; volumes = c.what_an_end_leaves_has_forms.ensures.contents; way = c.an_end_keeps_the_archive.ensures.on_the_way; listed = c.an_end_keeps_the_archive.ensures.listed; behind = c.what_a_dump_asks_is_so_behind_an_end.ensures } } in
    (leads_replied w (turn w now command) (turn_leads laws w now held command form ready)).listed

pub returns-clause-since : goal.returns-clause-since
returns-clause-since c = λ w now command form held ready.
    let laws : Lower = record { reads = record { tests = c.form_tests.ensures.tape_name; one = c.one_frame.ensures; frame = c.a_block_is_read.ensures.frame; none = c.a_block_is_read.ensures.none; once = c.a_tape_is_read.ensures.one }; assembles = record { scans = c.the_slots_are_scanned.ensures.scans; found = c.the_tapes_are_assembled.ensures.found }; same = c.checkpoint_makes_the_same_database.ensures; names = c.form_tests.ensures.name; dumps = record { bytes = c.what_a_dump_commits_has_bytes.ensures; volumes = c.what_a_dump_leaves_has_forms.ensures.contents; way = c.a_dump_keeps_the_archive.ensures.on_the_way; listed = c.a_dump_keeps_the_archive.ensures.listed; behind = c.what_a_dump_asks_is_so_behind_it.ensures }; ends = record { bytes = c.what_an_end_commits_has_bytes.ensures; volumes = c.what_an_end_leaves_has_forms.ensures.contents; way = c.an_end_keeps_the_archive.ensures.on_the_way; listed = c.an_end_keeps_the_archive.ensures.listed; behind = c.what_a_dump_asks_is_so_behind_an_end.ensures } } in
    let since : SinceLaws = record { dumps = c.a_dump_keeps_the_archive.ensures.since; ends = c.an_end_keeps_the_archive.ensures.since } in
    turn_came laws since w now held command form ready
