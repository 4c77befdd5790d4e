use Rattle.backup_script.specs.Scripts.{script}
use Rattle.session_archives.specs.Held.{contents_on}
use Rattle.session_archives.proofs.Leading.{leads_whole}
use Rattle.session_archives.proofs.ReadyScripts.{script_leads, script_settles, script_holds, script_came, script_finds}
use Rattle.session_archives.proofs.TurnLeads.{Lower}
use Rattle.session_archives.proofs.DumpTurns.{SinceLaws}
use Rattle.session_archives.proofs.laws.scripts_keep_the_archive.Goals as goal

pub returns-clause-behind : goal.returns-clause-behind
returns-clause-behind c = λ w moments lines held ready.
    let laws : Lower = record { reads = record { tests = c.form_tests.ensures.tape_name; one = c.one_frame.ensures; frame = c.a_block_is_read.ensures.frame; none = c.a_block_is_read.ensures.none; once = c.a_tape_is_read.ensures.one }; assembles = record { scans = c.the_slots_are_scanned.ensures.scans; found = c.the_tapes_are_assembled.ensures.found }; same = c.checkpoint_makes_the_same_database.ensures; names = c.form_tests.ensures.name; dumps = record { bytes = c.what_a_dump_commits_has_bytes.ensures; volumes = c.what_a_dump_leaves_has_forms.ensures.contents; way = c.a_dump_keeps_the_archive.ensures.on_the_way; listed = c.a_dump_keeps_the_archive.ensures.listed; behind = c.what_a_dump_asks_is_so_behind_it.ensures }; ends = record { bytes = c.what_an_end_commits_has_bytes.ensures; volumes = c.what_an_end_leaves_has_forms.ensures.contents; way = c.an_end_keeps_the_archive.ensures.on_the_way; listed = c.an_end_keeps_the_archive.ensures.listed; behind = c.what_a_dump_asks_is_so_behind_an_end.ensures } } in
    script_holds laws w moments lines held ready

pub returns-clause-on_the_way : goal.returns-clause-on_the_way
returns-clause-on_the_way c = λ w moments lines held ready.
    let laws : Lower = record { reads = record { tests = c.form_tests.ensures.tape_name; one = c.one_frame.ensures; frame = c.a_block_is_read.ensures.frame; none = c.a_block_is_read.ensures.none; once = c.a_tape_is_read.ensures.one }; assembles = record { scans = c.the_slots_are_scanned.ensures.scans; found = c.the_tapes_are_assembled.ensures.found }; same = c.checkpoint_makes_the_same_database.ensures; names = c.form_tests.ensures.name; dumps = record { bytes = c.what_a_dump_commits_has_bytes.ensures; volumes = c.what_a_dump_leaves_has_forms.ensures.contents; way = c.a_dump_keeps_the_archive.ensures.on_the_way; listed = c.a_dump_keeps_the_archive.ensures.listed; behind = c.what_a_dump_asks_is_so_behind_it.ensures }; ends = record { bytes = c.what_an_end_commits_has_bytes.ensures; volumes = c.what_an_end_leaves_has_forms.ensures.contents; way = c.an_end_keeps_the_archive.ensures.on_the_way; listed = c.an_end_keeps_the_archive.ensures.listed; behind = c.what_a_dump_asks_is_so_behind_an_end.ensures } } in
    (script_leads laws w moments lines held ready).way

pub returns-clause-whole : goal.returns-clause-whole
returns-clause-whole c = λ w moments lines held ready.
    let laws : Lower = record { reads = record { tests = c.form_tests.ensures.tape_name; one = c.one_frame.ensures; frame = c.a_block_is_read.ensures.frame; none = c.a_block_is_read.ensures.none; once = c.a_tape_is_read.ensures.one }; assembles = record { scans = c.the_slots_are_scanned.ensures.scans; found = c.the_tapes_are_assembled.ensures.found }; same = c.checkpoint_makes_the_same_database.ensures; names = c.form_tests.ensures.name; dumps = record { bytes = c.what_a_dump_commits_has_bytes.ensures; volumes = c.what_a_dump_leaves_has_forms.ensures.contents; way = c.a_dump_keeps_the_archive.ensures.on_the_way; listed = c.a_dump_keeps_the_archive.ensures.listed; behind = c.what_a_dump_asks_is_so_behind_it.ensures }; ends = record { bytes = c.what_an_end_commits_has_bytes.ensures; volumes = c.what_an_end_leaves_has_forms.ensures.contents; way = c.an_end_keeps_the_archive.ensures.on_the_way; listed = c.an_end_keeps_the_archive.ensures.listed; behind = c.what_a_dump_asks_is_so_behind_an_end.ensures } } in
    let s = script w moments lines in
    leads_whole w s.world (contents_on w moments lines) s.effects (script_leads laws w moments lines held ready)

pub returns-clause-listed : goal.returns-clause-listed
returns-clause-listed c = λ w moments lines held ready.
    let laws : Lower = record { reads = record { tests = c.form_tests.ensures.tape_name; one = c.one_frame.ensures; frame = c.a_block_is_read.ensures.frame; none = c.a_block_is_read.ensures.none; once = c.a_tape_is_read.ensures.one }; assembles = record { scans = c.the_slots_are_scanned.ensures.scans; found = c.the_tapes_are_assembled.ensures.found }; same = c.checkpoint_makes_the_same_database.ensures; names = c.form_tests.ensures.name; dumps = record { bytes = c.what_a_dump_commits_has_bytes.ensures; volumes = c.what_a_dump_leaves_has_forms.ensures.contents; way = c.a_dump_keeps_the_archive.ensures.on_the_way; listed = c.a_dump_keeps_the_archive.ensures.listed; behind = c.what_a_dump_asks_is_so_behind_it.ensures }; ends = record { bytes = c.what_an_end_commits_has_bytes.ensures; volumes = c.what_an_end_leaves_has_forms.ensures.contents; way = c.an_end_keeps_the_archive.ensures.on_the_way; listed = c.an_end_keeps_the_archive.ensures.listed; behind = c.what_a_dump_asks_is_so_behind_an_end.ensures } } in
    (script_leads laws w moments lines held ready).listed

pub returns-clause-settled : goal.returns-clause-settled
returns-clause-settled c = λ w moments lines held ready.
    let laws : Lower = record { reads = record { tests = c.form_tests.ensures.tape_name; one = c.one_frame.ensures; frame = c.a_block_is_read.ensures.frame; none = c.a_block_is_read.ensures.none; once = c.a_tape_is_read.ensures.one }; assembles = record { scans = c.the_slots_are_scanned.ensures.scans; found = c.the_tapes_are_assembled.ensures.found }; same = c.checkpoint_makes_the_same_database.ensures; names = c.form_tests.ensures.name; dumps = record { bytes = c.what_a_dump_commits_has_bytes.ensures; volumes = c.what_a_dump_leaves_has_forms.ensures.contents; way = c.a_dump_keeps_the_archive.ensures.on_the_way; listed = c.a_dump_keeps_the_archive.ensures.listed; behind = c.what_a_dump_asks_is_so_behind_it.ensures }; ends = record { bytes = c.what_an_end_commits_has_bytes.ensures; volumes = c.what_an_end_leaves_has_forms.ensures.contents; way = c.an_end_keeps_the_archive.ensures.on_the_way; listed = c.an_end_keeps_the_archive.ensures.listed; behind = c.what_a_dump_asks_is_so_behind_an_end.ensures } } in
    script_settles laws w moments lines held ready

pub returns-clause-throughout : goal.returns-clause-throughout
returns-clause-throughout c = λ w moments lines held ready.
    let laws : Lower = record { reads = record { tests = c.form_tests.ensures.tape_name; one = c.one_frame.ensures; frame = c.a_block_is_read.ensures.frame; none = c.a_block_is_read.ensures.none; once = c.a_tape_is_read.ensures.one }; assembles = record { scans = c.the_slots_are_scanned.ensures.scans; found = c.the_tapes_are_assembled.ensures.found }; same = c.checkpoint_makes_the_same_database.ensures; names = c.form_tests.ensures.name; dumps = record { bytes = c.what_a_dump_commits_has_bytes.ensures; volumes = c.what_a_dump_leaves_has_forms.ensures.contents; way = c.a_dump_keeps_the_archive.ensures.on_the_way; listed = c.a_dump_keeps_the_archive.ensures.listed; behind = c.what_a_dump_asks_is_so_behind_it.ensures }; ends = record { bytes = c.what_an_end_commits_has_bytes.ensures; volumes = c.what_an_end_leaves_has_forms.ensures.contents; way = c.an_end_keeps_the_archive.ensures.on_the_way; listed = c.an_end_keeps_the_archive.ensures.listed; behind = c.what_a_dump_asks_is_so_behind_an_end.ensures } } in
    script_finds laws w moments lines held ready

pub returns-clause-since : goal.returns-clause-since
returns-clause-since c = λ w moments lines held ready.
    let laws : Lower = record { reads = record { tests = c.form_tests.ensures.tape_name; one = c.one_frame.ensures; frame = c.a_block_is_read.ensures.frame; none = c.a_block_is_read.ensures.none; once = c.a_tape_is_read.ensures.one }; assembles = record { scans = c.the_slots_are_scanned.ensures.scans; found = c.the_tapes_are_assembled.ensures.found }; same = c.checkpoint_makes_the_same_database.ensures; names = c.form_tests.ensures.name; dumps = record { bytes = c.what_a_dump_commits_has_bytes.ensures; volumes = c.what_a_dump_leaves_has_forms.ensures.contents; way = c.a_dump_keeps_the_archive.ensures.on_the_way; listed = c.a_dump_keeps_the_archive.ensures.listed; behind = c.what_a_dump_asks_is_so_behind_it.ensures }; ends = record { bytes = c.what_an_end_commits_has_bytes.ensures; volumes = c.what_an_end_leaves_has_forms.ensures.contents; way = c.an_end_keeps_the_archive.ensures.on_the_way; listed = c.an_end_keeps_the_archive.ensures.listed; behind = c.what_a_dump_asks_is_so_behind_an_end.ensures } } in
    let since : SinceLaws = record { dumps = c.a_dump_keeps_the_archive.ensures.since; ends = c.an_end_keeps_the_archive.ensures.since } in
    script_came laws since w moments lines held ready
