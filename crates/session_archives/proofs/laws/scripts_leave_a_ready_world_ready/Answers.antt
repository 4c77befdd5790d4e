use Rattle.session_archives.proofs.ReadyScripts.{script_ready}
use Rattle.session_archives.proofs.TurnLeads.{Lower}
use Rattle.session_archives.proofs.laws.scripts_leave_a_ready_world_ready.Goals as goal

pub returns : goal.returns
returns c = λ w moments lines apart back held ready.
    let laws : Lower = record { reads = record { tests = c.form_tests.ensures.tape_name; one = c.one_frame.ensures; frame = c.a_block_is_read.ensures.frame; none = c.a_block_is_read.ensures.none; once = c.a_tape_is_read.ensures.one }; assembles = record { scans = c.the_slots_are_scanned.ensures.scans; found = c.the_tapes_are_assembled.ensures.found }; same = c.checkpoint_makes_the_same_database.ensures; names = c.form_tests.ensures.name; dumps = record { bytes = c.what_a_dump_commits_has_bytes.ensures; volumes = c.what_a_dump_leaves_has_forms.ensures.contents; way = c.a_dump_keeps_the_archive.ensures.on_the_way; listed = c.a_dump_keeps_the_archive.ensures.listed; behind = c.what_a_dump_asks_is_so_behind_it.ensures }; ends = record { bytes = c.what_an_end_commits_has_bytes.ensures; volumes = c.what_an_end_leaves_has_forms.ensures.contents; way = c.an_end_keeps_the_archive.ensures.on_the_way; listed = c.an_end_keeps_the_archive.ensures.listed; behind = c.what_a_dump_asks_is_so_behind_an_end.ensures } } in
    script_ready laws w moments lines apart back held ready
