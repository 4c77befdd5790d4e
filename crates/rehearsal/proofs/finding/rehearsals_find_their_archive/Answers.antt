use Rattle.std.proofs.Common.{refl}
use Rattle.rehearsal.specs.Sessions.{blank_world}
use Rattle.rehearsal.proofs.Holding.{Laws, first_finds, second_finds, third_finds}
use Rattle.rehearsal.proofs.finding.rehearsals_find_their_archive.Goals as goal

pub returns-clause-first : goal.returns-clause-first
returns-clause-first c =
    let laws : Laws = record { tests = record { name = c.form_tests.ensures.name; host = c.form_tests.ensures.host; set_name = c.form_tests.ensures.set_name; level_path = c.form_tests.ensures.level_path }; keep = c.commands_keep_the_archive.ensures.behind; ready = c.commands_leave_a_ready_world_ready.ensures; blank = λ nothing settled within has. c.blank_worlds_hold_no_dump.ensures blank_world refl nothing settled within has tt; blank_ready = c.blank_worlds_are_ready.ensures blank_world refl; none = c.tapes_hold_without_their_journal.ensures.none; same = c.tapes_hold_without_their_journal.ensures.same } in
    first_finds laws

pub returns-clause-second : goal.returns-clause-second
returns-clause-second c =
    let laws : Laws = record { tests = record { name = c.form_tests.ensures.name; host = c.form_tests.ensures.host; set_name = c.form_tests.ensures.set_name; level_path = c.form_tests.ensures.level_path }; keep = c.commands_keep_the_archive.ensures.behind; ready = c.commands_leave_a_ready_world_ready.ensures; blank = λ nothing settled within has. c.blank_worlds_hold_no_dump.ensures blank_world refl nothing settled within has tt; blank_ready = c.blank_worlds_are_ready.ensures blank_world refl; none = c.tapes_hold_without_their_journal.ensures.none; same = c.tapes_hold_without_their_journal.ensures.same } in
    second_finds laws

pub returns-clause-third : goal.returns-clause-third
returns-clause-third c =
    let laws : Laws = record { tests = record { name = c.form_tests.ensures.name; host = c.form_tests.ensures.host; set_name = c.form_tests.ensures.set_name; level_path = c.form_tests.ensures.level_path }; keep = c.commands_keep_the_archive.ensures.behind; ready = c.commands_leave_a_ready_world_ready.ensures; blank = λ nothing settled within has. c.blank_worlds_hold_no_dump.ensures blank_world refl nothing settled within has tt; blank_ready = c.blank_worlds_are_ready.ensures blank_world refl; none = c.tapes_hold_without_their_journal.ensures.none; same = c.tapes_hold_without_their_journal.ensures.same } in
    third_finds laws
