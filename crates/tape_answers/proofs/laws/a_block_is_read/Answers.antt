use Rattle.tape_answers.proofs.ReadingLaws.{frame_there, no_frame, read_again}
use Rattle.tape_answers.proofs.laws.a_block_is_read.Goals as goal

pub returns-clause-frame : goal.returns-clause-frame
returns-clause-frame c = frame_there (record { name = c.form_tests.ensures.name; host = c.form_tests.ensures.host; set_name = c.form_tests.ensures.set_name; tape_name = c.form_tests.ensures.tape_name; level_path = c.form_tests.ensures.level_path })

pub returns-clause-none : goal.returns-clause-none
returns-clause-none c = no_frame (record { name = c.form_tests.ensures.name; host = c.form_tests.ensures.host; set_name = c.form_tests.ensures.set_name; tape_name = c.form_tests.ensures.tape_name; level_path = c.form_tests.ensures.level_path })

pub returns-clause-again : goal.returns-clause-again
returns-clause-again c = read_again (record { name = c.form_tests.ensures.name; host = c.form_tests.ensures.host; set_name = c.form_tests.ensures.set_name; tape_name = c.form_tests.ensures.tape_name; level_path = c.form_tests.ensures.level_path })
