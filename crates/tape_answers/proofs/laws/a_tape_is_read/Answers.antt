use Rattle.tape_answers.specs.Reading.{items_of}
use Rattle.tape_answers.proofs.ReadingLaws.{tape_read}
use Rattle.tape_answers.proofs.laws.a_tape_is_read.Goals as goal

pub returns-clause-read : goal.returns-clause-read
returns-clause-read c = tape_read (record { name = c.form_tests.ensures.name; host = c.form_tests.ensures.host; set_name = c.form_tests.ensures.set_name; tape_name = c.form_tests.ensures.tape_name; level_path = c.form_tests.ensures.level_path })

pub returns-clause-one : goal.returns-clause-one
returns-clause-one c = λ tape items read. c.one_reading.ensures tape items (items_of tape) read (tape_read (record { name = c.form_tests.ensures.name; host = c.form_tests.ensures.host; set_name = c.form_tests.ensures.set_name; tape_name = c.form_tests.ensures.tape_name; level_path = c.form_tests.ensures.level_path }) tape)
