use Rattle.tape_scan.proofs.TellingLaws.{told_of_items}
use Rattle.tape_answers.proofs.ScanningLaws.{told_of_tape, one_told, read_told}
use Rattle.tape_answers.proofs.laws.a_scan_tells.Goals as goal

pub returns-clause-told : goal.returns-clause-told
returns-clause-told c = told_of_tape (record { name = c.form_tests.ensures.name; host = c.form_tests.ensures.host; set_name = c.form_tests.ensures.set_name; tape_name = c.form_tests.ensures.tape_name; level_path = c.form_tests.ensures.level_path })

pub returns-clause-one : goal.returns-clause-one
returns-clause-one c = one_told (record { name = c.form_tests.ensures.name; host = c.form_tests.ensures.host; set_name = c.form_tests.ensures.set_name; tape_name = c.form_tests.ensures.tape_name; level_path = c.form_tests.ensures.level_path })

pub returns-clause-read : goal.returns-clause-read
returns-clause-read c = read_told (record { name = c.form_tests.ensures.name; host = c.form_tests.ensures.host; set_name = c.form_tests.ensures.set_name; tape_name = c.form_tests.ensures.tape_name; level_path = c.form_tests.ensures.level_path })

pub returns-clause-items : goal.returns-clause-items
returns-clause-items c = told_of_items
