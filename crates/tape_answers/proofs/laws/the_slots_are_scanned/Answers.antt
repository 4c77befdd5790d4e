use Rattle.tape_answers.proofs.ScanningLaws.{own_slot, slots_scanned}
use Rattle.tape_answers.proofs.laws.the_slots_are_scanned.Goals as goal

pub returns-clause-scans : goal.returns-clause-scans
returns-clause-scans c = slots_scanned (record { name = c.form_tests.ensures.name; host = c.form_tests.ensures.host; set_name = c.form_tests.ensures.set_name; tape_name = c.form_tests.ensures.tape_name; level_path = c.form_tests.ensures.level_path })

pub returns-clause-slot : goal.returns-clause-slot
returns-clause-slot c = own_slot (record { name = c.form_tests.ensures.name; host = c.form_tests.ensures.host; set_name = c.form_tests.ensures.set_name; tape_name = c.form_tests.ensures.tape_name; level_path = c.form_tests.ensures.level_path })
