use Rattle.tape_answers.proofs.SlotLaws.{slots_long, slot_here, slot_items}
use Rattle.tape_answers.proofs.laws.the_slots_are_read.Goals as goal

pub returns-clause-count : goal.returns-clause-count
returns-clause-count c = λ count present tape. slots_long present tape count

pub returns-clause-here : goal.returns-clause-here
returns-clause-here c = λ count present tape. slot_here present tape count

pub returns-clause-items : goal.returns-clause-items
returns-clause-items c = λ count present tape. slot_items present tape (record { name = c.form_tests.ensures.name; host = c.form_tests.ensures.host; set_name = c.form_tests.ensures.set_name; tape_name = c.form_tests.ensures.tape_name; level_path = c.form_tests.ensures.level_path }) count
