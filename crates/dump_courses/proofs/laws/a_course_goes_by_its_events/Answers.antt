use Rattle.dump_courses.specs.Courses.{around}
use Rattle.dump_courses.proofs.CourseLaws.{course_more, course_last, event_falls}
use Rattle.dump_courses.proofs.laws.a_course_goes_by_its_events.Goals as goal

pub returns-clause-more : goal.returns-clause-more
returns-clause-more c = course_more

pub returns-clause-last : goal.returns-clause-last
returns-clause-last c = course_last

pub returns-clause-fewer : goal.returns-clause-fewer
returns-clause-fewer c = λ s p. event_falls (around s p) p.job
