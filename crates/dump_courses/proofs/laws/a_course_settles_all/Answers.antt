use Rattle.dump_courses.proofs.SettledCourses.{behind_settled_point}
use Rattle.dump_courses.proofs.CourseEnds.{course_settled}
use Rattle.dump_courses.proofs.laws.a_course_settles_all.Goals as goal

pub returns-clause-between : goal.returns-clause-between
returns-clause-between c = behind_settled_point

pub returns-clause-ended : goal.returns-clause-ended
returns-clause-ended c = course_settled
