use Rattle.job_pool.proofs.CourseLaws.{course_ends, course_goes, course_stops}
use Rattle.job_pool.proofs.laws.dumps_by_a_schedule_end.Goals as goal

pub returns-clause-ends : goal.returns-clause-ends
returns-clause-ends c = course_ends

pub returns-clause-goes : goal.returns-clause-goes
returns-clause-goes c = course_goes

pub returns-clause-stops : goal.returns-clause-stops
returns-clause-stops c = course_stops
