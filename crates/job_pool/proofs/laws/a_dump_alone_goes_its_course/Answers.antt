use Rattle.job_pool.proofs.Ones.{one_is_course}
use Rattle.job_pool.proofs.laws.a_dump_alone_goes_its_course.Goals as goal

pub returns : goal.returns
returns c = one_is_course
