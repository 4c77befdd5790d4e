use Rattle.std.proofs.Common.{arith, length-append}
use Rattle.dump_job.proofs.cloning.count_done.Goals as goal

pub overflow_add-result : goal.overflow_add-result
overflow_add-result c =
    let r = simp (c.in-Some.is, length-append) at c.requires in
    omega arith
