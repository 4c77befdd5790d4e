use Rattle.dump_job.proofs.Names.{last_is}
use Rattle.dump_job.proofs.naming.last_element.Goals as goal

pub returns : goal.returns
returns c = last_is c.args.level.now c.last.result.now c.bytes-bytes.ensures.form c.last.ensures
