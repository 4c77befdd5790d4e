use Rattle.tape_writer.proofs.Standing.{reads_put}
use Rattle.tape_writer.proofs.laws.what_is_put_is_read.Goals as goal

pub returns : goal.returns
returns c = reads_put
