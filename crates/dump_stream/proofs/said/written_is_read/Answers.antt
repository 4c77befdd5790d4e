use Rattle.dump_stream.proofs.WrittenLaws.{written_answers}
use Rattle.dump_stream.proofs.said.written_is_read.Goals as goal

pub returns : goal.returns
returns c = written_answers
