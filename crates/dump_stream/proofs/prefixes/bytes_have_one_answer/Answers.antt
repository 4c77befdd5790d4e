use Rattle.dump_stream.proofs.ReadLaws.{one_answer}
use Rattle.dump_stream.proofs.prefixes.bytes_have_one_answer.Goals as goal

pub returns : goal.returns
returns c = one_answer
