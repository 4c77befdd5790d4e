use Rattle.dump_stream.proofs.ReadLaws.{one_answer}
use Rattle.dump_stream.proofs.answers.read.Goals as goal

pub returns-clause-only : goal.returns-clause-only
returns-clause-only c = λ other h. one_answer c.args.bytes.now c.answer.result other c.answer.ensures h
