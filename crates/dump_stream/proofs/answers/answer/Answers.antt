use Rattle.std.proofs.Common.{[]}
use Rattle.dump_stream.proofs.ReadLaws.{at_start}
use Rattle.dump_stream.proofs.answers.answer.Goals as goal

pub returns-in-Ok : goal.returns-in-Ok
returns-in-Ok c =
    let start = at_start c.new-machine.result c.new-machine.ensures in
    c.answered.ensures c.args.bytes.now (c.in-Ok.ensures.ran [] start)
