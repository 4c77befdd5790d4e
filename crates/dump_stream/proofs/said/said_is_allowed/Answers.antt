use Rattle.dump_stream.proofs.SaidLaws.{said_allowed}
use Rattle.dump_stream.proofs.said.said_is_allowed.Goals as goal

pub returns : goal.returns
returns c = said_allowed
