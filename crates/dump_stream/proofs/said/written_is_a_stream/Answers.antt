use Rattle.dump_stream.proofs.WrittenLaws.{written_spells}
use Rattle.dump_stream.proofs.said.written_is_a_stream.Goals as goal

pub returns : goal.returns
returns c = written_spells
