use Rattle.dump_stream.proofs.ReadLaws.{one_stream}
use Rattle.dump_stream.proofs.prefixes.no_stream_begins_another.Goals as goal

pub returns : goal.returns
returns c = one_stream
