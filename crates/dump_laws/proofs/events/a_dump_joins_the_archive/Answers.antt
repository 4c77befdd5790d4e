use Rattle.dump_laws.proofs.DumpEnds.{ended_done}
use Rattle.dump_laws.proofs.events.a_dump_joins_the_archive.Goals as goal

pub returns : goal.returns
returns c = ended_done
