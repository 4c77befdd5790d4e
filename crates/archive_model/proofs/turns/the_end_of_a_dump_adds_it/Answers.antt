use Rattle.archive_model.proofs.DumpLaws.{dump_end_holds}
use Rattle.archive_model.proofs.turns.the_end_of_a_dump_adds_it.Goals as goal

pub returns : goal.returns
returns c = dump_end_holds
