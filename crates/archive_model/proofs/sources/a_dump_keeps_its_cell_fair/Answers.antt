use Rattle.archive_model.proofs.FairLaws.{dump_stays_fair}
use Rattle.archive_model.proofs.sources.a_dump_keeps_its_cell_fair.Goals as goal

pub returns : goal.returns
returns c = dump_stays_fair
