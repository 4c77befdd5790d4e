use Rattle.dump_laws.proofs.PartLaws.{ended_closes}
use Rattle.dump_laws.proofs.texts.an_ended_part_is_closed.Goals as goal

pub returns : goal.returns
returns c = ended_closes
