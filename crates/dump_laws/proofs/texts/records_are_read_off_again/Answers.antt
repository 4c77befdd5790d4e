use Rattle.dump_laws.proofs.RecordLaws.{records_again}
use Rattle.dump_laws.proofs.texts.records_are_read_off_again.Goals as goal

pub returns : goal.returns
returns c = records_again
