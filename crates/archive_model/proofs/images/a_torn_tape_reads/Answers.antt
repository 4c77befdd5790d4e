use Rattle.archive_model.proofs.TornLaws.{torn_reads}
use Rattle.archive_model.proofs.images.a_torn_tape_reads.Goals as goal

pub returns : goal.returns
returns c = torn_reads
