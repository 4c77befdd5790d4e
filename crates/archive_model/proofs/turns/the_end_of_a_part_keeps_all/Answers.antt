use Rattle.archive_model.proofs.DumpLaws.{part_end_holds}
use Rattle.archive_model.proofs.turns.the_end_of_a_part_keeps_all.Goals as goal

pub returns : goal.returns
returns c = part_end_holds
