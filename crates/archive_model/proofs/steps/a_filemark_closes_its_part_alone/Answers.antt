use Rattle.archive_model.proofs.EndLaws.{or_new}
use Rattle.archive_model.proofs.steps.a_filemark_closes_its_part_alone.Goals as goal

pub returns : goal.returns
returns c = or_new
