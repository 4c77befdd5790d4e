use Rattle.archive_model.proofs.OwnLaws.{parts_settled}
use Rattle.archive_model.proofs.steps.settled_parts_are_a_settled_dump.Goals as goal

pub returns : goal.returns
returns c = parts_settled
