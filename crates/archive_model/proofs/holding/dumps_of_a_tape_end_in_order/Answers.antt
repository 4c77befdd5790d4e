use Rattle.archive_model.proofs.StillLaws.{ends_in_order}
use Rattle.archive_model.proofs.holding.dumps_of_a_tape_end_in_order.Goals as goal

pub returns : goal.returns
returns c = ends_in_order
