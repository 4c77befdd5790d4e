use Rattle.archive_model.proofs.HoldLaws.{unheaded}
use Rattle.archive_model.proofs.holding.without_its_head_nothing_is_held.Goals as goal

pub returns : goal.returns
returns c = unheaded
