use Rattle.archive_model.proofs.HoldLaws.{lies_stands}
use Rattle.archive_model.proofs.holding.what_lies_is_played.Goals as goal

pub returns : goal.returns
returns c = lies_stands
