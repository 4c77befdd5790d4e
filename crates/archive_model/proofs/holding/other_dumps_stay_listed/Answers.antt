use Rattle.archive_model.proofs.HoldLaws.{others_stay}
use Rattle.archive_model.proofs.holding.other_dumps_stay_listed.Goals as goal

pub returns : goal.returns
returns c = others_stay
