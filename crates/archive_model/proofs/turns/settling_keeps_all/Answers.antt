use Rattle.archive_model.proofs.StepLaws.{settling_holds}
use Rattle.archive_model.proofs.turns.settling_keeps_all.Goals as goal

pub returns : goal.returns
returns c = settling_holds
