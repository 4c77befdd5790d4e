use Rattle.archive_model.proofs.StepLaws.{told_holds}
use Rattle.archive_model.proofs.turns.told_text_keeps_all.Goals as goal

pub returns : goal.returns
returns c = told_holds
