use Rattle.archive_model.proofs.StepLaws.{replacement_holds}
use Rattle.archive_model.proofs.turns.a_replaced_log_keeps_all.Goals as goal

pub returns : goal.returns
returns c = replacement_holds
