use Rattle.archive_model.proofs.StepLaws.{take_commit}
use Rattle.archive_model.proofs.turns.a_take_keeps_what_is_whole.Goals as goal

pub returns : goal.returns
returns c = take_commit
