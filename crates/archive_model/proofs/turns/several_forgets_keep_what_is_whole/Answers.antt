use Rattle.archive_model.proofs.ForgetLaws.{forgets_commit}
use Rattle.archive_model.proofs.turns.several_forgets_keep_what_is_whole.Goals as goal

pub returns : goal.returns
returns c = forgets_commit
