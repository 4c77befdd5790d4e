use Rattle.archive_model.proofs.ForgetLaws.{heads_stay_own}
use Rattle.archive_model.proofs.steps.a_put_keeps_own_heads.Goals as goal

pub returns : goal.returns
returns c = heads_stay_own
