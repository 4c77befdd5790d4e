use Rattle.archive_model.proofs.LogLaws.{same_dumps_hold}
use Rattle.archive_model.proofs.holding.a_log_with_the_same_dumps_holds.Goals as goal

pub returns : goal.returns
returns c = same_dumps_hold
