use Rattle.archive_model.proofs.StepLaws.{untouched_commit}
use Rattle.archive_model.proofs.turns.a_commit_that_touches_no_dump_keeps_all.Goals as goal

pub returns : goal.returns
returns c = untouched_commit
