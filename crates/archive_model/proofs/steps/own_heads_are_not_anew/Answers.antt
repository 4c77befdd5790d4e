use Rattle.archive_model.proofs.JobLaws.{own_are_fresh}
use Rattle.archive_model.proofs.steps.own_heads_are_not_anew.Goals as goal

pub returns : goal.returns
returns c = own_are_fresh
