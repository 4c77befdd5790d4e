use Rattle.archive_model.proofs.JobLaws.{cut_keeps_own}
use Rattle.archive_model.proofs.steps.a_cut_keeps_own_heads.Goals as goal

pub returns : goal.returns
returns c = cut_keeps_own
