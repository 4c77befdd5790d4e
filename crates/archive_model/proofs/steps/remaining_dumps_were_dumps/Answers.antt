use Rattle.archive_model.proofs.JobLaws.{remaining_among}
use Rattle.archive_model.proofs.steps.remaining_dumps_were_dumps.Goals as goal

pub returns : goal.returns
returns c = remaining_among
