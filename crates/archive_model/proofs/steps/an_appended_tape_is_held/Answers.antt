use Rattle.archive_model.proofs.JobLaws.{appended_holds}
use Rattle.archive_model.proofs.steps.an_appended_tape_is_held.Goals as goal

pub returns : goal.returns
returns c = appended_holds
