use Rattle.archive_model.proofs.JobLaws.{taken_holds}
use Rattle.archive_model.proofs.steps.a_taken_tape_is_held.Goals as goal

pub returns : goal.returns
returns c = taken_holds
