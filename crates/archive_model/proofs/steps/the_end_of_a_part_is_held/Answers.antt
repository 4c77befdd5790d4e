use Rattle.archive_model.proofs.JobLaws.{part_ended_holds}
use Rattle.archive_model.proofs.steps.the_end_of_a_part_is_held.Goals as goal

pub returns : goal.returns
returns c = part_ended_holds
