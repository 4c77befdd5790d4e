use Rattle.archive_model.proofs.JobLaws.{last_part_found}
use Rattle.archive_model.proofs.steps.the_last_part_makes_a_dump_found.Goals as goal

pub returns : goal.returns
returns c = last_part_found
