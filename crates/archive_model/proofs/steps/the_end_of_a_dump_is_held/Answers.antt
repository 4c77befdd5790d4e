use Rattle.archive_model.proofs.ExampleLaws.{dump_done_holds}
use Rattle.archive_model.proofs.steps.the_end_of_a_dump_is_held.Goals as goal

pub returns : goal.returns
returns c = dump_done_holds
